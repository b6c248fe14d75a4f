-- The ledger that the call counts in is the one that the blank opens.
use Rattle.lama_book.proofs.tests.each_call_has_its_reply_and_its_entry.Given as goal

abbrev pub ghosts-run : goal.ghosts-run
ghosts-run g a = record { name = a.blank.name; parts = a.blank.parts }
