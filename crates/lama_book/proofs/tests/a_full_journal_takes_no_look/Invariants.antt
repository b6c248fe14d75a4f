-- The ledger that the call counts in is the one that the blank opens.
use Rattle.lama_book.proofs.tests.a_full_journal_takes_no_look.Given as goal

abbrev pub ghosts-looks : goal.ghosts-looks
ghosts-looks g a = record { name = a.blank.name; parts = a.blank.parts }
