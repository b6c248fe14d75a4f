-- The ledger that the call counts in is the one that the blank opens.
use Rattle.lama_book.proofs.tests.an_older_base_leaves_newer_floors.Given as goal

abbrev pub ghosts-older_last : goal.ghosts-older_last
ghosts-older_last g a = record { name = a.blank.name; parts = a.blank.parts }
