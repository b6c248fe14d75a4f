-- The ledger that the call counts in is the one that the blank opens.
use Rattle.lama_pages.proofs.tests.a_write_to_a_copy_leaves_the_original.Given as goal

abbrev pub ghosts-copy_and_set : goal.ghosts-copy_and_set
ghosts-copy_and_set g a = record { name = a.blank.name; parts = a.blank.parts }
