-- The ledger that the call counts in is the one that the blank opens.
use Rattle.lama_array.proofs.tests.an_edit_leaves_the_old_version.Given as goal

abbrev pub ghosts-edited : goal.ghosts-edited
ghosts-edited g a = record { name = a.blank.name; parts = a.blank.parts }
