-- The ledger that the call counts in is the one that the blank opens.
use Rattle.lama_snapshot.proofs.tests.a_change_leaves_the_old_snapshot.Given as goal

abbrev pub ghosts-three_loops : goal.ghosts-three_loops
ghosts-three_loops g a = record { name = a.blank.name; parts = a.blank.parts }
