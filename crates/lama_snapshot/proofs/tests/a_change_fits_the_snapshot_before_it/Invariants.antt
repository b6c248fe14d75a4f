-- The ledger that the call counts in is the one that the blank opens.
use Rattle.lama_snapshot.proofs.tests.a_change_fits_the_snapshot_before_it.Given as goal

abbrev pub ghosts-one_after_another : goal.ghosts-one_after_another
ghosts-one_after_another g a = record { name = a.blank.name; parts = a.blank.parts }
