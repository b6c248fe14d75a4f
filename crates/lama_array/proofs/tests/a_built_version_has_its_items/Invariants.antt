-- The ledger that the call counts in is the one that the blank opens.
use Rattle.lama_array.proofs.tests.a_built_version_has_its_items.Given as goal

abbrev pub ghosts-built : goal.ghosts-built
ghosts-built g a = record { name = a.blank.name; parts = a.blank.parts }
