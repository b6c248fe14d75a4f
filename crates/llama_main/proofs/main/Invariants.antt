-- The ledger that the run counts in is the one that the blank opens.
use Rattle.llama_main.proofs.main.Given as goal

abbrev pub ghosts-run_standard : goal.ghosts-run_standard
ghosts-run_standard a b = record { name = b.blank.name; parts = b.blank.parts }
