-- The ledger that the run counts in is the one that the blank opens.
use Rattle.llama_main.proofs.tests.run_with.Given as goal

abbrev pub ghosts-run : goal.ghosts-run
ghosts-run g a = record { name = a.blank.name; parts = a.blank.parts }
