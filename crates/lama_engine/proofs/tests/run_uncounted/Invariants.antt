use Rattle.lama_engine.proofs.tests.run_uncounted.Given as goal

abbrev pub ghosts-run_lane : goal.ghosts-run_lane
ghosts-run_lane g a = record { name = a.blank.name; parts = a.blank.parts }
