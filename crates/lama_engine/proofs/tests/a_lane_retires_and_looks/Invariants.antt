use Rattle.lama_engine.proofs.tests.a_lane_retires_and_looks.Given as goal

abbrev pub ghosts-in_turn : goal.ghosts-in_turn
ghosts-in_turn g a = record { name = a.blank.name; parts = a.blank.parts }
