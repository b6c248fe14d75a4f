use Rattle.lama_engine.proofs.tests.sixteen_lanes_make_all_kinds_of_calls.Given as goal

abbrev pub ghosts-lanes_agree : goal.ghosts-lanes_agree
ghosts-lanes_agree g a = record { name = a.blank.name; parts = a.blank.parts }
