use Rattle.lama_engine.proofs.tests.two_lanes_write_a_thousand_times_each.Given as goal

abbrev pub ghosts-lanes_agree : goal.ghosts-lanes_agree
ghosts-lanes_agree g a = record { name = a.blank.name; parts = a.blank.parts }
