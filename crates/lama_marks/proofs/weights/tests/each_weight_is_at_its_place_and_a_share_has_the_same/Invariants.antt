use Rattle.lama_marks.proofs.weights.tests.each_weight_is_at_its_place_and_a_share_has_the_same.Given as goal

abbrev pub ghosts-column : goal.ghosts-column
ghosts-column g a = record { name = a.blank.name; parts = a.blank.parts }
