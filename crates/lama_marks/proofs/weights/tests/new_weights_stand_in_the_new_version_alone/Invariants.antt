use Rattle.lama_marks.proofs.weights.tests.new_weights_stand_in_the_new_version_alone.Given as goal

abbrev pub ghosts-three_written_counted : goal.ghosts-three_written_counted
ghosts-three_written_counted g a = record { name = a.blank.name; parts = a.blank.parts }
