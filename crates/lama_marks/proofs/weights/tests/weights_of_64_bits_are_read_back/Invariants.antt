use Rattle.lama_marks.proofs.weights.tests.weights_of_64_bits_are_read_back.Given as goal

abbrev pub ghosts-wide_written_counted : goal.ghosts-wide_written_counted
ghosts-wide_written_counted g a = record { name = a.blank.name; parts = a.blank.parts }
