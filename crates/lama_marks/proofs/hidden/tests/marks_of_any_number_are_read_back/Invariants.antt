use Rattle.lama_marks.proofs.hidden.tests.marks_of_any_number_are_read_back.Given as goal

abbrev pub ghosts-far_numbers_counted : goal.ghosts-far_numbers_counted
ghosts-far_numbers_counted g a = record { name = a.blank.name; parts = a.blank.parts }
