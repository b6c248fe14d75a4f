use Rattle.lama_marks.proofs.hidden.tests.a_place_is_hidden_in_the_new_version_alone.Given as goal

abbrev pub ghosts-two_hidden_counted : goal.ghosts-two_hidden_counted
ghosts-two_hidden_counted g a = record { name = a.blank.name; parts = a.blank.parts }
