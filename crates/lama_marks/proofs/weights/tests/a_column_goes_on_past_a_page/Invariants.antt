use Rattle.lama_marks.proofs.weights.tests.a_column_goes_on_past_a_page.Given as goal

abbrev pub ghosts-two_pages_counted : goal.ghosts-two_pages_counted
ghosts-two_pages_counted g a = record { name = a.blank.name; parts = a.blank.parts }
