use Rattle.lama_engine.proofs.tests.a_start_hands_its_book_back.Given as goal

abbrev pub ghosts-comes_back : goal.ghosts-comes_back
ghosts-comes_back g a = record { name = a.blank.name; parts = a.blank.parts }
