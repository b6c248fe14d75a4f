use Rattle.lama_engine.proofs.tests.passes_of_one_thread_share_a_journal.Given as goal

abbrev pub ghosts-in_turn : goal.ghosts-in_turn
ghosts-in_turn g a = record { name = a.blank.name; parts = a.blank.parts }
