use Rattle.lama_engine.proofs.engine.Engine.retire.Given as goal

abbrev pub ghosts-uncounted : goal.ghosts-uncounted
ghosts-uncounted g a = record { name = a.blank.name; parts = a.blank.parts }
