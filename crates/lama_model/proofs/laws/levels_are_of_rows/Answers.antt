use Rattle.lama_model.proofs.LevelLaw.{levels_same}
use Rattle.lama_model.proofs.Leading.{leads-same}
use Rattle.lama_model.proofs.laws.levels_are_of_rows.Goals as goal

pub returns : goal.returns
returns c = λ g h s same. levels_same g h same.count (leads-same g h same) s
