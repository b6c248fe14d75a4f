use Rattle.lama_model.proofs.LevelLaw.{leaves, levels_are}
use Rattle.lama_model.proofs.laws.levels_are_least_walks.Goals as goal

pub returns : goal.returns
returns c = λ g s graph. levels_are g s (leaves g graph)
