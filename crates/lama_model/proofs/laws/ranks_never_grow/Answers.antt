use Rattle.lama_model.proofs.RankLaw.{ranks-bounded}
use Rattle.lama_model.proofs.laws.ranks_never_grow.Goals as goal

pub returns : goal.returns
returns c = λ g i graph. ranks-bounded g graph i
