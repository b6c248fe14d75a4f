use Rattle.lama_model.proofs.DistanceLaw.{distances_are, distances_only}
use Rattle.lama_model.proofs.laws.distances_are_least_costs.Goals as goal

pub returns : goal.returns
returns c = record { are = distances_are; only = distances_only }
