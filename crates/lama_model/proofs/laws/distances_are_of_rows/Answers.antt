use Rattle.lama_model.proofs.DistanceLaw.{distances_same}
use Rattle.lama_model.proofs.laws.distances_are_of_rows.Goals as goal

pub returns : goal.returns
returns c = distances_same
