use Rattle.lama_model.proofs.RankLaw.{same-but-weights, out-degrees-alike, edges-alike, ranks-alike, sources}
use Rattle.lama_model.proofs.laws.ranks_are_of_rows.Goals as goal

pub returns : goal.returns
returns c = record {
  ranks = λ g h i from-g from-h same. ranks-alike g h (same-but-weights g h same) (sources g from-g) (sources h from-h) i;
  degrees = λ g h same. out-degrees-alike g h (same-but-weights g h same);
  edges = λ g h from-g from-h same. edges-alike g h (same-but-weights g h same) (sources g from-g) (sources h from-h);
}
