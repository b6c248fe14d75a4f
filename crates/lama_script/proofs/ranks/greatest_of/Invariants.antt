use Rattle.std.proofs.Common.{◌≡◌, drop}
use Rattle.std.specs.Prelude.{fold, max}
use Rattle.lama_script.proofs.ranks.greatest_of.Given as goal

abbrev pub invariant-loop-rank : goal.invariant-loop-rank
invariant-loop-rank l = fold max l.greatest (drop l.rank-index l.ranks) ≡ fold max 0 l.ranks
