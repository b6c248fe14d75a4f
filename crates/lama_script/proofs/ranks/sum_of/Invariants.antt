use Rattle.std.proofs.Common.{◌≡◌, ◌+◌, ◌*◌, ◌≤◌, drop}
use Rattle.std.specs.Prelude.{sum}
use Rattle.lama_script.proofs.ranks.sum_of.Given as goal

abbrev pub invariant-loop-rank : goal.invariant-loop-rank
invariant-loop-rank l = record {
  so_far : l.total + sum (drop l.rank-index l.ranks) ≡ sum l.ranks;
  few : l.total ≤ l.rank-index * 18446744073709551615;
}
