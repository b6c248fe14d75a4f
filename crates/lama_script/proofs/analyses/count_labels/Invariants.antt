use Rattle.std.proofs.Common.{◌≡◌, ◌+◌, ◌≤◌, drop}
use Rattle.lama_script.specs.Totals.{own_from}
use Rattle.lama_script.proofs.analyses.count_labels.Given as goal

abbrev pub invariant-loop-v : goal.invariant-loop-v
invariant-loop-v l = record {
  so_far : l.count + own_from l.v (drop l.v l.labels) ≡ own_from 0 l.labels;
  few : l.count ≤ l.v;
}
