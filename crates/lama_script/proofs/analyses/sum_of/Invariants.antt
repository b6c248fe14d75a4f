use Rattle.std.proofs.Common.{◌≡◌, ◌+◌, ◌*◌, ◌≤◌, drop}
use Rattle.std.specs.Prelude.{sum}
use Rattle.lama_script.proofs.analyses.sum_of.Given as goal

abbrev pub invariant-loop-label : goal.invariant-loop-label
invariant-loop-label l = record {
  so_far : l.total + sum (drop l.label-index l.labels) ≡ sum l.labels;
  few : l.total ≤ l.label-index * 4294967295;
}
