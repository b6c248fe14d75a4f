use Rattle.std.proofs.Common.{◌≡◌, ◌*◌, ◌≤◌, take}
use Rattle.std.specs.Prelude.{sum}
use Rattle.lama_label.proofs.lowering.total.Given as goal

abbrev pub invariant-loop-label : goal.invariant-loop-label
invariant-loop-label l = record {
  is : l.total ≡ sum (take l.label-index l.labels);
  few : l.total ≤ l.label-index * 4294967295;
}
