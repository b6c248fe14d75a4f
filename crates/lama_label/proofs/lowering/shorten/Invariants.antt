use Rattle.std.proofs.Common.{◌≡◌, ◌-◌, length}
use Rattle.std.specs.List.{range_with_len}
use Rattle.lama_label.specs.Lowering.{take_own}
use Rattle.lama_label.proofs.lowering.shorten.Given as goal

abbrev pub invariant-loop-v : goal.invariant-loop-v
invariant-loop-v l = record {
  len : length l.labels ≡ length l.initial.labels;
  left : take_own (range_with_len l.v (length l.initial.labels - l.v)) l.labels ≡ take_own (range_with_len 0 (length l.initial.labels)) l.initial.labels;
}
