use Rattle.std.proofs.Common.{◌≡◌, ◌++◌, ◌-◌}
use Rattle.std.specs.List.{range_with_len}
use Rattle.lama_label.proofs.components.numbers_below.Given as goal

abbrev pub invariant-loop-v : goal.invariant-loop-v
invariant-loop-v l = l.numbers.items ++ range_with_len l.v (l.count - l.v) ≡ range_with_len 0 l.count
