use Rattle.std.proofs.Common.{◌≡◌, drop}
use Rattle.lama_label.specs.Lowering.{take_all, offered}
use Rattle.lama_label.proofs.lowering.take_copy.Given as goal

abbrev pub invariant-loop-v : goal.invariant-loop-v
invariant-loop-v l = take_all (offered l.v (drop l.v l.copy)) l.labels ≡ take_all (offered 0 l.copy) l.initial.labels
