use Rattle.std.proofs.Common.{◌≡◌, drop}
use Rattle.std.specs.List.{flat_map}
use Rattle.lama_label.specs.Lowering.{take_all, offered}
use Rattle.lama_label.proofs.lowering.take_copies.Given as goal

abbrev pub invariant-loop-copy : goal.invariant-loop-copy
invariant-loop-copy l = take_all (flat_map (λ copy. offered 0 copy.items) (drop l.copy-index l.copies)) l.labels ≡ take_all (flat_map (λ copy. offered 0 copy.items) l.copies) l.initial.labels
