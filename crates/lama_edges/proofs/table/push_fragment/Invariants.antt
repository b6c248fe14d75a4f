use Rattle.std.proofs.Common.{◌≡◌, ◌+◌, ◌/◌, ◌++◌, map, take, length}
use Rattle.lama_edges.specs.declared.records.Slot.TheVariants.{Edge}
use Rattle.lama_edges.proofs.table.push_fragment.Given as goal

abbrev pub invariant-loop-target : goal.invariant-loop-target
invariant-loop-target g l =
    (l.slots ≡ l.initial.slots ++ map (λ target. Edge target) (take l.target-index l.fragment.targets.items)) ×
    (l.pages + (length l.initial.slots + 255) / 256 ≡ l.initial.pages + (length l.slots + 255) / 256)
