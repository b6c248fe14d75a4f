use Rattle.std.specs.Prelude.{◌≡◌, ℕ, List, [], ◌∷◌, ◌++◌, Some, map, flat_map, slice_get}
use Rattle.lama_edges.specs.declared.records.Slot.{Slot}
use Rattle.lama_edges.specs.declared.records.Slot.TheVariants.{Edge, Next, End}
use Rattle.lama_edges.specs.declared.records.Fragment.{Fragment}

-- a slot that can follow a fragment's edges: one that leads to an older fragment, or the end
abbrev pub IsTail : Slot → Type 0
IsTail (Edge target) = ⊥
IsTail (Next level offset len) = Unit {0}
IsTail End = Unit {0}

-- a fragment ends in a tail, and not in one more edge
abbrev pub HasTail : Fragment → Type 0
HasTail fragment = IsTail fragment.tail

-- the slots of a fragment: its targets as edges, and then its tail
abbrev pub fragment_slots : Fragment → List Slot
fragment_slots fragment = map (λ target. Edge target) fragment.targets.items ++ fragment.tail ∷ []

-- the slots of a table: those of its fragments, one fragment after another
abbrev pub table_slots : List Fragment → List Slot
table_slots fragments = flat_map fragment_slots fragments

-- an edge stands at the place
pub record HasEdge (slots : List Slot) (o : ℕ) : Type 0 where
  pub target : ℕ
  pub slot_is : slice_get slots o ≡ Some (Edge target)
