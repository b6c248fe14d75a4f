-- Rows read from a table of slots.
use Rattle.std.specs.Prelude.{ℕ, ◌+◌, zero, suc, List, [], ◌∷◌, ◌++◌, map, slice_get, Option, Some, None}
use Rattle.lama_edges.specs.declared.records.Slot.{Slot}
use Rattle.lama_edges.specs.declared.records.Slot.TheVariants.{Edge, Next, End}

-- an edge, its weight and what follows
abbrev pub edge_then : Option Slot → Option ℕ → Option (List (ℕ × ℕ)) → Option (List (ℕ × ℕ))
edge_then (Some (Edge t)) (Some w) (Some rest) = Some ((t, w) ∷ rest)
edge_then (Some (Edge t)) (Some w) None = None
edge_then (Some (Edge t)) None rest = None
edge_then (Some (Next l o n)) w rest = None
edge_then (Some End) w rest = None
edge_then None w rest = None

-- the len edges from place o on, and then what the slot behind them leads to; None where that is no fragment
abbrev pub row_from : List Slot → List ℕ → (Option Slot → Option (List (ℕ × ℕ))) → ℕ → ℕ → Option (List (ℕ × ℕ))
row_from slots weights after o zero = after (slice_get slots o)
row_from slots weights after o (suc len) = edge_then (slice_get slots o) (slice_get weights o) (row_from slots weights after (o + 1) len)

-- the slots of a fragment with that tail
abbrev pub fragment_slots : List (ℕ × ℕ) → Slot → List Slot
fragment_slots r tail = map (λ p. Edge p.0) r ++ tail ∷ []

-- its weights, slot by slot; a tail has none, so 0 stands there
abbrev pub fragment_weights : List (ℕ × ℕ) → List ℕ
fragment_weights r = map (λ p. p.1) r ++ 0 ∷ []
