-- How an edge table holds its slots: a word for each, and beside the words the tails with their places.
use Rattle.std.specs.Prelude.{◌≡◌, ℕ, ◌+◌, ◌<◌, ◌≤◌, ◌==◌, List, [], ◌∷◌, All, Option, Some, None, length, slice_get, if◌then◌else◌}
use Rattle.lama_edges.specs.declared.records.Slot.{Slot}
use Rattle.lama_edges.specs.declared.records.Slot.TheVariants.{Edge}
use Rattle.lama_edges.specs.declared.tails.Tail.{Tail}
use Rattle.lama_edges.specs.Table.{IsTail}

-- the slot at place i with the word w, where t is the tail of that number: that tail, if this is its place, and else
-- an edge to w
abbrev pub slot_by : ℕ → ℕ → Option Tail → Slot
slot_by i w None = Edge w
slot_by i w (Some t) = if t.place == i then t.slot else Edge w

-- the slot at place i with the word w
abbrev pub slot_of : List Tail → ℕ → ℕ → Slot
slot_of tails i w = slot_by i w (slice_get tails w)

-- the slots of these words, of which the first is at place i
abbrev pub slots_from : List Tail → ℕ → List ℕ → List Slot
slots_from tails i [] = []
slots_from tails i (w ∷ ws) = slot_of tails i w ∷ slots_from tails (i + 1) ws

-- the tails of n slots
pub record AreTails (n : ℕ) (tails : List Tail) : Type 0 where
  pub kinds : All (λ t. IsTail t.slot) tails
  pub places : All (λ t. t.place < n) tails
  pub few : length tails ≤ n

-- the word at the place of each tail is the tail's number
abbrev pub AreNumbered : List ℕ → List Tail → Type 0
AreNumbered words tails = (k : ℕ) (t : Tail) → slice_get tails k ≡ Some t → slice_get words t.place ≡ Some k
