-- Where a run begins.
use Rattle.std.specs.Prelude.{ℕ, ◌+◌, ◌-◌, ◌<◌, ◌≤◌, All, List, [], length, fold, take, slice_index_or}
use Rattle.lama_model.specs.Graph.{Graph, IsGraph, no_graph}
use Rattle.lama_model.specs.Row.{rows_of}
use Rattle.lama_model.specs.Change.{Change, IsChange, changed}
use Rattle.lama_model.specs.Fits.{Fits}

-- an opening: the floor with its graph, the oldest number that is kept, and one change for each number above the floor
pub record Opening : Type 0 where
  pub floor : ℕ
  pub oldest : ℕ
  pub graph : Graph
  pub changes : List Change

-- the number of the floor
abbrev pub first_number : Opening → ℕ
first_number o = o.floor

-- the oldest number that is kept
abbrev pub oldest_number : Opening → ℕ
oldest_number o = o.oldest

-- the newest number
abbrev pub last_number : Opening → ℕ
last_number o = o.floor + length o.changes

-- the graph after changes, oldest first
abbrev pub with_changes : Graph → List Change → Graph
with_changes g changes = fold (λ h c. changed h c) g changes

-- the opening's graph of that number, from the floor to the newest
abbrev pub opening_graph : Opening → ℕ → Graph
opening_graph o k = with_changes o.graph (take (k - o.floor) o.changes)

-- the newest graph
abbrev pub last_graph : Opening → Graph
last_graph o = opening_graph o (last_number o)

-- no change
abbrev pub no_change : Change
no_change = record { number = 0; count = 0; rows = [] }

-- the opening's change of that number, above the floor
abbrev pub opening_change : Opening → ℕ → Change
opening_change o k = slice_index_or o.changes (k - o.floor - 1) no_change

-- its numbers are in order and within their limit, its first graph is one within the limits, and each change is valid, fits the graph before it and gives a graph
pub record IsOpening (o : Opening) : Type 0 where
  pub from_floor : o.floor ≤ o.oldest
  pub to_newest : o.oldest ≤ last_number o
  pub number : last_number o ≤ 100000000
  pub vertices : (last_graph o).count ≤ 4194304
  pub edges : length (last_graph o).edges ≤ 33554432
  pub valid : All IsChange o.changes
  pub fits : (k : ℕ) → o.floor ≤ k → k < last_number o → Fits k (rows_of (opening_graph o k)) (opening_change o (k + 1))
  pub graphs : (k : ℕ) → IsGraph (opening_graph o k)

-- one graph under its number, which is the floor, the oldest kept and the newest number at once
abbrev pub opening_of : ℕ → Graph → Opening
opening_of number g = record { floor = number; oldest = number; graph = g; changes = [] }

-- number 0, with no vertices
abbrev pub empty_opening : Opening
empty_opening = opening_of 0 no_graph
