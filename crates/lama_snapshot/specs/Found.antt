-- The slots that a change of rows touches.
use Rattle.std.specs.Prelude.{◌≡◌, ℕ, ◌<◌, ◌==◌, List, [], length, map, filter, flat_map, slice_index_or}
use Rattle.lama_marks.specs.Places.{AreMarked, AreWritten}
use Rattle.lama_model.specs.Change.{RowChange}
use Rattle.lama_snapshot.specs.declared.level.Cell.{Cell}
use Rattle.lama_snapshot.specs.Cells.{standing}
use Rattle.lama_snapshot.specs.Snap.{Snap, edge_cell}

-- the table and the place of the edge of index k in the row of v
abbrev pub killed_slot : Snap → ℕ → ℕ → ℕ × ℕ
killed_slot s v k = ((edge_cell s v k).table, (edge_cell s v k).place)

-- the table of the edge of an index, and its place with the new weight
abbrev pub set_slot : Snap → ℕ → ℕ × ℕ → ℕ × (ℕ × ℕ)
set_slot s v p = ((edge_cell s v p.0).table, ((edge_cell s v p.0).place, p.1))

-- the cells of the edges of the row of v
abbrev pub cells_at : Snap → ℕ → List Cell
cells_at s v = map (λ p. p.1) (standing s.columns (slice_index_or s.cells v []))

-- the slots that the changes hide, row by row
abbrev pub killed_slots : Snap → List RowChange → List (ℕ × ℕ)
killed_slots s rows = flat_map (λ c. map (killed_slot s c.source) c.killed) rows

-- the slots that get another weight
abbrev pub set_slots : Snap → List RowChange → List (ℕ × (ℕ × ℕ))
set_slots s rows = flat_map (λ c. map (set_slot s c.source) c.set) rows

-- what was found in table t
abbrev pub in_table : {A : Type 0} → ℕ → List (ℕ × A) → List A
in_table t found = map (λ p. p.1) (filter (λ p. p.0 == t) found)

-- the marks of each table, with that number at the places that were found in it
pub record AreHidden (found : List (ℕ × ℕ)) (number : ℕ) (old new : List (List ℕ)) : Type 0 where
  pub len : length new ≡ length old
  pub each : (t : ℕ) → t < length old → AreMarked (in_table t found) number (slice_index_or old t []) (slice_index_or new t [])

-- the weights of each table, with the new ones at the places that were found in it
pub record AreSet (found : List (ℕ × (ℕ × ℕ))) (old new : List (List ℕ)) : Type 0 where
  pub len : length new ≡ length old
  pub each : (t : ℕ) → t < length old → AreWritten (in_table t found) (slice_index_or old t []) (slice_index_or new t [])
