-- Rows over several levels: a chain of fragments that ends in the row of the base.
use Rattle.std.specs.Prelude.{◌≡◌, ℕ, zero, suc, ◌+◌, ◌-◌, ◌==◌, ◌<◌, ◌≤◌, nat_le, List, [], ◌∷◌, ◌++◌, length, map, take, slice_get, slice_index_or, Option, Some, None, IsSome, unwrap_or, if◌then◌else◌}
use Rattle.std.specs.List.{range_with_len}
use Rattle.lama_edges.specs.declared.records.Slot.{Slot}
use Rattle.lama_edges.specs.declared.records.Slot.TheVariants.{Edge, Next, End}
use Rattle.lama_edges.specs.declared.records.VertexRec.{VertexRec}
use Rattle.lama_edges.specs.Table.{HasEdge}
use Rattle.lama_model.specs.Row.{row_at}
use Rattle.lama_snapshot.specs.declared.level.Cell.{Cell}
use Rattle.lama_snapshot.specs.BaseRows.{base_slots}
use Rattle.lama_snapshot.specs.Cells.{Columns, cells_from, cell_row, visible, AreApart}

-- the slots of a table, and for each of them the vertex in whose row it is
pub record Table : Type 0 where
  pub slots : List Slot
  pub sources : List ℕ

abbrev pub no_table : Table
no_table = record { slots = []; sources = [] }

-- the sources of the slots of a fragment
abbrev pub fragment_sources : ℕ → List (ℕ × ℕ) → List ℕ
fragment_sources v r = map (λ p. v) r ++ v ∷ []

-- the sources of the slots of a base, whose first row is that of v
abbrev pub base_sources : ℕ → List (List (ℕ × ℕ)) → List ℕ
base_sources v [] = []
base_sources v (r ∷ rows) = fragment_sources v r ++ base_sources (suc v) rows

-- the table of a base
abbrev pub base_table : List (List (ℕ × ℕ)) → Table
base_table rows = record { slots = base_slots rows; sources = base_sources 0 rows }

-- where rows stand: the number and the rows of the base, and the tables of the levels above it, the oldest first
pub record Layout : Type 0 where
  pub floor : ℕ
  pub base : List (List (ℕ × ℕ))
  pub levels : List Table

-- the table of that number: 0 is that of the base, and r that of the r-th level above it
abbrev pub table_at : Layout → ℕ → Table
table_at l r = slice_index_or (base_table l.base ∷ l.levels) r no_table

-- the slot in the cell
abbrev pub slot_at : Layout → Cell → Option Slot
slot_at l c = slice_get (table_at l c.table).slots c.place

-- the slot in the cell is an edge
abbrev pub IsEdgeCell : Layout → Cell → Type 0
IsEdgeCell l c = HasEdge (table_at l c.table).slots c.place

-- the first of these edges is the one in the cell
pub record IsAtCell (l : Layout) (c : Cell) (row rest : List (ℕ × Cell)) : Type 0 where
  pub target : ℕ
  pub slot_is : slot_at l c ≡ Some (Edge target)
  pub first : row ≡ (target, c) ∷ rest

-- the vertex in whose row the cell is
abbrev pub owner : Layout → Cell → Option ℕ
owner l c = slice_get (table_at l c.table).sources c.place

-- the edges of v in the base, with their cells
abbrev pub base_places : List (List (ℕ × ℕ)) → ℕ → List (ℕ × Cell)
base_places rows v = cell_row 0 (length (base_slots (take v rows))) (row_at rows v)

-- the edges at a place of the base
abbrev pub base_cells : List (List (ℕ × ℕ)) → ℕ → ℕ → Option (List (ℕ × Cell))
base_cells rows o left = cells_from 0 (base_slots rows) (λ s. Some []) o left

-- what the slot behind a fragment of level n, counted from the floor, leads to: nothing, or a fragment of an older level
abbrev pub after_fragment : ℕ → ℕ → (ℕ → ℕ → ℕ → Option (List (ℕ × Cell))) → Option Slot → Option (List (ℕ × Cell))
after_fragment floor n older None = None
after_fragment floor n older (Some (Edge t)) = None
after_fragment floor n older (Some End) = Some []
after_fragment floor n older (Some (Next level o len)) = if nat_le level (floor + n) then older (level - floor) o len else None

-- the edges of v from place o of table r on, over the first n levels above the floor: r counts from the floor, and 0 means the whole row in the base
abbrev pub chain : Layout → ℕ → ℕ → ℕ → ℕ → ℕ → Option (List (ℕ × Cell))
chain l v zero r o len = Some (base_places l.base v)
chain l v (suc n) r o len =
    let table = slice_index_or l.levels n no_table in
    if r == suc n then cells_from (suc n) table.slots (after_fragment l.floor n (chain l v n)) o len
    else chain l v n r o len

-- the row that a record of v leads to, hidden edges too
abbrev pub record_row : Layout → ℕ → VertexRec → Option (List (ℕ × Cell))
record_row l v rec = chain l v (length l.levels) (rec.level - l.floor) rec.offset rec.len

-- what is left of a row at a place: in the base, or in a level and below it
abbrev pub place_row : Layout → ℕ → ℕ → ℕ → ℕ → Option (List (ℕ × Cell))
place_row l v level o left =
    if nat_le level l.floor then base_cells l.base o left else chain l v (length l.levels) (level - l.floor) o left

abbrev pub place_cells : Layout → ℕ → ℕ → ℕ → ℕ → List (ℕ × Cell)
place_cells l v level o left = unwrap_or (place_row l v level o left) []

-- a place is one of a row
pub record IsPlace (l : Layout) (count v level o left : ℕ) : Type 0 where
  pub vertex : v < count
  pub within : level ≤ l.floor + length l.levels
  pub some : IsSome (place_row l v level o left)

-- each cell is one of v
abbrev pub AreOwned : Layout → ℕ → List (ℕ × Cell) → Type 0
AreOwned l v [] = Unit {0}
AreOwned l v (p ∷ row) = (owner l p.1 ≡ Some v) × AreOwned l v row

-- a record leads to a row of its degree, whose cells are its vertex's own, each once, and names no level that is not there
pub record IsRecord (l : Layout) (cols : Columns) (v : ℕ) (rec : VertexRec) : Type 0 where
  pub level : rec.level ≤ l.floor + length l.levels
  pub row : List (ℕ × Cell)
  pub leads : record_row l v rec ≡ Some row
  pub degree : rec.degree ≡ length (visible cols row)
  pub own : AreOwned l v row
  pub apart : AreApart row

-- the rows that records lead to, hidden edges too, that of vertex 0 first
abbrev pub cells_of : Layout → List VertexRec → List (List (ℕ × Cell))
cells_of l records = map (λ v. unwrap_or (record_row l v (slice_index_or records v (record { level = 0; offset = 0; len = 0; degree = 0 }))) []) (range_with_len 0 (length records))

-- the rows as they are read
abbrev pub rows_from : Layout → Columns → List VertexRec → List (List (ℕ × ℕ))
rows_from l cols records = map (visible cols) (cells_of l records)

-- there is a mark and a weight for each slot of each table
pub record AreColumns (l : Layout) (cols : Columns) : Type 0 where
  pub marks : length cols.marks ≡ length l.levels + 1
  pub weights : length cols.weights ≡ length l.levels + 1
  pub marks_each : (r : ℕ) → length (slice_index_or cols.marks r []) ≡ length (table_at l r).sources
  pub weights_each : (r : ℕ) → length (slice_index_or cols.weights r []) ≡ length (table_at l r).sources
