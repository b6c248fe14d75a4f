-- What a contract sees of a snapshot.
use Rattle.std.specs.Prelude.{◌≡◌, ℕ, ◌+◌, ◌-◌, ◌≤◌, ◌<◌, List, length, sum_by, slice_index_or, All, []}
use Rattle.lama_edges.specs.declared.records.VertexRec.{VertexRec}
use Rattle.lama_model.specs.Row.{AreTargetsBelow}
use Rattle.lama_model.specs.Change.{Change}
use Rattle.lama_model.specs.Opening.{no_change}
use Rattle.lama_snapshot.specs.declared.level.Cell.{Cell}
use Rattle.lama_snapshot.specs.BaseRows.{Numbered, base_slots}
use Rattle.lama_snapshot.specs.Cells.{Columns, standing}
use Rattle.lama_snapshot.specs.Chains.{Table, Layout, IsRecord, rows_from, AreColumns}

-- a snapshot: its number, its base, its rows, that of vertex 0 first, its changes from the one above the floor on, how many edges it has, and where its rows stand, with the edges that are hidden
pub record Snap : Type 0 where
  pub number : ℕ
  pub base : Numbered
  pub rows : List (List (ℕ × ℕ))
  pub changes : List Change
  pub edge_count : ℕ
  pub layout : Layout
  pub columns : Columns
  pub cells : List (List (ℕ × Cell))

-- the number of the base, which is the snapshot's floor
abbrev pub floor_of : Snap → ℕ
floor_of s = s.base.number

-- where the rows of a base and levels stand
abbrev pub layout_of : Numbered → List Table → Layout
layout_of base levels = record { floor = base.number; base = base.rows; levels = levels }

abbrev pub no_record : VertexRec
no_record = record { level = 0; offset = 0; len = 0; degree = 0 }

-- a level has a source for each slot, and not too many
pub record IsTable (t : Table) : Type 0 where
  pub sources : length t.slots ≡ length t.sources
  pub few : length t.slots ≤ 67108864

-- the fields of a snapshot stand for its rows
pub record IsSnap (n edge_count : ℕ) (records : List VertexRec) (base : Numbered) (levels : List Table) (cols : Columns) : Type 0 where
  pub number_is : n ≡ base.number + length levels
  pub number : n ≤ 100000000
  pub vertices : length records ≤ 4194304
  pub records_ok : (v : ℕ) → v < length records → IsRecord (layout_of base levels) cols v (slice_index_or records v no_record)
  pub tables : All IsTable levels
  pub columns : AreColumns (layout_of base levels) cols
  pub edges : edge_count ≡ sum_by (λ rec. rec.degree) records
  pub few : edge_count ≤ 33554432
  pub targets : AreTargetsBelow (length records) (rows_from (layout_of base levels) cols records)
  pub base_rows : length base.rows ≤ length records
  pub base_slots : length (base_slots base.rows) ≤ 67108864

-- its change of the number k, above the floor
abbrev pub change_at : Snap → ℕ → Change
change_at s k = slice_index_or s.changes (k - floor_of s - 1) no_change

-- the cell is one of the snapshot's
pub record IsCell (cols : Columns) (c : Cell) : Type 0 where
  pub marked : c.table < length cols.marks
  pub mark : c.place < length (slice_index_or cols.marks c.table [])
  pub weighed : c.table < length cols.weights
  pub weight : c.place < length (slice_index_or cols.weights c.table [])

-- the cell of the edge of that index in the row of v, of which the newest has index 0
abbrev pub edge_cell : Snap → ℕ → ℕ → Cell
edge_cell s v k = (slice_index_or (standing s.columns (slice_index_or s.cells v [])) k (0, record { table = 0; place = 0 })).1

-- no snapshot
abbrev pub no_snap : Snap
no_snap = record {
  number = 0;
  base = record { number = 0; rows = [] };
  rows = [];
  changes = [];
  edge_count = 0;
  layout = record { floor = 0; base = []; levels = [] };
  columns = record { marks = []; weights = [] };
  cells = [];
}
