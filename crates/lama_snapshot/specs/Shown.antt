-- What a contract sees of the fields of a snapshot.
use Rattle.std.specs.Prelude.{map}
use Rattle.std.specs.Arc.{arc_value}
use Rattle.lama_snapshot.specs.Cells.{Columns}
use Rattle.lama_snapshot.specs.Chains.{cells_of, rows_from}
use Rattle.lama_snapshot.specs.Snap.{Snap, layout_of, IsSnap}
use Rattle.lama_snapshot.specs.History.{IsHistory}
use Rattle.lama_snapshot.specs.Levels.{table_of, change_of}
use Rattle.lama_snapshot.specs.declared.snapshot.Snapshot.TheInside.{Inside}

-- the marks and the weights
abbrev pub columns_of : Inside → Columns
columns_of s = record { marks = s.hidden.items; weights = s.weights.items }

-- the snapshot that the fields stand for
abbrev pub shown : Inside → Snap
shown s =
    let base = arc_value s.base in
    let levels = map arc_value s.levels.items in
    let layout = layout_of base (map table_of levels) in
    record {
      number = s.number;
      base = base;
      rows = rows_from layout (columns_of s) s.vertices;
      changes = map change_of levels;
      edge_count = s.edge_count;
      layout = layout;
      columns = columns_of s;
      cells = cells_of layout s.vertices;
    }

-- the fields stand for its rows
abbrev pub HasRows : Inside → Type 0
HasRows s = IsSnap s.number s.edge_count s.vertices (arc_value s.base) (map table_of (map arc_value s.levels.items)) (columns_of s)

-- and tell of the graphs before
pub record IsShown (s : Inside) : Type 0 where
  pub snap : HasRows s
  pub history : IsHistory (shown s).layout (columns_of s) s.vertices (shown s).changes
