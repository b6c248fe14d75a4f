-- Edges where they stand in the tables of a snapshot, hidden ones too.
use Rattle.std.specs.Prelude.{◌≡◌, ℕ, ◌+◌, ◌==◌, ◌&&◌, Bool, false, zero, suc, List, [], ◌∷◌, map, filter, slice_get, slice_index, slice_index_or, Option, Some, None}
use Rattle.lama_edges.specs.declared.records.Slot.{Slot}
use Rattle.lama_edges.specs.declared.records.Slot.TheVariants.{Edge, Next, End}
use Rattle.lama_snapshot.specs.declared.level.Cell.{Cell}

-- the edge in slot o of table r, before others
abbrev pub cell_then : ℕ → ℕ → Option Slot → Option (List (ℕ × Cell)) → Option (List (ℕ × Cell))
cell_then r o (Some (Edge t)) (Some rest) = Some ((t, record { table = r; place = o }) ∷ rest)
cell_then r o (Some (Edge t)) None = None
cell_then r o (Some (Next l k n)) rest = None
cell_then r o (Some End) rest = None
cell_then r o None rest = None

-- the targets and cells of the len edges of table r from place o on, and then what the slot behind them leads to; None where that is no fragment
abbrev pub cells_from : ℕ → List Slot → (Option Slot → Option (List (ℕ × Cell))) → ℕ → ℕ → Option (List (ℕ × Cell))
cells_from r slots after o zero = after (slice_get slots o)
cells_from r slots after o (suc len) = cell_then r o (slice_get slots o) (cells_from r slots after (o + 1) len)

-- the targets of these edges, and their cells where they lie one behind another from place o of table r on
abbrev pub cell_row : ℕ → ℕ → List (ℕ × ℕ) → List (ℕ × Cell)
cell_row r o [] = []
cell_row r o (p ∷ ps) = (p.0, record { table = r; place = o }) ∷ cell_row r (o + 1) ps

-- the marks and the weights of the slots, table by table
pub record Columns : Type 0 where
  pub marks : List (List ℕ)
  pub weights : List (List ℕ)

abbrev pub mark_at : Columns → Cell → ℕ
mark_at cols c = slice_index (slice_index_or cols.marks c.table []) c.place

abbrev pub weight_at : Columns → Cell → ℕ
weight_at cols c = slice_index (slice_index_or cols.weights c.table []) c.place

-- the edge is not hidden
abbrev pub stands : Columns → ℕ × Cell → Bool
stands cols p = mark_at cols p.1 == 0

-- the edges of a row that are not hidden
abbrev pub standing : Columns → List (ℕ × Cell) → List (ℕ × Cell)
standing cols row = filter (stands cols) row

-- the target of an edge and its weight
abbrev pub pair_at : Columns → ℕ × Cell → ℕ × ℕ
pair_at cols p = (p.0, weight_at cols p.1)

-- a row as it is read: the targets and weights of the edges that are not hidden
abbrev pub visible : Columns → List (ℕ × Cell) → List (ℕ × ℕ)
visible cols row = map (pair_at cols) (standing cols row)

-- two cells are one
abbrev pub is_same : Cell → Cell → Bool
is_same c d = (c.table == d.table) && (c.place == d.place)

-- the cell is none of the row's
abbrev pub IsOther : Cell → List (ℕ × Cell) → Type 0
IsOther c [] = Unit {0}
IsOther c (p ∷ row) = (is_same c p.1 ≡ false) × IsOther c row

-- no two edges of the row are in one cell
abbrev pub AreApart : List (ℕ × Cell) → Type 0
AreApart [] = Unit {0}
AreApart (p ∷ row) = IsOther p.1 row × AreApart row
