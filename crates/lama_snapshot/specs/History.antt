-- What the marks and the changes of a snapshot tell of the graphs before it.
use Rattle.std.specs.Prelude.{◌≡◌, ℕ, ◌+◌, ◌-◌, ◌==◌, ◌≤◌, ◌&&◌, ◌||◌, nat_le, nat_lt, Bool, List, [], length, map, filter, take, slice_index_or, Some}
use Rattle.lama_edges.specs.declared.records.VertexRec.{VertexRec}
use Rattle.lama_model.specs.Row.{row_at}
use Rattle.lama_model.specs.Change.{Change, row_through}
use Rattle.lama_snapshot.specs.declared.level.Cell.{Cell}
use Rattle.lama_snapshot.specs.Cells.{Columns, mark_at}
use Rattle.lama_snapshot.specs.Chains.{Layout, owner, cells_of, rows_from}

-- the edge was in the graph of the number k: its table, counted from the floor, was there, and it was not hidden before the next number
abbrev pub was_there : ℕ → Columns → ℕ → ℕ × Cell → Bool
was_there floor cols k p = nat_le p.1.table (k - floor) && ((mark_at cols p.1 == 0) || nat_lt k (mark_at cols p.1))

-- the targets of those edges of a row
abbrev pub targets_then : ℕ → Columns → ℕ → List (ℕ × Cell) → List ℕ
targets_then floor cols k row = map (λ p. p.0) (filter (was_there floor cols k) row)

-- the row of v in the graph of the number k: that of the base, with the changes up to k done
abbrev pub row_then : ℕ → List (List (ℕ × ℕ)) → List Change → ℕ → ℕ → List (ℕ × ℕ)
row_then floor base changes k v = row_through (take (k - floor) changes) v (row_at base v)

-- the rows are those of the base with all changes done, no mark is of a number to come, and of each earlier row the targets are left
pub record IsHistory (l : Layout) (cols : Columns) (records : List VertexRec) (changes : List Change) : Type 0 where
  pub size : length changes ≡ length l.levels
  pub marks : (c : Cell) (v : ℕ) → owner l c ≡ Some v → mark_at cols c ≤ l.floor + length l.levels
  pub rows : (v : ℕ) → row_at (rows_from l cols records) v ≡ row_through changes v (row_at l.base v)
  pub before : (v k : ℕ) → l.floor ≤ k → k ≤ l.floor + length l.levels → targets_then l.floor cols k (slice_index_or (cells_of l records) v []) ≡ map (λ p. p.0) (row_then l.floor l.base changes k v)
