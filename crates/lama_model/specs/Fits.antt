-- When a change can be done on rows.
use Rattle.std.specs.Prelude.{◌≡◌, ℕ, ◌+◌, ◌<◌, ◌≤◌, List, length, All}
use Rattle.lama_model.specs.Row.{row_at, edges_in}
use Rattle.lama_model.specs.Change.{RowChange, Change}
use Rattle.lama_model.specs.Bounds.{added_edges, killed_edges, set_edges}

-- its indexes are places of the row before
pub record HasIndexes (rows : List (List (ℕ × ℕ))) (c : RowChange) : Type 0 where
  pub killed : All (λ k. k < length (row_at rows c.source)) c.killed
  pub set : All (λ p. p.0 < length (row_at rows c.source)) c.set

-- the change goes on from the rows under that number, and what it leaves is within the limits
pub record Fits (number : ℕ) (rows : List (List (ℕ × ℕ))) (c : Change) : Type 0 where
  pub next : c.number ≡ number + 1
  pub limit : c.number ≤ 100000000
  pub grows : length rows ≤ c.count
  pub vertices : c.count ≤ 4194304
  pub indexes : All (HasIndexes rows) c.rows
  -- the added edges come to those of the rows, and the killed ones go
  pub edges : edges_in rows + added_edges c ≤ 33554432 + killed_edges c
  pub touched : added_edges c + killed_edges c + set_edges c ≤ 33554432
