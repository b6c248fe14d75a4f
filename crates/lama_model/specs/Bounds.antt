-- How many pages a change takes at most.
use Rattle.std.specs.Prelude.{ℕ, ◌+◌, ◌*◌, ◌/◌, List, length, sum_by}
use Rattle.lama_model.specs.Change.{RowChange, Change}

-- the rows that a change touches
abbrev pub touched : Change → ℕ
touched c = length c.rows

-- the edges that it adds
abbrev pub added_edges : Change → ℕ
added_edges c = sum_by (λ (r : RowChange). length r.added) c.rows

-- the edges that it takes away
abbrev pub killed_edges : Change → ℕ
killed_edges c = sum_by (λ (r : RowChange). length r.killed) c.rows

-- the edges that get another weight
abbrev pub set_edges : Change → ℕ
set_edges c = sum_by (λ (r : RowChange). length r.set) c.rows

-- a checkpoint that makes this change makes no more pages than these
abbrev pub checkpoint_pages : Change → ℕ
checkpoint_pages c = touched c + killed_edges c + set_edges c + 2 * ((added_edges c + touched c) / 256) + 8

-- a base of so many vertices and edges takes no more pages than these
abbrev pub base_pages : ℕ → ℕ → ℕ
base_pages vertices edges = vertices / 256 + 2 * ((edges + vertices) / 256) + 8

-- an install below these changes makes no more pages than these
abbrev pub install_pages : List Change → ℕ
install_pages changes = sum_by (λ (c : Change). killed_edges c + set_edges c + 2) changes + 4
