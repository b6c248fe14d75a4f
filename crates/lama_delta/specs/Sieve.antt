-- A quick look for the targets that have a fate.
use Rattle.std.specs.Prelude.{◌≡◌, ℕ, ◌%◌, Bool, false, List, slice_index_or, Option, None}
use Rattle.lama_delta.specs.declared.row_writes.Fate.{Fate}

-- edges to a target whose remainder is not marked stay as they are
pub record IsSieve (marks : List Bool) (fate : ℕ → Option Fate) : Type 0 where
  pub none : (v : ℕ) → slice_index_or marks (v % 4096) false ≡ false → fate v ≡ None
