-- What a delta holds.
use Rattle.std.specs.Prelude.{ℕ, List}
use Rattle.lama_model.specs.declared.calls.Write.{Write}

-- the pending writes, oldest first, and how many more may come with no memory taken
pub record Pending : Type 0 where
  pub writes : List Write
  pub spare : ℕ
