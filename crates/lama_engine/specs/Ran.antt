-- For tests: lanes that have run.
use Rattle.std.specs.Prelude.{◌≡◌, ℕ, List, slice_index_or}
use Rattle.lama_lock.specs.Hall.{Hall, Caller, IsPassOf}

-- the pass is one of this hall, and has the number of that pass of the list
pub record IsRanOf {B : Type 0} (h : Hall B) (passes : List (Caller B)) (i : ℕ) (p : Caller B) : Type 0 where
  pub ours : IsPassOf h p
  pub caller : (d : Caller B) → (slice_index_or passes i d).known.caller ≡ p.known.caller
