-- Loops that a test adds.
use Rattle.std.specs.Prelude.{ℕ, [], ◌∷◌}
use Rattle.lama_model.specs.Change.{RowChange}

-- a row change that adds one loop of weight 1
abbrev pub loop_at : ℕ → RowChange
loop_at v = record { source = v; added = (v, 1) ∷ []; killed = []; set = [] }
