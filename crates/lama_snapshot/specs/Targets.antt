-- Rows without their weights.
use Rattle.std.specs.Prelude.{ℕ, List, map}

-- the targets of a row, each with the weight 0
abbrev pub targets_of : List (ℕ × ℕ) → List (ℕ × ℕ)
targets_of row = map (λ p. (p.0, 0)) row

-- the same of each row
abbrev pub all_targets : List (List (ℕ × ℕ)) → List (List (ℕ × ℕ))
all_targets rows = map (λ row. targets_of row) rows
