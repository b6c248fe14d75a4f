-- Rows whose targets lie one after another in one list.
use Rattle.std.specs.Prelude.{◌≡◌, ℕ, ◌+◌, List, map, length, take}
use Rattle.std.specs.List.{flat_map, range_with_len}
use Rattle.lama_model.specs.Row.{edges_in}

-- how many edges leave the vertices below u
abbrev pub edges_below : List (List (ℕ × ℕ)) → ℕ → ℕ
edges_below rows u = edges_in (take u rows)

-- the targets of a row
abbrev pub firsts : List (ℕ × ℕ) → List ℕ
firsts row = map (λ p. p.0) row

-- the targets of all rows, and for each vertex and one more the place where its row starts
pub record IsFlat (rows : List (List (ℕ × ℕ))) (starts targets : List ℕ) : Type 0 where
  pub starts_are : starts ≡ map (edges_below rows) (range_with_len 0 (length rows + 1))
  pub targets_are : targets ≡ flat_map firsts rows
