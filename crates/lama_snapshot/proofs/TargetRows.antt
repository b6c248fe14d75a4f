-- Rows without their weights, read as rows.
use Rattle.std.proofs.Common.{◌≡◌, ℕ, zero, suc, ◌<◌, List, [], ◌∷◌, length, refl}
use Rattle.std.specs.Prelude.{All}
use Rattle.std.proofs.lemmas.List.{length-map}
use Rattle.std.proofs.lemmas.List.Elements.{All-map}
use Rattle.lama_model.specs.Row.{row_at, AreTargetsBelow}
use Rattle.lama_snapshot.specs.Targets.{targets_of, all_targets}

pub row-targets : (rows : List (List (ℕ × ℕ))) (v : ℕ) → row_at (all_targets rows) v ≡ targets_of (row_at rows v)
row-targets [] v = refl
row-targets (r ∷ rows) zero = refl
row-targets (r ∷ rows) (suc v) = row-targets rows v

pub count-targets : (rows : List (List (ℕ × ℕ))) → length (all_targets rows) ≡ length rows
count-targets rows = length-map rows (λ row. targets_of row)

pub degree-targets : (row : List (ℕ × ℕ)) → length (targets_of row) ≡ length row
degree-targets row = length-map row (λ p. (p.0, 0))

pub below-targets : (n : ℕ) (rows : List (List (ℕ × ℕ))) → AreTargetsBelow n rows → AreTargetsBelow n (all_targets rows)
below-targets n rows h = All-map (λ (r : List (ℕ × ℕ)). All (λ p. p.0 < n) r) (λ row. targets_of row) rows (λ k d lt. All-map (λ (p : ℕ × ℕ). p.0 < n) (λ (p : ℕ × ℕ). (p.0, 0)) _ (h k d lt))
