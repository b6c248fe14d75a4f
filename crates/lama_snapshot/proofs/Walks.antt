-- Walks over the edges of a row that stand.
use Rattle.std.proofs.Common.{◌≡◌, ℕ, List, ◌∷◌, length, ap, true, false, cond}
use Rattle.std.proofs.lemmas.List.{length-map}
use Rattle.lama_snapshot.specs.declared.level.Cell.{Cell}
use Rattle.lama_snapshot.specs.Cells.{Columns, stands, standing, pair_at, visible}

-- an edge that stands is the first, and a hidden one is passed
pub first-stands : (cols : Columns) (p : ℕ × Cell) (row : List (ℕ × Cell)) → stands cols p ≡ true → standing cols (p ∷ row) ≡ p ∷ standing cols row
first-stands cols p row is = ap (λ b. cond b (p ∷ standing cols row) (standing cols row)) is

pub first-hidden : (cols : Columns) (p : ℕ × Cell) (row : List (ℕ × Cell)) → stands cols p ≡ false → standing cols (p ∷ row) ≡ standing cols row
first-hidden cols p row is = ap (λ b. cond b (p ∷ standing cols row) (standing cols row)) is

-- a row that is read has the edges that stand
pub length-visible : (cols : Columns) (row : List (ℕ × Cell)) → length (visible cols row) ≡ length (standing cols row)
length-visible cols row = length-map (standing cols row) (pair_at cols)
