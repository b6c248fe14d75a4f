-- A list that is kept in pages of 256 records.
use Rattle.std.specs.Prelude.{◌≡◌, ℕ, ◌+◌, ◌*◌, ◌<◌, ◌≤◌, List, [], ◌∷◌, ◌++◌, length, All}

-- the records of the pages, one page after another
abbrev pub joined : {A : Type 0} → List (List A) → List A
joined [] = []
joined (p ∷ ps) = p ++ joined ps

-- the pages are whole, and as many as len records need
pub record IsPaged {A : Type 0} (len : ℕ) (ps : List (List A)) : Type 0 where
  pub whole : All (λ p. length p ≡ 256) ps
  pub covered : len ≤ 256 * length ps
  pub tight : 256 * length ps < len + 256
