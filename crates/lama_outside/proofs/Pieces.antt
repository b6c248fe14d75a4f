-- What a copied piece says of the bytes that a source has left.
use Rattle.std.proofs.Common.{◌≡◌, ◌+◌, ℕ, List, drop, refl, Some}
use Rattle.std.proofs.lemmas.List.{drop-drop}
use Rattle.lama_base.specs.Bytes.{Moves, Gives}

-- a read of the bytes from a place on is one of a source that keeps its place in them
pub gives-rest : (at n : ℕ) (items now filled : List ℕ) → now ≡ drop at items → Moves now (drop n now) n filled → Gives (Some (drop at items)) (Some (drop (at + n) items)) n filled
gives-rest at n items now filled e m = (drop (at + n) items, refl, rw (← drop-drop n at items, ← e) m)
