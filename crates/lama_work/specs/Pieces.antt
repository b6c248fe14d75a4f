-- The pieces of the numbers below a bound, and what calls on them give.
use Rattle.std.specs.Prelude.{ℕ, ◌≡◌, ◌+◌, ◌*◌, ◌/◌, ◌<◌, length, List, Result, Ok, slice_index_or}
use denote.Param.Members.{Shared}
use Rattle.std.specs.Fn.{FnReturns}

-- where piece i of the numbers below n begins, and the piece before it ends
abbrev pub piece_start : ℕ → ℕ → ℕ → ℕ
piece_start n workers i = n * i / workers

module _ {F T E : Type 0} (g : Shared F (ℕ × (ℕ × (ℕ × Unit {0}))) (Result T E)) (f : F) where
  -- r is what a call of f may give with piece i
  abbrev pub GivesPiece : ℕ → ℕ → ℕ → Result T E → Type 0
  GivesPiece n workers i r = FnReturns g f (i, (piece_start n workers i, (piece_start n workers (i + 1), tt))) r

  -- each element of ts is what a call of f with the piece of its place may give with Ok
  abbrev pub GivesPieces : ℕ → ℕ → List T → Type 0
  GivesPieces n workers ts = (i : ℕ) (d : T) → i < workers → GivesPiece n workers i (Ok (slice_index_or ts i d))

  -- each element of rs is what a call of f may give with the piece of its place
  abbrev pub AreOfPieces : ℕ → ℕ → List (Result T E) → Type 0
  AreOfPieces n workers rs = (i : ℕ) (d : Result T E) → i < workers → GivesPiece n workers i (slice_index_or rs i d)

  -- rs has what a call of f may give with each piece from one on
  pub record AreFrom (n workers from : ℕ) (rs : List (Result T E)) : Type 0 where
    pub len : from + length rs ≡ workers
    pub each : (k : ℕ) (d : Result T E) → k < length rs → GivesPiece n workers (from + k) (slice_index_or rs k d)
