-- What a source gave and a sink took. The clauses of the top calls speak of it.
use Rattle.std.specs.Prelude.{◌≡◌, ℕ, List, [], ◌++◌, Option, IfSome, Some}

-- the bytes are a front of the text
abbrev pub IsFront : List ℕ → List ℕ → Type 0
IsFront front text = (rest : List ℕ) × (text ≡ front ++ rest)

-- the sink took the piece, where it tells that
abbrev pub Appends : Option (List ℕ) → Option (List ℕ) → List ℕ → Type 0
Appends before now piece = IfSome before (λ written. now ≡ Some (written ++ piece))

-- the source gave the piece, where it tells that
abbrev pub Gave : Option (List ℕ) → Option (List ℕ) → List ℕ → Type 0
Gave before now piece = IfSome before (λ left. (rest : List ℕ) × (now ≡ Some rest) × (left ≡ piece ++ rest))

-- the source has nothing left now, where it tells that
abbrev pub HasEnded : Option (List ℕ) → Option (List ℕ) → Type 0
HasEnded before now = IfSome before (λ left. now ≡ Some [])
