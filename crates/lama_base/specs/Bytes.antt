-- What one read gives and one write takes. The bytes of a source or a sink that does not tell them are None.
use Rattle.std.specs.Prelude.{◌≡◌, ◌<◌, ℕ, List, [], ◌++◌, take, length, Option, Some, IfSome}

-- the first n bytes that were left stand at the front of the buffer, and where the buffer has room, n is 0 only at the end
pub record Moves (before after : List ℕ) (n : ℕ) (buffer : List ℕ) : Type 0 where
  pub moved : before ≡ take n buffer ++ after
  pub ended : 0 < length buffer → n ≡ 0 → before ≡ []

-- a read of n bytes, where the source tells what it has left
abbrev pub Gives : Option (List ℕ) → Option (List ℕ) → ℕ → List ℕ → Type 0
Gives before after n buffer = IfSome before (λ left. (rest : List ℕ) × (after ≡ Some rest) × Moves left rest n buffer)

-- a write that took the first n bytes of the piece, where the sink tells what it has
abbrev pub Takes : Option (List ℕ) → Option (List ℕ) → ℕ → List ℕ → Type 0
Takes before after n piece = IfSome before (λ written. after ≡ Some (written ++ take n piece))
