-- A target whose remainder is not marked has no fate.
use Rattle.std.proofs.Common.{◌≡◌, ◌∙◌, ℕ, zero, suc, Bool, true, false, List, [], ◌∷◌, ◌++◌, get_or, set, refl, sym, subst, Option, None}
use Rattle.lama_delta.specs.declared.row_writes.Fate.{Fate}
use Rattle.lama_delta.specs.Sieve.{IsSieve}

abbrev IsOn : Bool → Type 0
IsOn true = Unit {0}
IsOn false = ⊥

true-not-false : (b : Bool) → b ≡ true → b ≡ false → ⊥
true-not-false b h k = subst IsOn (sym h ∙ k) tt

pub set-keeps : (marks : List Bool) (i j : ℕ) → get_or marks j false ≡ true → get_or (set marks i true) j false ≡ true
set-keeps [] i j h = h
set-keeps (x ∷ marks) zero zero h = refl
set-keeps (x ∷ marks) zero (suc j) h = h
set-keeps (x ∷ marks) (suc i) zero h = h
set-keeps (x ∷ marks) (suc i) (suc j) h = set-keeps marks i j h

pub append-keeps : (marks more : List Bool) (j : ℕ) → get_or marks j false ≡ true → get_or (marks ++ more) j false ≡ true
append-keeps [] more j h = absurd (true-not-false false h refl)
append-keeps (x ∷ marks) more zero h = h
append-keeps (x ∷ marks) more (suc j) h = append-keeps marks more j h

-- no fates need no marks
pub no-fates : (marks : List Bool) (fate : ℕ → Option Fate) → ((v : ℕ) → fate v ≡ None) → IsSieve marks fate
no-fates marks fate none = record { none = λ v h. none v }
