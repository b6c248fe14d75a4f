-- What writes of one source make of its row.
use Rattle.std.proofs.Common.{◌≡◌, ◌∙◌, ℕ, zero, suc, ◌+◌, ◌≤◌, List, [], ◌∷◌, ◌++◌, length, drop, refl, ap, arith, Option, None}
use Rattle.lama_model.specs.Change.{is_empty_change}
use Rattle.lama_model.specs.Row.{row_at}
use Rattle.lama_delta.specs.declared.edge_writes.EdgeWrite.{EdgeWrite}
use Rattle.lama_delta.specs.declared.row_writes.Fate.{Fate}
use Rattle.lama_delta.specs.RowWrites.{fate_of, gone_here, set_here, gone_from, set_from, change_of, change_at}
use Rattle.lama_delta.proofs.Groups.{Quiet}

-- where nothing becomes of any edge
pub none-gone : (i : ℕ) (fate : ℕ → Option Fate) → ((v : ℕ) → fate v ≡ None) → (row : List (ℕ × ℕ)) → gone_from i fate row ≡ []
none-gone i fate none [] = refl
none-gone i fate none (p ∷ row) = ap (λ f. gone_here i f ++ gone_from (i + 1) fate row) (none p.0) ∙ none-gone (i + 1) fate none row

pub none-set : (i : ℕ) (fate : ℕ → Option Fate) → ((v : ℕ) → fate v ≡ None) → (row : List (ℕ × ℕ)) → set_from i fate row ≡ []
none-set i fate none [] = refl
none-set i fate none (p ∷ row) = ap (λ f. set_here i p.1 f ++ set_from (i + 1) fate row) (none p.0) ∙ none-set (i + 1) fate none row

-- no writes change nothing
pub quiet : (rows : List (List (ℕ × ℕ))) (writes : List EdgeWrite) → Quiet (change_at rows writes) writes
quiet rows writes u none =
    ap (λ ws. is_empty_change (change_of u ws (row_at rows u))) none
    ∙ (ap (λ ks. is_empty_change (record { source = u; added = []; killed = ks; set = set_from 0 (fate_of []) (row_at rows u) })) (none-gone 0 (fate_of []) (λ v. refl) (row_at rows u))
    ∙ ap (λ ss. is_empty_change (record { source = u; added = []; killed = []; set = ss })) (none-set 0 (fate_of []) (λ v. refl) (row_at rows u)))

-- one function for another
pub gone-same : (i : ℕ) (f f' : ℕ → Option Fate) → ((v : ℕ) → f v ≡ f' v) → (row : List (ℕ × ℕ)) → gone_from i f row ≡ gone_from i f' row
gone-same i f f' same [] = refl
gone-same i f f' same (p ∷ row) = ap (λ x. gone_here i x ++ gone_from (i + 1) f row) (same p.0) ∙ ap (λ xs. gone_here i (f' p.0) ++ xs) (gone-same (i + 1) f f' same row)

pub set-same : (i : ℕ) (f f' : ℕ → Option Fate) → ((v : ℕ) → f v ≡ f' v) → (row : List (ℕ × ℕ)) → set_from i f row ≡ set_from i f' row
set-same i f f' same [] = refl
set-same i f f' same (p ∷ row) = ap (λ x. set_here i p.1 x ++ set_from (i + 1) f row) (same p.0) ∙ ap (λ xs. set_here i p.1 (f' p.0) ++ xs) (set-same (i + 1) f f' same row)

-- nothing is left past the end
pub drop-past : {A : Type 0} (n : ℕ) (xs : List A) → length xs ≤ n → (let none : List A = [] in drop n xs ≡ none)
drop-past zero [] le = refl
drop-past zero (x ∷ xs) le = absurd (omega (arith, le))
drop-past (suc n) [] le = refl
drop-past (suc n) (x ∷ xs) le = drop-past n xs (omega (arith, le))

pub nil-of : {A : Type 0} (xs : List A) → length xs ≡ 0 → (let none : List A = [] in xs ≡ none)
nil-of [] is = refl
nil-of (x ∷ xs) is = absurd (omega (arith, is))
