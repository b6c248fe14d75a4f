-- Lists of passes, of which one made a call, or which were put together.
use Rattle.std.proofs.Common.{◌≡◌, ◌<◌, ℕ, zero, suc, List, [], ◌∷◌, length, map, get_or, set, refl, sym, ap, ◌∙◌, arith, All, Contains, subst}
use Rattle.std.proofs.lemmas.List.Elements.{All-nil, All-cons}
use Rattle.lama_lock.specs.Hall.{Hall, Caller, IsPassOf, AreAll, numbers}

pub numbers-set : {B : Type 0} (ps : List (Caller B)) (i : ℕ) (p q : Caller B) → i < length ps → p ≡ get_or ps i p → q.known.caller ≡ p.known.caller → numbers (set ps i q) ≡ numbers ps
numbers-set [] i p q lt at same = absurd (omega (arith, lt))
numbers-set (x ∷ xs) zero p q lt at same = ap (λ n. n ∷ numbers xs) (same ∙ ap (λ (c : Caller _). c.known.caller) at)
numbers-set (x ∷ xs) (suc i) p q lt at same = ap (λ ns. x.known.caller ∷ ns) (numbers-set xs i p q (omega (arith, lt)) at same)

-- lanes that ran are those of the passes
pub ran-ours : {B T : Type 0} (h : Hall B) (ps : List (Caller B)) (rs : List (Caller B × T)) (n : ℕ) → length rs ≡ n → ((i : ℕ) (d : Caller B × T) → i < n → IsPassOf h (get_or rs i d).0) → All (IsPassOf h) (map (λ t. t.0) rs)
ran-ours h ps [] n len each = All-nil (IsPassOf h)
ran-ours h ps (r ∷ rs) n len each = All-cons (IsPassOf h) r.0 (map (λ t. t.0) rs) (each 0 r (omega (arith, len))) (ran-ours h ps rs (length rs) refl (λ i d lt. each (suc i) d (omega (arith, len, lt))))

pub ran-numbers : {B T : Type 0} (ps : List (Caller B)) (rs : List (Caller B × T)) → length rs ≡ length ps → ((i : ℕ) (d : Caller B × T) (e : Caller B) → i < length ps → (get_or ps i e).known.caller ≡ (get_or rs i d).0.known.caller) → numbers (map (λ t. t.0) rs) ≡ numbers ps
ran-numbers [] [] len each = refl
ran-numbers [] (r ∷ rs) len each = absurd (omega (arith, len))
ran-numbers (p ∷ ps) [] len each = absurd (omega (arith, len))
ran-numbers (p ∷ ps) (r ∷ rs) len each = ap (λ n. n ∷ numbers (map (λ t. t.0) rs)) (sym (each 0 r p (omega arith)))
    ∙ ap (λ l. p.known.caller ∷ l) (ran-numbers ps rs (omega (arith, len)) (λ i d e lt. each (suc i) d e (omega (arith, lt))))

-- passes with the same numbers are all of them
pub all-again : {B : Type 0} (h : Hall B) (ps qs : List (Caller B)) → numbers qs ≡ numbers ps → AreAll h ps → AreAll h qs
all-again h ps qs same all = λ c low high. subst (λ l. Contains l c) (sym same) (all c low high)
