-- Calls of one caller alone.
use Rattle.std.proofs.Common.{◌≡◌, ℕ, ◌==◌, List, [], ◌∷◌, All, filter, refl, ap, arith, eq-eqb}
use Rattle.std.proofs.lemmas.List.Elements.{All-head, All-tail}
use Rattle.lama_model.specs.Pass.{IsByOneOf}
use Rattle.lama_model.specs.declared.calls.Entry.{Entry}

-- where the one caller made all of them, none is left out
pub all-kept : (c : ℕ) (es : List Entry) → c ≡ 1 → All (IsByOneOf 1) es → filter (λ (e : Entry). e.caller == c) es ≡ es
all-kept c [] one all = refl
all-kept c (e ∷ es) one all =
    let first = All-head (IsByOneOf 1) e es all in
    let same : e.caller ≡ c = omega (arith, first.0, first.1) in
    rw (eq-eqb e.caller c same) (ap (λ (l : List Entry). e ∷ l) (all-kept c es one (All-tail (IsByOneOf 1) e es all)))
