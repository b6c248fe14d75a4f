-- One place more is written over.
use Rattle.std.proofs.Common.{◌≡◌, ◌≢◌, ◌∙◌, ℕ, ◌+◌, ◌<◌, ◌≤◌, List, [], ◌∷◌, ◌++◌, length, get_or, set, cond, eqb, Bool, true, false, refl, sym, ap, arith, inl, inr, ◌⊎◌}
use Rattle.std.specs.Prelude.{slice_index, ◌||◌}
use Rattle.std.proofs.lemmas.Bool.{cases_eq}
use Rattle.std.proofs.lemmas.Bool.Decides.{nat_tests}
use Rattle.std.proofs.lemmas.List.{length-set, get_or-set_same, get_or-set_other}
use Rattle.lama_marks.specs.Places.{is_place, AreMarked, value_after, AreWritten}

pub is_place-push : (i : ℕ) (ps : List ℕ) (p : ℕ) → is_place i (ps ++ p ∷ []) ≡ cond (eqb p i) true (is_place i ps)
is_place-push i [] p = by (eqb p i)
  where
    by : (b : Bool) → b || false ≡ cond b true false
    by true = refl
    by false = refl
is_place-push i (q ∷ ps) p = ap (λ b. eqb q i || b) (is_place-push i ps p) ∙ by (eqb q i) (eqb p i) (is_place i ps)
  where
    by : (a b c : Bool) → a || cond b true c ≡ cond b true (a || c)
    by true true c = refl
    by true false c = refl
    by false true c = refl
    by false false c = refl

value_after-push : (i : ℕ) (ps : List (ℕ × ℕ)) (p : ℕ × ℕ) (old : ℕ) → value_after i (ps ++ p ∷ []) old ≡ cond (eqb p.0 i) p.1 (value_after i ps old)
value_after-push i [] p old = refl
value_after-push i (q ∷ ps) p old = value_after-push i ps p (cond (eqb q.0 i) q.1 old)

-- what stands at a place after a write
at-set : (xs : List ℕ) (p x i : ℕ) → p < length xs → (p ≡ i) ⊎ (p ≢ i) → slice_index (set xs p x) i ≡ cond (eqb p i) x (slice_index xs i)
at-set xs p x i lt (inl is) =
    let here : eqb p i ≡ true = grind (arith, nat_tests, is) in
    ap (λ k. get_or (set xs p x) k 0) (sym is) ∙ (get_or-set_same xs p x 0 lt ∙ sym (ap (λ b. cond b x (get_or xs i 0)) here))
at-set xs p x i lt (inr ne) =
    let other : eqb p i ≡ false = grind (arith, nat_tests, ne) in
    get_or-set_other xs p i x 0 (λ e. ne (sym e)) ∙ sym (ap (λ b. cond b x (get_or xs i 0)) other)

pub marked-push : (ps : List ℕ) (p number : ℕ) (old now new : List ℕ) → AreMarked ps number old now → p < length old → new ≡ set now p number → AreMarked (ps ++ p ∷ []) number old new
marked-push ps p number old now new h lt is = record {
  len = ap length is ∙ (length-set now p number ∙ h.len);
  each = λ i l.
      ap (λ xs. get_or xs i 0) is ∙ (at-set now p number i (let n = h.len in omega (arith, n, lt)) (cases_eq p i)
      ∙ (ap (λ x. cond (eqb p i) number x) (h.each i l) ∙ (by (eqb p i) (is_place i ps) (get_or old i 0)
      ∙ sym (ap (λ b. cond b number (get_or old i 0)) (is_place-push i ps p)))));
}
  where
    by : (a b : Bool) (x : ℕ) → cond a number (cond b number x) ≡ cond (cond a true b) number x
    by true b x = refl
    by false b x = refl

pub written-push : (ps : List (ℕ × ℕ)) (p : ℕ × ℕ) (old now new : List ℕ) → AreWritten ps old now → p.0 < length old → new ≡ set now p.0 p.1 → AreWritten (ps ++ p ∷ []) old new
written-push ps p old now new h lt is = record {
  len = ap length is ∙ (length-set now p.0 p.1 ∙ h.len);
  each = λ i l.
      ap (λ xs. get_or xs i 0) is ∙ (at-set now p.0 p.1 i (let n = h.len in omega (arith, n, lt)) (cases_eq p.0 i)
      ∙ (ap (λ x. cond (eqb p.0 i) p.1 x) (h.each i l) ∙ sym (value_after-push i ps p (get_or old i 0))));
}

pub one-more : (p p' p0 i : ℕ) (b : Bool) → p' ≡ p + cond b 1 0 → p ≤ p0 + i → p' ≤ p0 + (i + 1)
one-more p p' p0 i true is le = omega (arith, is, le)
one-more p p' p0 i false is le = omega (arith, is, le)
