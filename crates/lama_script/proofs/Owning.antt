-- Labels that are their own label.
use Rattle.std.proofs.Common.{◌≡◌, ◌∙◌, ℕ, zero, suc, ◌+◌, ◌-◌, ◌<◌, ◌≤◌, List, [], ◌∷◌, length, get_or, map, cond, Bool, true, false, refl, sym, ap, subst, arith, true≢false}
use Rattle.std.specs.Prelude.{◌==◌, ◌||◌, All, nat_eq}
use Rattle.std.specs.List.{list_any, IsDistinct, AllByRecursion}
use Rattle.std.specs.Set.{is_member}
use Rattle.std.proofs.lemmas.Bool.Decides.{nat_tests}
use Rattle.std.proofs.lemmas.List.Elements.{All-head, All-tail}
use Rattle.std.proofs.lemmas.Map.Made.{length-from_keys}
use Rattle.std.proofs.lemmas.Cmp.{nat_eq_equiv}
use Rattle.lama_model.proofs.LevelLaw.{or-right, both-true}
use Rattle.lama_model.specs.Labels.{AreFirst}
use Rattle.lama_model.specs.Lines.{count_labels}
use Rattle.lama_script.specs.Totals.{own_from}

-- those of the numbers that are the number of their own place
abbrev owned : ℕ → List ℕ → List ℕ
owned v [] = []
owned v (l ∷ ls) = cond (l == v) (l ∷ owned (suc v) ls) (owned (suc v) ls)

length-owned : (v : ℕ) (ls : List ℕ) → length (owned v ls) ≡ own_from v ls
length-owned v [] = refl
length-owned v (l ∷ ls) = by (l == v) (length-owned (suc v) ls)
  where
    by : (b : Bool) → length (owned (suc v) ls) ≡ own_from (suc v) ls → length (cond b (l ∷ owned (suc v) ls) (owned (suc v) ls)) ≡ cond b 1 0 + own_from (suc v) ls
    by true rest = ap suc rest ∙ (let e : suc (own_from (suc v) ls) ≡ 1 + own_from (suc v) ls = omega arith in e)
    by false rest = rest ∙ (let e : own_from (suc v) ls ≡ 0 + own_from (suc v) ls = omega arith in e)

-- they are no less than the first place
owned-after : (k v : ℕ) (ls : List ℕ) → k < v → AllByRecursion (λ y. nat_eq k y ≡ false) (owned v ls)
owned-after k v [] lt = tt
owned-after k v (l ∷ ls) lt = by (l == v) refl (owned-after k (suc v) ls (omega (arith, lt)))
  where
    by : (b : Bool) → (l == v) ≡ b → AllByRecursion (λ y. nat_eq k y ≡ false) (owned (suc v) ls) → AllByRecursion (λ y. nat_eq k y ≡ false) (cond b (l ∷ owned (suc v) ls) (owned (suc v) ls))
    by true e rest = let at : l ≡ v = grind (arith, nat_tests, e) in ((let t : nat_eq k l ≡ false = grind (arith, nat_tests, at, lt) in t), rest)
    by false e rest = rest

owned-distinct : (v : ℕ) (ls : List ℕ) → IsDistinct nat_eq (owned v ls)
unfolding IsDistinct
owned-distinct v [] = tt
owned-distinct v (l ∷ ls) = by (l == v) refl (owned-distinct (suc v) ls)
  where
    by : (b : Bool) → (l == v) ≡ b → IsDistinct nat_eq (owned (suc v) ls) → IsDistinct nat_eq (cond b (l ∷ owned (suc v) ls) (owned (suc v) ls))
    by true e rest = let at : l ≡ v = grind (arith, nat_tests, e) in (owned-after l (suc v) ls (omega (arith, at)), rest)
    by false e rest = rest

-- where one of them stands
record Stands (q v : ℕ) (ls : List ℕ) : Type 0 where
  from : v ≤ q
  within : q < v + length ls
  is : (d : ℕ) → get_or ls (q - v) d ≡ q

stands-later : (q v l : ℕ) (ls : List ℕ) → Stands q (suc v) ls → Stands q v (l ∷ ls)
stands-later q v l ls s = record {
  from = let f = s.from in omega (arith, f);
  within = let w = s.within in omega (arith, w);
  is = λ d. let f = s.from in let step : q - v ≡ suc (q - suc v) = omega (arith, f) in ap (λ i. get_or (l ∷ ls) i d) step ∙ s.is d;
}

stands-here : (q v l : ℕ) (ls : List ℕ) → l ≡ v → q ≡ v → Stands q v (l ∷ ls)
stands-here q v l ls at same = record {
  from = omega (arith, same);
  within = omega (arith, same);
  is = λ d. let none : q - v ≡ 0 = omega (arith, same) in ap (λ i. get_or (l ∷ ls) i d) none ∙ (at ∙ sym same);
}

owned-stands : (q v : ℕ) (ls : List ℕ) → list_any (nat_eq q) (owned v ls) ≡ true → Stands q v ls
owned-stands q v [] h = absurd (true≢false (sym h))
owned-stands q v (l ∷ ls) h = by (l == v) refl h (λ h. stands-later q v l ls (owned-stands q (suc v) ls h))
  where
    first : l ≡ v → (b : Bool) → nat_eq q l ≡ b → b || list_any (nat_eq q) (owned (suc v) ls) ≡ true → (list_any (nat_eq q) (owned (suc v) ls) ≡ true → Stands q v (l ∷ ls)) → Stands q v (l ∷ ls)
    first at true e h later = stands-here q v l ls at (let same : q ≡ v = grind (arith, nat_tests, at, e) in same)
    first at false e h later = later h

    by : (b : Bool) → (l == v) ≡ b → list_any (nat_eq q) (cond b (l ∷ owned (suc v) ls) (owned (suc v) ls)) ≡ true → (list_any (nat_eq q) (owned (suc v) ls) ≡ true → Stands q v (l ∷ ls)) → Stands q v (l ∷ ls)
    by true e h later = first (let at : l ≡ v = grind (arith, nat_tests, e) in at) (nat_eq q l) refl h later
    by false e h later = later h

owned-has : (v i : ℕ) (ls : List ℕ) → i < length ls → get_or ls i 0 ≡ v + i → list_any (nat_eq (v + i)) (owned v ls) ≡ true
owned-has v i [] lt is = absurd (omega (arith, lt))
owned-has v zero (l ∷ ls) lt is =
    let here : (l == v) ≡ true = grind (arith, nat_tests, is) in
    let self : nat_eq (v + 0) l ≡ true = grind (arith, nat_tests, is) in
    ap (λ b. list_any (nat_eq (v + 0)) (cond b (l ∷ owned (suc v) ls) (owned (suc v) ls))) here ∙ ap (λ b. b || list_any (nat_eq (v + 0)) (owned (suc v) ls)) self
owned-has v (suc i) (l ∷ ls) lt is =
    let step : suc v + i ≡ v + suc i = omega arith in
    let rest = subst (λ q. list_any (nat_eq q) (owned (suc v) ls) ≡ true) step (owned-has (suc v) i ls (omega (arith, lt)) (is ∙ sym step)) in
    by (l == v) rest
  where
    by : (b : Bool) → list_any (nat_eq (v + suc i)) (owned (suc v) ls) ≡ true → list_any (nat_eq (v + suc i)) (cond b (l ∷ owned (suc v) ls) (owned (suc v) ls)) ≡ true
    by true h = or-right (nat_eq (v + suc i) l) (list_any (nat_eq (v + suc i)) (owned (suc v) ls)) h
    by false h = h

-- a number of a list stands somewhere
at : (q : ℕ) (ls : List ℕ) → list_any (nat_eq q) ls ≡ true → (i : ℕ) × (i < length ls) × (get_or ls i 0 ≡ q)
at q [] h = absurd (true≢false (sym h))
at q (l ∷ ls) h = by (nat_eq q l) refl h (at q ls)
  where
    by : (b : Bool) → nat_eq q l ≡ b → b || list_any (nat_eq q) ls ≡ true → (list_any (nat_eq q) ls ≡ true → (i : ℕ) × (i < length ls) × (get_or ls i 0 ≡ q)) → (i : ℕ) × (i < length (l ∷ ls)) × (get_or (l ∷ ls) i 0 ≡ q)
    by true e h later = (0, omega arith, grind (arith, nat_tests, e))
    by false e h later = let rest = later h in (suc rest.0, (let lt = rest.1 in omega (arith, lt)), rest.2)

has : (q i : ℕ) (ls : List ℕ) → i < length ls → get_or ls i 0 ≡ q → list_any (nat_eq q) ls ≡ true
has q i [] lt is = absurd (omega (arith, lt))
has q zero (l ∷ ls) lt is = let self : nat_eq q l ≡ true = grind (arith, nat_tests, is) in ap (λ b. b || list_any (nat_eq q) ls) self
has q (suc i) (l ∷ ls) lt is = or-right (nat_eq q l) (list_any (nat_eq q) ls) (has q i ls (omega (arith, lt)) is)

-- the different labels are those that are their own
pub own-count : (ls : List ℕ) → AreFirst ls → own_from 0 ls ≡ count_labels ls
own-count ls first = sym (length-owned 0 ls) ∙ length-from_keys nat_eq_equiv (owned 0 ls) ls (owned-distinct 0 ls) (λ q. both-true (is_member nat_eq (owned 0 ls) q) (is_member nat_eq ls q) (out q) (into q))
  where
    out : (q : ℕ) → list_any (nat_eq q) (owned 0 ls) ≡ true → list_any (nat_eq q) ls ≡ true
    out q h = let s = owned-stands q 0 ls h in let w = s.within in has q (q - 0) ls (omega (arith, w)) (s.is 0)

    into : (q : ℕ) → list_any (nat_eq q) ls ≡ true → list_any (nat_eq q) (owned 0 ls) ≡ true
    into q h =
        let p = at q ls h in
        let lt = p.1 in
        let small = first.below p.0 lt in
        let is = p.2 in
        let self : get_or ls q 0 ≡ q = ap (λ k. get_or ls k 0) (sym is) ∙ (first.own p.0 lt ∙ is) in
        let zero : q ≡ 0 + q = omega arith in
        subst (λ k. list_any (nat_eq k) (owned 0 ls) ≡ true) (sym zero) (owned-has 0 q ls (omega (arith, lt, small, is)) (self ∙ zero))

-- the same of each element
pub map-same : (f g : ℕ → ℕ) (ls : List ℕ) → All (λ l. f l ≡ g l) ls → map f ls ≡ map g ls
map-same f g [] h = refl
map-same f g (l ∷ ls) h = (λ j. All-head (λ l. f l ≡ g l) l ls h j ∷ map-same f g ls (All-tail (λ l. f l ≡ g l) l ls h) j)
