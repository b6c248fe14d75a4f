-- What lowering keeps, and what stands where nothing is lowered any more.
use Rattle.std.proofs.Common.{◌≡◌, ◌≢◌, ◌∙◌, ℕ, zero, suc, ◌+◌, ◌<◌, ◌≤◌, ◌⊎◌, inl, inr, List, [], ◌∷◌, length, get_or, set, cond, Bool, true, false, refl, sym, ap, subst, arith}
use Rattle.std.specs.Prelude.{All, min, slice_index, sum}
use Rattle.std.proofs.lemmas.Bool.{cases_eq, cases_lt}
use Rattle.std.proofs.lemmas.Bool.Decides.{nat_tests}
use Rattle.std.proofs.lemmas.List.{length-set, get_or-set_same, get_or-set_other}
use Rattle.std.proofs.lemmas.List.Sums.{sum_by-set, sum_by-cons}
use Rattle.lama_model.specs.Graph.{Graph}
use Rattle.lama_model.specs.Labels.{AreJoined}
use Rattle.lama_label.specs.Lowering.{second, lower_second, offers, offered, is_lower, take_one, take_all, take_edge, take_edges, take_own, AreLow, AreEdgesOf, IsEdgeSettled, AreSettled, IsLowered}
use Rattle.lama_model.proofs.Joined.{joined-trans, joined-sym}

past : (ls : List ℕ) (v : ℕ) → length ls ≤ v → slice_index ls v ≡ 0
past [] v le = refl
past (l ∷ ls) zero le = absurd (omega (arith, le))
past (l ∷ ls) (suc v) le = past ls v (omega (arith, le))

-- a vertex that has a lower offer is there
there : (ls : List ℕ) (p : ℕ × ℕ) → is_lower ls p ≡ true → (p.1 < slice_index ls p.0) × (p.0 < length ls)
there ls p e =
    let lt : p.1 < slice_index ls p.0 = grind (arith, nat_tests, e) in
    (lt, by lt (cases_lt p.0 (length ls)))
  where
    by : p.1 < slice_index ls p.0 → (p.0 < length ls) ⊎ (length ls ≤ p.0) → p.0 < length ls
    by lt (inl l) = l
    by lt (inr le) = let none = past ls p.0 le in absurd (omega (arith, lt, none))

sum-set : (ls : List ℕ) (v x : ℕ) → v < length ls → sum (set ls v x) + slice_index ls v ≡ sum ls + x
sum-set ls v x lt = sum_by-set (λ x. x) ls v x 0 lt

pub length-one : (p : ℕ × ℕ) (ls : List ℕ) → length (take_one p ls) ≡ length ls
length-one p ls = by (is_lower ls p)
  where
    by : (b : Bool) → length (cond b (set ls p.0 p.1) ls) ≡ length ls
    by true = length-set ls p.0 p.1
    by false = refl

pub kept-one : (p : ℕ × ℕ) (ls : List ℕ) → IsLowered ls (take_one p ls) (is_lower ls p ≡ false)
kept-one p ls = by (is_lower ls p) refl
  where
    by : (b : Bool) → is_lower ls p ≡ b → IsLowered ls (cond b (set ls p.0 p.1) ls) (is_lower ls p ≡ false)
    by true e =
        let t = there ls p e in let lt = t.0 in
        let s = sum-set ls p.0 p.1 t.1 in
        record { less = omega (arith, lt, s); same = λ eq. absurd (omega (arith, lt, s, eq)) }
    by false e = record { less = omega arith; same = λ eq. (refl, e) }

pub kept-all : (ps : List (ℕ × ℕ)) (ls : List ℕ) → IsLowered ls (take_all ps ls) (All (λ p. is_lower ls p ≡ false) ps)
kept-all [] ls = record { less = omega arith; same = λ eq. (refl, λ k d lt. absurd (omega (arith, lt))) }
kept-all (p ∷ ps) ls =
    let h = kept-one p ls in
    let k = kept-all ps (take_one p ls) in
    record {
      less = (let x = h.less in let y = k.less in omega (arith, x, y));
      same = λ eq.
          let x = h.less in let y = k.less in
          let first = h.same (omega (arith, x, y, eq)) in
          let next = k.same (omega (arith, x, y, eq)) in
          (next.0 ∙ first.0, both first.1 (subst (λ l. All (λ p. is_lower l p ≡ false) ps) first.0 next.1));
    }
  where
    both : is_lower ls p ≡ false → All (λ p. is_lower ls p ≡ false) ps → All (λ p. is_lower ls p ≡ false) (p ∷ ps)
    both e rest zero d lt = e
    both e rest (suc k) d lt = rest k d (omega (arith, lt))

pub kept-edges : (es : List (ℕ × ℕ)) (ls : List ℕ) → IsLowered ls (take_edges es ls) (AreSettled es ls)
kept-edges [] ls = record { less = omega arith; same = λ eq. (refl, λ k d lt. absurd (omega (arith, lt))) }
kept-edges (e ∷ es) ls =
    let h = kept-all (offers ls e.0 e.1) ls in
    let k = kept-edges es (take_edge e.0 e.1 ls) in
    record {
      less = (let x = h.less in let y = k.less in omega (arith, x, y));
      same = λ eq.
          let x = h.less in let y = k.less in
          let first = h.same (omega (arith, x, y, eq)) in
          let next = k.same (omega (arith, x, y, eq)) in
          (next.0 ∙ first.0, both first.1 (subst (AreSettled es) first.0 next.1));
    }
  where
    both : IsEdgeSettled ls e.0 e.1 → AreSettled es ls → AreSettled (e ∷ es) ls
    both h rest zero d lt = h
    both h rest (suc k) d lt = rest k d (omega (arith, lt))

length-all : (ps : List (ℕ × ℕ)) (ls : List ℕ) → length (take_all ps ls) ≡ length ls
length-all [] ls = refl
length-all (p ∷ ps) ls = length-all ps (take_one p ls) ∙ length-one p ls

pub length-edges : (es : List (ℕ × ℕ)) (ls : List ℕ) → length (take_edges es ls) ≡ length ls
length-edges [] ls = refl
length-edges (e ∷ es) ls = length-edges es (take_edge e.0 e.1 ls) ∙ length-all (offers ls e.0 e.1) ls

-- each vertex with the label of its label
pub kept-own : (vs ls : List ℕ) → IsLowered ls (take_own vs ls) (Unit {0})
kept-own [] ls = record { less = omega arith; same = λ eq. (refl, tt) }
kept-own (v ∷ vs) ls =
    let h = kept-one (v, second ls v) ls in
    let k = kept-own vs (take_one (v, second ls v) ls) in
    record {
      less = (let x = h.less in let y = k.less in omega (arith, x, y));
      same = λ eq.
          let x = h.less in let y = k.less in
          let first = h.same (omega (arith, x, y, eq)) in
          let next = k.same (omega (arith, x, y, eq)) in
          (next.0 ∙ first.0, tt);
    }

-- one lowering after another
pub lowered-own : {P : Type 0} (ls ls' : List ℕ) (vs : List ℕ) → IsLowered ls ls' P → IsLowered ls (take_own vs ls') P
lowered-own ls ls' vs h =
    let k = kept-own vs ls' in
    record {
      less = (let x = h.less in let y = k.less in omega (arith, x, y));
      same = λ eq.
          let x = h.less in let y = k.less in
          let first = h.same (omega (arith, x, y, eq)) in
          let next = k.same (omega (arith, x, y, eq)) in
          (next.0 ∙ first.0, first.1);
    }

-- labels of which none is lower sum up to no less
pub offered-sum : (ls : List ℕ) (v : ℕ) (cs part : List ℕ) → length cs ≡ length part → ((k : ℕ) → k < length part → slice_index ls (v + k) ≡ get_or part k 0) → All (λ p. is_lower ls p ≡ false) (offered v cs) → sum part ≤ sum cs
offered-sum ls v [] [] same at h = omega arith
offered-sum ls v [] (l ∷ part) same at h = absurd (omega (arith, same))
offered-sum ls v (c ∷ cs) [] same at h = absurd (omega (arith, same))
offered-sum ls v (c ∷ cs) (l ∷ part) same at h =
    let here : slice_index ls v ≡ l = ap (slice_index ls) (let z : v ≡ v + 0 = omega arith in z) ∙ at 0 (omega arith) in
    let e = h 0 (v, c) (omega arith) in
    let le : slice_index ls v ≤ c = grind (arith, nat_tests, e) in
    let rest = offered-sum ls (suc v) cs part (omega (arith, same)) (λ k lt. ap (slice_index ls) (let z : suc v + k ≡ v + suc k = omega arith in z) ∙ at (suc k) (omega (arith, lt))) (λ k d lt. h (suc k) d (omega (arith, lt))) in
    let more : sum (l ∷ part) ≡ l + sum part = sum_by-cons (λ x. x) l part in
    let most : sum (c ∷ cs) ≡ c + sum cs = sum_by-cons (λ x. x) c cs in
    omega (arith, here, le, rest, more, most)

min-is : (a b : ℕ) → (min a b ≡ a) ⊎ (min a b ≡ b)
min-is a b = by (cases_lt a b)
  where
    by : (a < b) ⊎ (b ≤ a) → (min a b ≡ a) ⊎ (min a b ≡ b)
    by (inl lt) = inl (omega (arith, lt))
    by (inr le) = inr (omega (arith, le))

module _ (g : Graph) where
  -- the label of the label likewise
  pub low-second : (ls : List ℕ) → AreLow g ls → (v : ℕ) → v < g.count → (second ls v ≤ slice_index ls v) × AreJoined g (second ls v) v
  low-second ls h v lt =
      let a = h.each v lt in let le = a.0 in
      let b = h.each (slice_index ls v) (omega (arith, lt, le)) in
      (b.0, joined-trans g (second ls v) (slice_index ls v) v b.1 a.1)

  low-one : (p : ℕ × ℕ) (ls : List ℕ) → AreLow g ls → AreJoined g p.1 p.0 → AreLow g (take_one p ls)
  low-one p ls h joined = by (is_lower ls p) refl
    where
      by : (b : Bool) → is_lower ls p ≡ b → AreLow g (cond b (set ls p.0 p.1) ls)
      by false e = h
      by true e = let t = there ls p e in record { len = length-set ls p.0 p.1 ∙ h.len; each = λ v lt. at t.0 t.1 v lt (cases_eq p.0 v) }
        where
          at : p.1 < slice_index ls p.0 → p.0 < length ls → (v : ℕ) → v < g.count → (p.0 ≡ v) ⊎ (p.0 ≢ v) → (slice_index (set ls p.0 p.1) v ≤ v) × AreJoined g (slice_index (set ls p.0 p.1) v) v
          at less size v lt (inl e) =
              let is : slice_index (set ls p.0 p.1) v ≡ p.1 = ap (λ k. slice_index (set ls p.0 p.1) k) (sym e) ∙ get_or-set_same ls p.0 p.1 0 size in
              let old = (h.each p.0 (let n = h.len in omega (arith, size, n))).0 in (
                omega (arith, is, less, old, e),
                subst (λ k. AreJoined g (slice_index (set ls p.0 p.1) v) k) e (subst (λ k. AreJoined g k p.0) (sym is) joined),
              )
          at less size v lt (inr ne) =
              let is : slice_index (set ls p.0 p.1) v ≡ slice_index ls v = get_or-set_other ls p.0 v p.1 0 (λ e. ne (sym e)) in
              let old = h.each v lt in
              (let le = old.0 in omega (arith, is, le), subst (λ k. AreJoined g k v) (sym is) old.1)

  pub low-all : (ps : List (ℕ × ℕ)) (ls : List ℕ) → AreLow g ls → All (λ p. AreJoined g p.1 p.0) ps → AreLow g (take_all ps ls)
  low-all [] ls h joined = h
  low-all (p ∷ ps) ls h joined = low-all ps (take_one p ls) (low-one p ls h (joined 0 p (omega arith))) (λ k d lt. joined (suc k) d (omega (arith, lt)))

  -- what an edge offers is joined
  pub edge-joined : (ls : List ℕ) → AreLow g ls → (u v : ℕ) → u < g.count → v < g.count → AreJoined g u v → All (λ p. AreJoined g p.1 p.0) (offers ls u v)
  edge-joined ls h u v lu lv edge = by (lower (min-is (second ls u) (second ls v)))
    where
      lower : (min (second ls u) (second ls v) ≡ second ls u) ⊎ (min (second ls u) (second ls v) ≡ second ls v) → AreJoined g (lower_second ls u v) u
      lower (inl e) = subst (λ k. AreJoined g k u) (sym e) (low-second ls h u lu).1
      lower (inr e) = subst (λ k. AreJoined g k u) (sym e) (joined-trans g (second ls v) v u (low-second ls h v lv).1 (joined-sym g u v edge))

      by : AreJoined g (lower_second ls u v) u → All (λ p. AreJoined g p.1 p.0) (offers ls u v)
      by one zero d lt = one
      by one (suc zero) d lt = joined-trans g (lower_second ls u v) u (slice_index ls u) one (joined-sym g (slice_index ls u) u (h.each u lu).1)
      by one (suc (suc zero)) d lt = joined-trans g (lower_second ls u v) u v one edge
      by one (suc (suc (suc zero))) d lt = joined-trans g (lower_second ls u v) v (slice_index ls v) (joined-trans g (lower_second ls u v) u v one edge) (joined-sym g (slice_index ls v) v (h.each v lv).1)
      by one (suc (suc (suc (suc k)))) d lt = absurd (omega (arith, lt))

  pub low-edges : (es : List (ℕ × ℕ)) (ls : List ℕ) → AreLow g ls → AreEdgesOf g es → AreLow g (take_edges es ls)
  low-edges [] ls h are = h
  low-edges (e ∷ es) ls h are =
      let first = are 0 e (omega arith) in
      low-edges es (take_edge e.0 e.1 ls) (low-all (offers ls e.0 e.1) ls h (edge-joined ls h e.0 e.1 first.0 first.1 first.2)) (λ k d lt. are (suc k) d (omega (arith, lt)))

  -- what low labels offer to their own vertices is joined
  offered-joined : (v : ℕ) (cs : List ℕ) → ((k : ℕ) → k < length cs → AreJoined g (get_or cs k 0) (v + k)) → All (λ p. AreJoined g p.1 p.0) (offered v cs)
  offered-joined v [] at k d lt = absurd (omega (arith, lt))
  offered-joined v (c ∷ cs) at zero d lt = subst (AreJoined g c) (let z : v + 0 ≡ v = omega arith in z) (at 0 (omega arith))
  offered-joined v (c ∷ cs) at (suc k) d lt =
      offered-joined (suc v) cs (λ i li. subst (AreJoined g (get_or cs i 0)) (let z : v + suc i ≡ suc v + i = omega arith in z) (at (suc i) (omega (arith, li)))) k d (omega (arith, lt))

  pub low-offered : (cs : List ℕ) → AreLow g cs → All (λ p. AreJoined g p.1 p.0) (offered 0 cs)
  low-offered cs h = offered-joined 0 cs (λ k lt. subst (AreJoined g (get_or cs k 0)) (let z : k ≡ 0 + k = omega arith in z) (h.each k (let n = h.len in omega (arith, lt, n))).1)

  -- where nothing is lower any more, the two ends of an edge have one label
  pub settled-edge : (ls : List ℕ) → AreLow g ls → (u v : ℕ) → u < g.count → v < g.count → IsEdgeSettled ls u v → slice_index ls u ≡ slice_index ls v
  settled-edge ls h u v lu lv edge =
      let su = (low-second ls h u lu).0 in
      let sv = (low-second ls h v lv).0 in
      let e0 = edge 0 (0, 0) (omega arith) in
      let e2 = edge 2 (0, 0) (omega arith) in
      let a : slice_index ls u ≤ lower_second ls u v = grind (arith, nat_tests, e0) in
      let b : slice_index ls v ≤ lower_second ls u v = grind (arith, nat_tests, e2) in
      let left : lower_second ls u v ≤ second ls u = omega arith in
      let right : lower_second ls u v ≤ second ls v = omega arith in
      omega (arith, su, sv, a, b, left, right)

  pub low-own : (vs ls : List ℕ) → AreLow g ls → All (λ v. v < g.count) vs → AreLow g (take_own vs ls)
  low-own [] ls h below = h
  low-own (v ∷ vs) ls h below =
      low-own vs (take_one (v, second ls v) ls) (low-one (v, second ls v) ls h (low-second ls h v (below 0 v (omega arith))).1) (λ k d lt. below (suc k) d (omega (arith, lt)))
