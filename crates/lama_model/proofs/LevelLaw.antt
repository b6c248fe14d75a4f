-- The levels that are computed are the least numbers of edges of walks.
use Rattle.std.proofs.Common.{◌≡◌, ◌≢◌, ◌∙◌, ℕ, zero, suc, ◌+◌, ◌-◌, ◌<◌, ◌≤◌, ◌⊎◌, inl, inr, List, [], ◌∷◌, ◌++◌, length, get_or, map, cond, eqb, Bool, true, false, Option, None, Some, refl, sym, ap, subst, arith, true≢false}
use Rattle.std.specs.Prelude.{◌==◌, ◌&&◌, ◌||◌}
use Rattle.std.specs.List.{list_any, range_with_len}
use Rattle.std.proofs.lemmas.Bool.{cases_eq, cases_lt}
use Rattle.std.proofs.lemmas.Bool.Decides.{nat_tests}
use Rattle.std.proofs.lemmas.List.{length-map}
use Rattle.std.proofs.lemmas.List.FromFn.{length-range_with_len, get_or-map-range_with_len}
use Rattle.lama_base.specs.declared.Edge.{Edge}
use Rattle.lama_model.specs.Graph.{Graph, IsGraph, joins}
use Rattle.lama_model.specs.Levels.{leads, IsWalk, HasWalk, IsLevel, AreLevels, is_reached, first_from, level, levels}

-- an element that passes, which every test that it passes finds
pub record Found {X : Type 0} (p : X → Bool) (xs : List X) : Type 0 where
  pub one : X
  pub passes : p one ≡ true
  pub there : (q : X → Bool) → q one ≡ true → list_any q xs ≡ true
  pub index : ℕ
  pub within : index < length xs
  pub is : (d : X) → get_or xs index d ≡ one

pub or-right : (a b : Bool) → b ≡ true → a || b ≡ true
or-right true b e = refl
or-right false b e = e

pub or-left : (a b : Bool) → a ≡ true → a || b ≡ true
or-left true b e = refl
or-left false b e = absurd (true≢false (sym e))

pub and-left : (a b : Bool) → a && b ≡ true → a ≡ true
and-left true b e = refl
and-left false b e = absurd (true≢false (sym e))

pub and-right : (a b : Bool) → a && b ≡ true → b ≡ true
and-right true b e = e
and-right false b e = absurd (true≢false (sym e))

pub and-both : (a b : Bool) → a ≡ true → b ≡ true → a && b ≡ true
and-both true b e f = f
and-both false b e f = absurd (true≢false (sym e))

pub not-true : (b : Bool) → (b ≡ true → ⊥) → b ≡ false
not-true true h = absurd (h refl)
not-true false h = refl

pub any-found : {X : Type 0} (p : X → Bool) (xs : List X) → list_any p xs ≡ true → Found p xs
any-found p [] e = absurd (true≢false (sym e))
any-found p (x ∷ xs) e = by (p x) refl e (any-found p xs)
  where
    by : (b : Bool) → p x ≡ b → b || list_any p xs ≡ true → (list_any p xs ≡ true → Found p xs) → Found p (x ∷ xs)
    by true is e rest = record { one = x; passes = is; there = λ q passes. or-left (q x) (list_any q xs) passes; index = 0; within = omega arith; is = λ d. refl }
    by false is e rest =
        let f = rest e in
        record { one = f.one; passes = f.passes; there = λ q passes. or-right (q x) (list_any q xs) (f.there q passes); index = suc f.index; within = (let w = f.within in omega (arith, w)); is = f.is }

module _ (edges : List Edge) (s : ℕ) where
  -- one edge more
  pub reached-step : (n u w : ℕ) → leads edges u w ≡ true → is_reached edges s n u ≡ true → is_reached edges s (suc n) w ≡ true
  reached-step n u w edge reached =
      let f = any-found (joins u w) edges edge in
      let from : f.one.source ≡ u = let e = and-left (f.one.source == u) (f.one.target == w) f.passes in grind (arith, nat_tests, e) in
      f.there (λ e. (e.target == w) && is_reached edges s n e.source)
      (and-both (f.one.target == w) (is_reached edges s n f.one.source) (and-right (f.one.source == u) (f.one.target == w) f.passes) (ap (is_reached edges s n) from ∙ reached))

  -- the last edge of a walk
  pub record Last (n w : ℕ) : Type 0 where
    pub before : ℕ
    pub edge : leads edges before w ≡ true
    pub reached : is_reached edges s n before ≡ true

  pub last-edge : (n w : ℕ) → is_reached edges s (suc n) w ≡ true → Last n w
  last-edge n w h =
      let f = any-found (λ e. (e.target == w) && is_reached edges s n e.source) edges h in
      let to = and-left (f.one.target == w) (is_reached edges s n f.one.source) f.passes in
      let self : (f.one.source == f.one.source) ≡ true = grind (arith, nat_tests) in
      record {
        before = f.one.source;
        edge = f.there (joins f.one.source w) (and-both (f.one.source == f.one.source) (f.one.target == w) self to);
        reached = and-right (f.one.target == w) (is_reached edges s n f.one.source) f.passes;
      }

  walked : (m u : ℕ) (vs : List ℕ) (v : ℕ) → is_reached edges s m u ≡ true → IsWalk edges u vs v → is_reached edges s (m + length vs) v ≡ true
  walked m u [] v h w = let e : m ≡ m + 0 = omega arith in subst (λ k. is_reached edges s k v ≡ true) e (subst (λ x. is_reached edges s m x ≡ true) w h)
  walked m u (x ∷ vs) v h w =
      let e : suc m + length vs ≡ m + suc (length vs) = omega arith in
      subst (λ k. is_reached edges s k v ≡ true) e (walked (suc m) x vs v (reached-step m u x w.0 h) w.1)

  -- a walk reaches
  pub reached-by : (v n : ℕ) → HasWalk edges s v n → is_reached edges s n v ≡ true
  reached-by v n h =
      let self : (s == s) ≡ true = grind (arith, nat_tests) in
      let e : 0 + length h.vertices ≡ n = omega (arith, h.size) in
      subst (λ k. is_reached edges s k v ≡ true) e (walked 0 s h.vertices v self h.walks)

  snoc : (u : ℕ) (vs : List ℕ) (v w : ℕ) → IsWalk edges u vs v → leads edges v w ≡ true → IsWalk edges u (vs ++ w ∷ []) w
  snoc u [] v w h e = (subst (λ x. leads edges x w ≡ true) (sym h) e, refl)
  snoc u (x ∷ vs) v w h e = (h.0, snoc x vs v w h.1 e)

  length-snoc : (vs : List ℕ) (w : ℕ) → length (vs ++ w ∷ []) ≡ suc (length vs)
  length-snoc [] w = refl
  length-snoc (x ∷ vs) w = ap suc (length-snoc vs w)

  -- what is reached has a walk
  pub walk-of : (n v : ℕ) → is_reached edges s n v ≡ true → HasWalk edges s v n
  walk-of zero v h = record { vertices = []; size = refl; walks = grind (arith, nat_tests, h) }
  walk-of (suc n) v h =
      let l = last-edge n v h in
      let w = walk-of n l.before l.reached in
      record { vertices = w.vertices ++ v ∷ []; size = length-snoc w.vertices v ∙ ap suc w.size; walks = snoc s w.vertices l.before v w.walks l.edge }

-- what the first number that passes is
pub record Passes (test : ℕ → Bool) (i k n : ℕ) : Type 0 where
  pub passes : test n ≡ true
  pub from : i ≤ n
  pub within : n < i + k
  pub first : (j : ℕ) → i ≤ j → j < n → test j ≡ false

abbrev pub IsFirst : (ℕ → Bool) → ℕ → ℕ → Option ℕ → Type 0
IsFirst test i k None = (j : ℕ) → i ≤ j → j < i + k → test j ≡ false
IsFirst test i k (Some n) = Passes test i k n

pub first-is : (test : ℕ → Bool) (i k : ℕ) → IsFirst test i k (first_from test i k)
first-is test i zero = λ j le lt. absurd (omega (arith, le, lt))
first-is test i (suc k) = by (test i) refl (first-is test (i + 1) k)
  where
    later : (o : Option ℕ) → test i ≡ false → IsFirst test (i + 1) k o → IsFirst test i (suc k) o
    later None not h = λ j le lt. by_place j le lt (cases_eq i j)
      where
        by_place : (j : ℕ) → i ≤ j → j < i + suc k → (i ≡ j) ⊎ (i ≢ j) → test j ≡ false
        by_place j le lt (inl e) = subst (λ n. test n ≡ false) e not
        by_place j le lt (inr ne) = h j (omega (arith, le, ne)) (omega (arith, lt))
    later (Some n) not h = record {
      passes = h.passes;
      from = let f = h.from in omega (arith, f);
      within = let w = h.within in omega (arith, w);
      first = λ j le lt. by_place j le lt (cases_eq i j);
    }
      where
        by_place : (j : ℕ) → i ≤ j → j < n → (i ≡ j) ⊎ (i ≢ j) → test j ≡ false
        by_place j le lt (inl e) = subst (λ n. test n ≡ false) e not
        by_place j le lt (inr ne) = h.first j (omega (arith, le, ne)) lt

    by : (b : Bool) → test i ≡ b → IsFirst test (i + 1) k (first_from test (i + 1) k) → IsFirst test i (suc k) (cond b (Some i) (first_from test (i + 1) k))
    by true is rest = record { passes = is; from = omega arith; within = omega arith; first = λ j le lt. absurd (omega (arith, le, lt)) }
    by false is rest = later (first_from test (i + 1) k) is rest

-- no more different numbers below a count than the count
pub pigeons : (count n : ℕ) (f : ℕ → ℕ) → ((j : ℕ) → j < n → f j < count) → ((i j : ℕ) → i < n → j < n → f i ≡ f j → i ≡ j) → n ≤ count
pigeons count zero f below one = omega arith
pigeons zero (suc n) f below one = let b = below 0 (omega arith) in absurd (omega (arith, b))
pigeons (suc count) (suc n) f below one =
    let rest : n ≤ count = pigeons count n moved moved-below moved-one in omega (arith, rest)
  where
    moved : ℕ → ℕ
    moved j = cond (eqb (f j) count) (f n) (f j)

    at : (j : ℕ) → (b : Bool) → eqb (f j) count ≡ b → moved j ≡ cond b (f n) (f j)
    at j b e = ap (λ b. cond b (f n) (f j)) e

    moved-below : (j : ℕ) → j < n → moved j < count
    moved-below j lt = by (cases_eq (f j) count)
      where
        by : (f j ≡ count) ⊎ (f j ≢ count) → moved j < count
        by (inl e) =
            let here : moved j ≡ f n = at j true (grind (arith, nat_tests, e)) in
            let top = below n (omega arith) in
            let other : f n ≢ count = λ e'. let same = one j n (omega (arith, lt)) (omega arith) (e ∙ sym e') in omega (arith, lt, same) in
            omega (arith, here, top, other)
        by (inr ne) =
            let here : moved j ≡ f j = at j false (grind (arith, nat_tests, ne)) in
            let b = below j (omega (arith, lt)) in omega (arith, here, b, ne)

    moved-one : (i j : ℕ) → i < n → j < n → moved i ≡ moved j → i ≡ j
    moved-one i j li lj e = by (cases_eq (f i) count) (cases_eq (f j) count)
      where
        by : (f i ≡ count) ⊎ (f i ≢ count) → (f j ≡ count) ⊎ (f j ≢ count) → i ≡ j
        by (inl ei) (inl ej) = one i j (omega (arith, li)) (omega (arith, lj)) (ei ∙ sym ej)
        by (inl ei) (inr nj) =
            let hi : moved i ≡ f n = at i true (grind (arith, nat_tests, ei)) in
            let hj : moved j ≡ f j = at j false (grind (arith, nat_tests, nj)) in
            let same = one n j (omega arith) (omega (arith, lj)) (sym hi ∙ e ∙ hj) in absurd (omega (arith, same, lj))
        by (inr ni) (inl ej) =
            let hi : moved i ≡ f i = at i false (grind (arith, nat_tests, ni)) in
            let hj : moved j ≡ f n = at j true (grind (arith, nat_tests, ej)) in
            let same = one i n (omega (arith, li)) (omega arith) (sym hi ∙ e ∙ hj) in absurd (omega (arith, same, li))
        by (inr ni) (inr nj) =
            let hi : moved i ≡ f i = at i false (grind (arith, nat_tests, ni)) in
            let hj : moved j ≡ f j = at j false (grind (arith, nat_tests, nj)) in
            one i j (omega (arith, li)) (omega (arith, lj)) (sym hi ∙ e ∙ hj)

-- edges leave vertices of the graph alone
abbrev pub LeavesVertices : Graph → Type 0
LeavesVertices g = (u v : ℕ) → leads g.edges u v ≡ true → u < g.count

pub leaves : (g : Graph) → IsGraph g → LeavesVertices g
leaves g graph u v edge =
    let f = any-found (joins u v) g.edges edge in
    let from : f.one.source ≡ u = let e = and-left (f.one.source == u) (f.one.target == v) f.passes in grind (arith, nat_tests, e) in
    subst (λ k. k < g.count) (ap (λ (e : Edge). e.source) (f.is f.one) ∙ from) (graph f.index f.one f.within).0

module _ (g : Graph) (s : ℕ) (small : LeavesVertices g) where
  -- v is reached by n edges and by no fewer
  pub record Least (n v : ℕ) : Type 0 where
    pub reached : is_reached g.edges s n v ≡ true
    pub none : (j : ℕ) → j < n → is_reached g.edges s j v ≡ false

  pub least-of : (m v : ℕ) → is_reached g.edges s m v ≡ true → (n : ℕ) × Least n v
  least-of m v h = by (first_from (λ n. is_reached g.edges s n v) 0 (m + 1)) (first-is (λ n. is_reached g.edges s n v) 0 (m + 1))
    where
      by : (o : Option ℕ) → IsFirst (λ n. is_reached g.edges s n v) 0 (m + 1) o → (n : ℕ) × Least n v
      by None f = absurd (true≢false (sym h ∙ f m (omega arith) (omega arith)))
      by (Some n) f = (n, record { reached = f.passes; none = λ j lt. f.first j (omega arith) lt })

  -- on the way to a vertex there is one of each smaller number
  pub on-way : (n v j : ℕ) → v < g.count → Least n v → j ≤ n → (u : ℕ) × Least j u × (u < g.count)
  on-way zero v j lt h le = (v, subst (λ k. Least k v) (let e : 0 ≡ j = omega (arith, le) in e) h, lt)
  on-way (suc n) v j lt h le = by (cases_eq j (suc n)) (λ u lu hu lj. on-way n u j lu hu lj)
    where
      by : (j ≡ suc n) ⊎ (j ≢ suc n) → ((u : ℕ) → u < g.count → Least n u → j ≤ n → (u : ℕ) × Least j u × (u < g.count)) → (u : ℕ) × Least j u × (u < g.count)
      by (inl e) rest = (v, subst (λ k. Least k v) (sym e) h, lt)
      by (inr ne) rest =
          let l = last-edge g.edges s n v h.reached in
          let before : Least n l.before = record {
            reached = l.reached;
            none = λ i li. not-true (is_reached g.edges s i l.before) (λ e. true≢false (sym (reached-step g.edges s i l.before v l.edge e) ∙ h.none (suc i) (omega (arith, li))));
          } in
          rest l.before (small l.before v l.edge) before (omega (arith, le, ne))

  -- there is one such number
  pub least-one : (i j u : ℕ) → Least i u → Least j u → i ≡ j
  least-one i j u a b = by (cases_lt i j) (cases_lt j i)
    where
      by : (i < j) ⊎ (j ≤ i) → (j < i) ⊎ (i ≤ j) → i ≡ j
      by (inl lt) other = absurd (true≢false (sym a.reached ∙ b.none i lt))
      by (inr le) (inl lt) = absurd (true≢false (sym b.reached ∙ a.none j lt))
      by (inr le) (inr ge) = omega (arith, le, ge)

  -- so its number is below the count
  pub least-below : (n v : ℕ) → v < g.count → Least n v → n < g.count
  least-below n v lt h =
      let few : n + 1 ≤ g.count = pigeons g.count (n + 1) (λ j. (at j).0) (λ j lj. (at j).2) one in omega (arith, few)
    where
      at : (j : ℕ) → (u : ℕ) × Least (n - (n - j)) u × (u < g.count)
      at j = on-way n v (n - (n - j)) lt h (omega arith)

      one : (i j : ℕ) → i < n + 1 → j < n + 1 → (at i).0 ≡ (at j).0 → i ≡ j
      one i j li lj e =
          let same = least-one (n - (n - i)) (n - (n - j)) (at j).0 (subst (Least (n - (n - i))) e (at i).1) (at j).1 in
          omega (arith, same, li, lj)

  level-is : (v : ℕ) → v < g.count → (o : Option ℕ) → IsFirst (λ n. is_reached g.edges s n v) 0 g.count o → IsLevel g.edges s v o
  level-is v lt None f = λ m w.
      let l = least-of m v (reached-by g.edges s v m w) in
      let few = least-below l.0 v lt l.1 in
      true≢false (sym l.1.reached ∙ f l.0 (omega arith) (omega (arith, few)))
  level-is v lt (Some n) f = (walk-of g.edges s n v f.passes, λ m w. by m w (cases_lt m n))
    where
      by : (m : ℕ) → HasWalk g.edges s v m → (m < n) ⊎ (n ≤ m) → n ≤ m
      by m w (inl less) = absurd (true≢false (sym (reached-by g.edges s v m w) ∙ f.first m (omega arith) less))
      by m w (inr le) = le

  pub levels_are : AreLevels g s (levels g s)
  unfolding levels
  levels_are = record {
    len = length-map (range_with_len 0 g.count) (level g s) ∙ length-range_with_len 0 g.count;
    each = λ v lt. subst (IsLevel g.edges s v) (sym (get_or-map-range_with_len (level g s) 0 g.count v v None lt (let e : 0 + v ≡ v = omega arith in e)))
        (level-is v lt (level g s v) (first-is (λ n. is_reached g.edges s n v) 0 g.count));
  }

-- the same levels where the rows are the same
same-reached : (g h : Graph) → ((u v : ℕ) → leads g.edges u v ≡ leads h.edges u v) → (s n v : ℕ) → is_reached g.edges s n v ≡ true → is_reached h.edges s n v ≡ true
same-reached g h same s zero v e = e
same-reached g h same s (suc n) v e =
    let l = last-edge g.edges s n v e in
    reached-step h.edges s n l.before v (sym (same l.before v) ∙ l.edge) (same-reached g h same s n l.before l.reached)

pub both-true : (a b : Bool) → (a ≡ true → b ≡ true) → (b ≡ true → a ≡ true) → a ≡ b
both-true true b f h = sym (f refl)
both-true false true f h = h refl
both-true false false f h = refl

pub levels_same : (g h : Graph) → g.count ≡ h.count → ((u v : ℕ) → leads g.edges u v ≡ leads h.edges u v) → (s : ℕ) → levels g s ≡ levels h s
unfolding levels
levels_same g h count same s =
    let each : (v n : ℕ) → is_reached g.edges s n v ≡ is_reached h.edges s n v = λ v n. both-true (is_reached g.edges s n v) (is_reached h.edges s n v) (same-reached g h same s n v) (same-reached h g (λ u w. sym (same u w)) s n v) in
    λ j. map (λ v. first_from (λ n. each v n j) 0 (count j)) (range_with_len 0 (count j))
