-- Walks by their steps: joined, cut, and without a vertex twice.
use Rattle.std.proofs.Common.{◌≡◌, ◌≢◌, ◌∙◌, ℕ, zero, suc, ◌+◌, ◌<◌, ◌≤◌, ◌⊎◌, inl, inr, List, [], ◌∷◌, ◌++◌, length, get_or, map, refl, sym, ap, subst, arith}
use Rattle.std.specs.Prelude.{sum_by, Contains}
use Rattle.std.proofs.lemmas.Bool.{cases_eq}
use Rattle.std.proofs.lemmas.List.Sums.{sum_by-cons, sum_by_push}
use Rattle.lama_model.specs.Distances.{IsRoute, LeadsBelow, Cost, IsNoMore, HasRoute, further}
use Rattle.lama_model.proofs.LevelLaw.{pigeons}

-- the weights of the steps together
abbrev pub sum_of : List (ℕ × ℕ) → ℕ
sum_of steps = sum_by (λ (p : ℕ × ℕ). p.1) steps

pub sum-cons : (p : ℕ × ℕ) (ps : List (ℕ × ℕ)) → sum_of (p ∷ ps) ≡ p.1 + sum_of ps
sum-cons p ps = sum_by-cons (λ (q : ℕ × ℕ). q.1) p ps

pub cost-eq : (a b : Cost) → a.sum ≡ b.sum → a.hops ≡ b.hops → a ≡ b
cost-eq a b e f = λ i. record { sum = e i; hops = f i }

pub no_more-both : (a b : Cost) → IsNoMore a b → IsNoMore b a → a ≡ b
no_more-both a b h k =
    let ab = h.sums in
    let ba = k.sums in
    let e : a.sum ≡ b.sum = omega (arith, ab, ba) in
    let x = h.edges e in
    let y = k.edges (sym e) in
    cost-eq a b e (omega (arith, x, y))

pub no_more-through : (a b c : Cost) → IsNoMore a b → IsNoMore b c → IsNoMore a c
no_more-through a b c h k = record {
  sums = (let x = h.sums in let y = k.sums in omega (arith, x, y));
  edges = λ e.
      let x = h.sums in
      let y = k.sums in
      let ab : a.sum ≡ b.sum = omega (arith, x, y, e) in
      let bc : b.sum ≡ c.sum = omega (arith, x, y, e) in
      let p = h.edges ab in
      let q = k.edges bc in
      omega (arith, p, q);
}

pub further-no_more : (a b : Cost) (w : ℕ) → IsNoMore a b → IsNoMore (further a w) (further b w)
further-no_more a b w h = record {
  sums = (let x = h.sums in omega (arith, x));
  edges = λ e.
      let same : a.sum ≡ b.sum = omega (arith, e) in
      let p = h.edges same in
      omega (arith, p);
}

module _ (rows : ℕ → List (ℕ × ℕ)) where
  -- a walk with one step more at its end
  pub route-push : (u : ℕ) (steps : List (ℕ × ℕ)) (v w x : ℕ) → IsRoute rows u steps v → Contains (rows v) (x, w) → IsRoute rows u (steps ++ (x, w) ∷ []) x
  route-push u [] v w x h e = (subst (λ y. Contains (rows y) (x, w)) (sym h) e, refl)
  route-push u (p ∷ ps) v w x h e = (h.0, route-push p.0 ps v w x h.1 e)

  pub sum-push : (steps : List (ℕ × ℕ)) (x w : ℕ) → sum_of (steps ++ (x, w) ∷ []) ≡ sum_of steps + w
  sum-push steps x w = sum_by_push (λ (q : ℕ × ℕ). q.1) steps (x, w)

  pub length-push : (steps : List (ℕ × ℕ)) (x w : ℕ) → length (steps ++ (x, w) ∷ []) ≡ length steps + 1
  length-push [] x w = refl
  length-push (p ∷ ps) x w = let h = length-push ps x w in omega (arith, h)

  pub has-further : (s u v w : ℕ) (c : Cost) → HasRoute rows s u c → Contains (rows u) (v, w) → HasRoute rows s v (further c w)
  has-further s u v w c h e = record {
    steps = h.steps ++ (v, w) ∷ [];
    walks = route-push s h.steps u w v h.walks e;
    sum = sum-push h.steps v w ∙ ap (λ n. n + w) h.sum;
    hops = length-push h.steps v w ∙ ap (λ n. n + 1) h.hops;
  }

  -- the last step of a walk that has one
  pub record LastStep (u v sum hops : ℕ) : Type 0 where
    pub before : ℕ
    pub weight : ℕ
    pub cost : Cost
    pub reached : HasRoute rows u before cost
    pub edge : Contains (rows before) (v, weight)
    pub sums : sum ≡ cost.sum + weight
    pub edges : hops ≡ cost.hops + 1

  pub last-step : (u : ℕ) (p : ℕ × ℕ) (ps : List (ℕ × ℕ)) (v : ℕ) → IsRoute rows u (p ∷ ps) v → LastStep u v (sum_of (p ∷ ps)) (length (p ∷ ps))
  last-step u p [] v h = record {
    before = u;
    weight = p.1;
    cost = record { sum = 0; hops = 0 };
    reached = record { steps = []; walks = refl; sum = refl; hops = refl };
    edge = subst (λ x. Contains (rows u) (x, p.1)) h.1 h.0;
    sums = (let a = sum-cons p [] in omega (arith, a));
    edges = refl;
  }
  last-step u p (q ∷ qs) v h =
      let l = last-step p.0 q qs v h.1 in
      record {
        before = l.before;
        weight = l.weight;
        cost = record { sum = p.1 + l.cost.sum; hops = suc l.cost.hops };
        reached = record {
          steps = p ∷ l.reached.steps;
          walks = (h.0, l.reached.walks);
          sum = sum-cons p l.reached.steps ∙ ap (λ n. p.1 + n) l.reached.sum;
          hops = ap suc l.reached.hops;
        };
        edge = l.edge;
        sums = (let e = l.sums in let a = sum-cons p (q ∷ qs) in omega (arith, e, a));
        edges = (let e = l.edges in omega (arith, e));
      }

  -- the vertex is none of these
  abbrev pub IsApart : ℕ → List ℕ → Type 0
  IsApart u [] = Unit {0}
  IsApart u (v ∷ vs) = (u ≢ v) × IsApart u vs

  -- no vertex twice
  abbrev pub AreApart : List ℕ → Type 0
  AreApart [] = Unit {0}
  AreApart (v ∷ vs) = IsApart v vs × AreApart vs

  -- the vertices behind the first one
  abbrev pub met : List (ℕ × ℕ) → List ℕ
  met steps = map (λ (p : ℕ × ℕ). p.0) steps

  -- a walk that meets each vertex once, and costs no more
  pub record Short (u v sum hops : ℕ) : Type 0 where
    pub steps : List (ℕ × ℕ)
    pub walks : IsRoute rows u steps v
    pub sums : sum_of steps ≤ sum
    pub edges : length steps ≤ hops
    pub apart : AreApart (u ∷ met steps)

  cut-here : (u x : ℕ) (steps : List (ℕ × ℕ)) (v : ℕ) → IsRoute rows x steps v → AreApart (x ∷ met steps) → u ≡ x → Short u v (sum_of steps) (length steps)
  cut-here u x steps v walks apart e = record {
    steps = steps;
    walks = subst (λ y. IsRoute rows y steps v) (sym e) walks;
    sums = omega arith;
    edges = omega arith;
    apart = subst (λ y. AreApart (y ∷ met steps)) (sym e) apart;
  }

  -- where u is met, and the walk from there
  cut : (u x : ℕ) (steps : List (ℕ × ℕ)) (v : ℕ) → IsRoute rows x steps v → AreApart (x ∷ met steps) → IsApart u (x ∷ met steps) ⊎ Short u v (sum_of steps) (length steps)
  cut u x [] v walks apart = by (cases_eq u x)
    where
      by : (u ≡ x) ⊎ (u ≢ x) → IsApart u (x ∷ []) ⊎ Short u v (sum_of []) 0
      by (inl e) = inr (cut-here u x [] v walks apart e)
      by (inr ne) = inl (ne, tt)
  cut u x (p ∷ ps) v walks apart = by (cases_eq u x) (cut u p.0 ps v walks.1 apart.1)
    where
      by : (u ≡ x) ⊎ (u ≢ x) → IsApart u (p.0 ∷ met ps) ⊎ Short u v (sum_of ps) (length ps) → IsApart u (x ∷ met (p ∷ ps)) ⊎ Short u v (sum_of (p ∷ ps)) (length (p ∷ ps))
      by (inl e) rest = inr (cut-here u x (p ∷ ps) v walks apart e)
      by (inr ne) (inl h) = inl (ne, h)
      by (inr ne) (inr s) = inr (record {
        steps = s.steps;
        walks = s.walks;
        sums = (let a = s.sums in let c = sum-cons p ps in omega (arith, a, c));
        edges = (let a = s.edges in omega (arith, a));
        apart = s.apart;
      })

  pub short-of : (u : ℕ) (steps : List (ℕ × ℕ)) (v : ℕ) → IsRoute rows u steps v → Short u v (sum_of steps) (length steps)
  short-of u [] v walks = record { steps = []; walks = walks; sums = omega arith; edges = omega arith; apart = (tt, tt) }
  short-of u (p ∷ ps) v walks = by (short-of p.0 ps v walks.1)
    where
      by : Short p.0 v (sum_of ps) (length ps) → Short u v (sum_of (p ∷ ps)) (length (p ∷ ps))
      by s = joined (cut u p.0 s.steps v s.walks s.apart)
        where
          joined : IsApart u (p.0 ∷ met s.steps) ⊎ Short u v (sum_of s.steps) (length s.steps) → Short u v (sum_of (p ∷ ps)) (length (p ∷ ps))
          joined (inl h) = record {
            steps = p ∷ s.steps;
            walks = (walks.0, s.walks);
            sums = (let a = s.sums in let b = sum-cons p s.steps in let c = sum-cons p ps in omega (arith, a, b, c));
            edges = (let a = s.edges in omega (arith, a));
            apart = (h, s.apart);
          }
          joined (inr t) = record {
            steps = t.steps;
            walks = t.walks;
            sums = (let a = s.sums in let b = t.sums in let c = sum-cons p ps in omega (arith, a, b, c));
            edges = (let a = s.edges in let b = t.edges in omega (arith, a, b));
            apart = t.apart;
          }

  apart-at : (u : ℕ) (vs : List ℕ) (j : ℕ) → IsApart u vs → j < length vs → u ≢ get_or vs j 0
  apart-at u [] j h lt = absurd (omega (arith, lt))
  apart-at u (v ∷ vs) zero h lt = h.0
  apart-at u (v ∷ vs) (suc j) h lt = apart-at u vs j h.1 (omega (arith, lt))

  one-place : (vs : List ℕ) (i j : ℕ) → AreApart vs → i < length vs → j < length vs → get_or vs i 0 ≡ get_or vs j 0 → i ≡ j
  one-place [] i j h li lj e = absurd (omega (arith, li))
  one-place (v ∷ vs) zero zero h li lj e = refl
  one-place (v ∷ vs) zero (suc j) h li lj e = absurd (apart-at v vs j h.0 (omega (arith, lj)) e)
  one-place (v ∷ vs) (suc i) zero h li lj e = absurd (apart-at v vs i h.0 (omega (arith, li)) (sym e))
  one-place (v ∷ vs) (suc i) (suc j) h li lj e = ap suc (one-place vs i j h.1 (omega (arith, li)) (omega (arith, lj)) e)

  -- so there are no more of them than vertices
  pub few-apart : (count : ℕ) (vs : List ℕ) → AreApart vs → ((j : ℕ) → j < length vs → get_or vs j 0 < count) → length vs ≤ count
  few-apart count vs h below = pigeons count (length vs) (λ j. get_or vs j 0) below (λ i j li lj e. one-place vs i j h li lj e)

  met-below : (count u : ℕ) (steps : List (ℕ × ℕ)) (v : ℕ) → LeadsBelow rows count → IsRoute rows u steps v → (j : ℕ) → j < length (met steps) → get_or (met steps) j 0 < count
  met-below count u [] v below walks j lt = absurd (omega (arith, lt))
  met-below count u (p ∷ ps) v below walks zero lt = below u p walks.0
  met-below count u (p ∷ ps) v below walks (suc j) lt = met-below count p.0 ps v below walks.1 j (omega (arith, lt))

  length-met : (steps : List (ℕ × ℕ)) → length (met steps) ≡ length steps
  length-met [] = refl
  length-met (p ∷ ps) = ap suc (length-met ps)

  pub route-below : (count u : ℕ) (steps : List (ℕ × ℕ)) (v : ℕ) → LeadsBelow rows count → u < count → IsRoute rows u steps v → v < count
  route-below count u [] v below lt walks = subst (λ x. x < count) walks lt
  route-below count u (p ∷ ps) v below lt walks = route-below count p.0 ps v below (below u p walks.0) walks.1

  -- a walk that meets each vertex once has fewer edges than there are vertices
  pub short-few : (count u v sum hops : ℕ) → LeadsBelow rows count → u < count → (s : Short u v sum hops) → length s.steps < count
  short-few count u v sum hops below lt s =
      let few = few-apart count (u ∷ met s.steps) s.apart at in
      let same = length-met s.steps in
      omega (arith, few, same)
    where
      at : (j : ℕ) → j < length (u ∷ met s.steps) → get_or (u ∷ met s.steps) j 0 < count
      at zero lj = lt
      at (suc j) lj = met-below count u s.steps v below s.walks j (omega (arith, lj))
