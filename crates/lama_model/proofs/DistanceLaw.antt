-- The distances that are computed are the least costs of walks, with the least parents.
use Rattle.std.proofs.Common.{◌≡◌, ◌≢◌, ◌∙◌, ℕ, zero, suc, ◌+◌, ◌<◌, ◌≤◌, ◌⊎◌, inl, inr, List, [], ◌∷◌, length, get_or, map, cond, eqb, Bool, true, false, Option, None, Some, refl, sym, ap, subst, arith, true≢false}
use Rattle.std.specs.Prelude.{◌==◌, ◌&&◌, ◌||◌, nat_lt, min, Contains}
use Rattle.std.specs.Option.{option_map, unwrap_or}
use Rattle.std.specs.List.{list_any, range_with_len}
use Rattle.std.proofs.lemmas.Bool.{cases_eq, cases_lt}
use Rattle.std.proofs.lemmas.Bool.Decides.{nat_tests}
use Rattle.std.proofs.lemmas.List.{length-map, ext_get_or}
use Rattle.std.proofs.lemmas.List.FromFn.{length-range_with_len, get_or-map-range_with_len}
use Rattle.lama_model.specs.declared.reach.Reach.{Reach}
use Rattle.lama_model.specs.Graph.{Graph, IsGraph}
use Rattle.lama_model.specs.Row.{row, AreSame}
use Rattle.lama_model.specs.Levels.{first_from, is_among}
use Rattle.lama_model.specs.Distances.{IsRoute, LeadsBelow, Cost, IsNoMore, HasRoute, IsDistance, LeadsTo, IsParent, IsReach, AreReached, further, cost_of, reach_at, lesser, least_of, least_sum, cheaper, cost_within, comes_to, leads_to, parent, reach_of, reach_by, distances}
use Rattle.lama_model.proofs.LevelLaw.{any-found, or-right, and-left, and-right, and-both, IsFirst, first-is}
use Rattle.lama_model.proofs.LabelLaw.{graph-ends}
use Rattle.lama_model.proofs.Leading.{leads-graph}
use Rattle.lama_model.proofs.RouteLemmas.{sum_of, sum-cons, cost-eq, no_more-both, further-no_more, has-further, LastStep, last-step, short-of, short-few, route-below}

-- there is a number, and it is at most this one
pub record IsUpTo (o : Option ℕ) (n : ℕ) : Type 0 where
  pub value : ℕ
  pub is : o ≡ Some value
  pub within : value ≤ n

lesser-right : (a b : Option ℕ) (n : ℕ) → IsUpTo b n → IsUpTo (lesser a b) n
lesser-right None b n h = h
lesser-right (Some a) None n h = absurd (none h.is)
  where
    none : None ≡ Some h.value → ⊥
    none e = cc
lesser-right (Some a) (Some b) n h =
    let same : b ≡ h.value = (let e = h.is in cc) in
    let le = h.within in
    record { value = min a b; is = refl; within = omega (arith, same, le) }

lesser-left : (a : ℕ) (b : Option ℕ) → IsUpTo (lesser (Some a) b) a
lesser-left a None = record { value = a; is = refl; within = omega arith }
lesser-left a (Some b) = record { value = min a b; is = refl; within = omega arith }

least-among : (f : ℕ × ℕ → Option ℕ) (ps : List (ℕ × ℕ)) (p : ℕ × ℕ) (k a : ℕ) → k < length ps → get_or ps k p ≡ p → f p ≡ Some a → IsUpTo (least_of f ps) a
least-among f [] p k a lt is e = absurd (omega (arith, lt))
least-among f (q ∷ qs) p zero a lt is e = subst (λ o. IsUpTo (lesser o (least_of f qs)) a) (sym (ap f is ∙ e)) (lesser-left a (least_of f qs))
least-among f (q ∷ qs) p (suc k) a lt is e = lesser-right (f q) (least_of f qs) a (least-among f qs p k a (omega (arith, lt)) is e)

-- a pair that gives this number
pub record Gives (f : ℕ × ℕ → Option ℕ) (ps : List (ℕ × ℕ)) (a : ℕ) : Type 0 where
  pub pair : ℕ × ℕ
  pub among : Contains ps pair
  pub is : f pair ≡ Some a

gives-later : (f : ℕ × ℕ → Option ℕ) (q : ℕ × ℕ) (qs : List (ℕ × ℕ)) (a : ℕ) → Gives f qs a → Gives f (q ∷ qs) a
gives-later f q qs a g = record {
  pair = g.pair;
  among = (suc g.among.0, (let lt = g.among.1 in omega (arith, lt)), g.among.2);
  is = g.is;
}

min-is : (a b : ℕ) → (min a b ≡ a) ⊎ (min a b ≡ b)
min-is a b = by (cases_lt a b)
  where
    by : (a < b) ⊎ (b ≤ a) → (min a b ≡ a) ⊎ (min a b ≡ b)
    by (inl lt) = inl (omega (arith, lt))
    by (inr le) = inr (omega (arith, le))

least-found : (f : ℕ × ℕ → Option ℕ) (ps : List (ℕ × ℕ)) (a : ℕ) → least_of f ps ≡ Some a → Gives f ps a
least-found f [] a e = absurd (let n : None ≡ Some a = e in cc)
least-found f (q ∷ qs) a e = by (f q) refl (least_of f qs) refl e (least-found f qs)
  where
    here : f q ≡ Some a → Gives f (q ∷ qs) a
    here is = record { pair = q; among = (0, omega arith, refl); is = is }

    by : (o : Option ℕ) → f q ≡ o → (l : Option ℕ) → least_of f qs ≡ l → lesser o l ≡ Some a → ((b : ℕ) → least_of f qs ≡ Some b → Gives f qs b) → Gives f (q ∷ qs) a
    by None is l rest e h = gives-later f q qs a (h a (rest ∙ e))
    by (Some b) is None rest e h = here (is ∙ e)
    by (Some b) is (Some d) rest e h = either (min-is b d)
      where
        either : (min b d ≡ b) ⊎ (min b d ≡ d) → Gives f (q ∷ qs) a
        either (inl m) = here (is ∙ (ap Some (sym m) ∙ e))
        either (inr m) = gives-later f q qs a (h a (rest ∙ (ap Some (sym m) ∙ e)))

map-some : (k : ℕ) (o : Option ℕ) (a : ℕ) → option_map (λ n. k + n) o ≡ Some a → (b : ℕ) × (o ≡ Some b) × (k + b ≡ a)
map-some k None a e = absurd (let n : None ≡ Some a = e in cc)
map-some k (Some b) a e = (b, refl, (let s : Some (k + b) ≡ Some a = e in cc))

module _ (rows : ℕ → List (ℕ × ℕ)) where
  -- each walk costs at least the least sum of as many edges
  pub sum-complete : (u : ℕ) (steps : List (ℕ × ℕ)) (v : ℕ) → IsRoute rows u steps v → IsUpTo (least_sum rows (length steps) u v) (sum_of steps)
  sum-complete u [] v walks =
      let same : eqb u v ≡ true = grind (arith, nat_tests, walks) in
      record { value = 0; is = ap (λ (b : Bool). cond b (Some 0) None) same; within = omega arith }
  sum-complete u (p ∷ ps) v walks =
      let rest = sum-complete p.0 ps v walks.1 in
      let f : ℕ × ℕ → Option ℕ = λ q. option_map (λ sum. q.1 + sum) (least_sum rows (length ps) q.0 v) in
      let here : f p ≡ Some (p.1 + rest.value) = ap (option_map (λ sum. p.1 + sum)) rest.is in
      let up = least-among f (rows u) p walks.0.0 (p.1 + rest.value) walks.0.1 walks.0.2 here in
      record { value = up.value; is = up.is; within = (let a = up.within in let b = rest.within in let c = sum-cons p ps in omega (arith, a, b, c)) }

  -- and there is a walk of that sum
  pub sum-sound : (n u v a : ℕ) → least_sum rows n u v ≡ Some a → HasRoute rows u v (record { sum = a; hops = n })
  sum-sound zero u v a e = by (eqb u v) refl e
    where
      by : (b : Bool) → eqb u v ≡ b → cond b (Some 0) None ≡ Some a → HasRoute rows u v (record { sum = a; hops = 0 })
      by true is e = record { steps = []; walks = grind (arith, nat_tests, is); sum = (let s : Some 0 ≡ Some a = e in cc); hops = refl }
      by false is e = absurd (let s : None ≡ Some a = e in cc)
  sum-sound (suc n) u v a e =
      let f : ℕ × ℕ → Option ℕ = λ q. option_map (λ sum. q.1 + sum) (least_sum rows n q.0 v) in
      let g = least-found f (rows u) a e in
      let m = map-some g.pair.1 (least_sum rows n g.pair.0 v) a g.is in
      let r = sum-sound n g.pair.0 v m.0 m.1 in
      record {
        steps = g.pair ∷ r.steps;
        walks = (g.among, r.walks);
        sum = sum-cons g.pair r.steps ∙ (ap (λ k. g.pair.1 + k) r.sum ∙ m.2);
        hops = ap suc r.hops;
      }

  module _ (s v : ℕ) where
    -- the best of the walks of fewer than n edges
    pub record IsBest (n : ℕ) (c : Cost) : Type 0 where
      pub within : c.hops < n
      pub reached : least_sum rows c.hops s v ≡ Some c.sum
      pub sums : (j m : ℕ) → j < n → least_sum rows j s v ≡ Some m → c.sum ≤ m
      pub edges : (j m : ℕ) → j < n → least_sum rows j s v ≡ Some m → c.sum ≡ m → c.hops ≤ j

    abbrev pub AreNoneOrBest : ℕ → Option Cost → Type 0
    AreNoneOrBest n None = (j : ℕ) → j < n → least_sum rows j s v ≡ None
    AreNoneOrBest n (Some c) = IsBest n c

    -- of the walks of up to n edges
    with-next : (n : ℕ) (o : Option Cost) (l : Option ℕ) → AreNoneOrBest n o → least_sum rows n s v ≡ l → AreNoneOrBest (suc n) (cheaper o (option_map (λ sum. record { sum = sum; hops = n }) l))
    with-next n None None h is = λ j lt. by j lt (cases_eq j n)
      where
        by : (j : ℕ) → j < suc n → (j ≡ n) ⊎ (j ≢ n) → least_sum rows j s v ≡ None
        by j lt (inl e) = ap (λ k. least_sum rows k s v) e ∙ is
        by j lt (inr ne) = h j (omega (arith, lt, ne))
    with-next n None (Some a) h is = record {
      within = omega arith;
      reached = is;
      sums = λ j m lt e. (by j m lt e (cases_eq j n)).0;
      edges = λ j m lt e same. (by j m lt e (cases_eq j n)).1;
    }
      where
        by : (j m : ℕ) → j < suc n → least_sum rows j s v ≡ Some m → (j ≡ n) ⊎ (j ≢ n) → (a ≤ m) × (n ≤ j)
        by j m lt e (inl same) =
            let x : Some a ≡ Some m = sym is ∙ (ap (λ k. least_sum rows k s v) (sym same) ∙ e) in
            let y : a ≡ m = cc in
            (omega (arith, y), omega (arith, same))
        by j m lt e (inr ne) = absurd (let x : None ≡ Some m = sym (h j (omega (arith, lt, ne))) ∙ e in cc)
    with-next n (Some c) None h is = record {
      within = (let w = h.within in omega (arith, w));
      reached = h.reached;
      sums = λ j m lt e. h.sums j m (by j m lt e (cases_eq j n)) e;
      edges = λ j m lt e same. h.edges j m (by j m lt e (cases_eq j n)) e same;
    }
      where
        by : (j m : ℕ) → j < suc n → least_sum rows j s v ≡ Some m → (j ≡ n) ⊎ (j ≢ n) → j < n
        by j m lt e (inl same) = absurd (let x : None ≡ Some m = sym is ∙ (ap (λ k. least_sum rows k s v) (sym same) ∙ e) in cc)
        by j m lt e (inr ne) = omega (arith, lt, ne)
    with-next n (Some c) (Some a) h is = by (nat_lt a c.sum) refl
      where
        at-last : (j m : ℕ) → least_sum rows j s v ≡ Some m → j ≡ n → a ≡ m
        at-last j m e same = let x : Some a ≡ Some m = sym is ∙ (ap (λ k. least_sum rows k s v) (sym same) ∙ e) in cc

        by : (b : Bool) → nat_lt a c.sum ≡ b → AreNoneOrBest (suc n) (cond b (Some (record { sum = a; hops = n })) (Some c))
        by true t = record {
          within = omega arith;
          reached = is;
          sums = λ j m lt e. (each j m lt e (cases_eq j n)).0;
          edges = λ j m lt e same. (each j m lt e (cases_eq j n)).1 same;
        }
          where
            less : a < c.sum
            less = grind (arith, nat_tests, t)

            each : (j m : ℕ) → j < suc n → least_sum rows j s v ≡ Some m → (j ≡ n) ⊎ (j ≢ n) → (a ≤ m) × (a ≡ m → n ≤ j)
            each j m lt e (inl same) = (let y = at-last j m e same in omega (arith, y), λ z. omega (arith, same))
            each j m lt e (inr ne) = (let y = h.sums j m (omega (arith, lt, ne)) e in omega (arith, y, less), λ z. absurd (let y = h.sums j m (omega (arith, lt, ne)) e in omega (arith, y, less, z)))
        by false t = record {
          within = (let w = h.within in omega (arith, w));
          reached = h.reached;
          sums = λ j m lt e. (each j m lt e (cases_eq j n)).0;
          edges = λ j m lt e same. (each j m lt e (cases_eq j n)).1 same;
        }
          where
            more : c.sum ≤ a
            more = grind (arith, nat_tests, t)

            each : (j m : ℕ) → j < suc n → least_sum rows j s v ≡ Some m → (j ≡ n) ⊎ (j ≢ n) → (c.sum ≤ m) × (c.sum ≡ m → c.hops ≤ j)
            each j m lt e (inl same) = (let y = at-last j m e same in omega (arith, y, more), λ z. let w = h.within in omega (arith, w, same))
            each j m lt e (inr ne) = (h.sums j m (omega (arith, lt, ne)) e, λ z. h.edges j m (omega (arith, lt, ne)) e z)

    pub within-is : (n : ℕ) → AreNoneOrBest n (cost_within rows s v n)
    within-is zero = λ j lt. absurd (omega (arith, lt))
    within-is (suc n) = with-next n (cost_within rows s v n) (least_sum rows n s v) (within-is n) refl

  -- the distance, or that there is no walk
  abbrev pub IsDistanceOrNone : ℕ → ℕ → Option Cost → Type 0
  IsDistanceOrNone s v None = (c : Cost) → HasRoute rows s v c → ⊥
  IsDistanceOrNone s v (Some c) = IsDistance rows s v c

  module _ (count s : ℕ) (below : LeadsBelow rows count) (source : s < count) where
    -- a walk of fewer edges than vertices that costs no more
    pub record Few (v : ℕ) (c : Cost) : Type 0 where
      pub hops : ℕ
      pub few : hops < count
      pub up : IsUpTo (least_sum rows hops s v) c.sum
      pub edges : hops ≤ c.hops

    pub few-of : (v : ℕ) (c : Cost) → HasRoute rows s v c → Few v c
    few-of v c h =
        let short = short-of rows s h.steps v h.walks in
        let up = sum-complete s short.steps v short.walks in
        record {
          hops = length short.steps;
          few = short-few rows count s v (sum_of h.steps) (length h.steps) below source short;
          up = record { value = up.value; is = up.is; within = (let a = up.within in let b = short.sums in let e = h.sum in omega (arith, a, b, e)) };
          edges = (let a = short.edges in let e = h.hops in omega (arith, a, e));
        }

    distance-by : (v : ℕ) (o : Option Cost) → AreNoneOrBest s v count o → IsDistanceOrNone s v o
    distance-by v None h = λ c walk.
        let f = few-of v c walk in
        let no : None ≡ Some f.up.value = sym (h f.hops f.few) ∙ f.up.is in
        cc
    distance-by v (Some c) h = record {
      reached = sum-sound c.hops s v c.sum h.reached;
      least = λ d walk. record {
        sums = (let f = few-of v d walk in let a = h.sums f.hops f.up.value f.few f.up.is in let b = f.up.within in omega (arith, a, b));
        edges = λ e.
            let f = few-of v d walk in
            let a = h.sums f.hops f.up.value f.few f.up.is in
            let b = f.up.within in
            let same : c.sum ≡ f.up.value = omega (arith, a, b, e) in
            let x = h.edges f.hops f.up.value f.few f.up.is same in
            let y = f.edges in
            omega (arith, x, y);
      };
    }

    pub distance-is : (v : ℕ) → IsDistanceOrNone s v (cost_within rows s v count)
    distance-is v = distance-by v (cost_within rows s v count) (within-is s v count)

    -- what is a distance is the one that is computed
    pub one-distance : (v : ℕ) (a b : Cost) → IsDistance rows s v a → IsDistance rows s v b → a ≡ b
    one-distance v a b h k = no_more-both a b (h.least b k.reached) (k.least a h.reached)

    pub distance-some : (v : ℕ) (c : Cost) → IsDistance rows s v c → cost_within rows s v count ≡ Some c
    distance-some v c h = by (cost_within rows s v count) (distance-is v)
      where
        by : (o : Option Cost) → IsDistanceOrNone s v o → o ≡ Some c
        by None k = absurd (k c h.reached)
        by (Some d) k = ap Some (one-distance v d c k h)

    comes-refl : (a : Cost) (w : ℕ) → comes_to (Some a) w (Some (further a w)) ≡ true
    comes-refl a w =
        let x : eqb (a.sum + w) (a.sum + w) ≡ true = grind (arith, nat_tests) in
        let y : eqb (a.hops + 1) (a.hops + 1) ≡ true = grind (arith, nat_tests) in
        and-both (eqb (a.sum + w) (a.sum + w)) (eqb (a.hops + 1) (a.hops + 1)) x y

    comes-is : (o : Option Cost) (w : ℕ) (b : Cost) → comes_to o w (Some b) ≡ true → (a : Cost) × (o ≡ Some a) × (further a w ≡ b)
    comes-is None w b e = absurd (true≢false (sym e))
    comes-is (Some a) w b e =
        let x = and-left (eqb b.sum (a.sum + w)) (eqb b.hops (a.hops + 1)) e in
        let y = and-right (eqb b.sum (a.sum + w)) (eqb b.hops (a.hops + 1)) e in
        let sums : a.sum + w ≡ b.sum = grind (arith, nat_tests, x) in
        let edges : a.hops + 1 ≡ b.hops = grind (arith, nat_tests, y) in
        (a, refl, cost-eq (further a w) b sums edges)

    any-among : {X : Type 0} (p : X → Bool) (xs : List X) (x : X) (k : ℕ) → k < length xs → get_or xs k x ≡ x → p x ≡ true → list_any p xs ≡ true
    any-among p [] x k lt is e = absurd (omega (arith, lt))
    any-among p (y ∷ ys) x zero lt is e = ap (λ b. b || list_any p ys) (ap p is ∙ e)
    any-among p (y ∷ ys) x (suc k) lt is e = or-right (p y) (list_any p ys) (any-among p ys x k (omega (arith, lt)) is e)

    -- a vertex that leads to v so passes the test
    pub leads-true : (v : ℕ) (c : Cost) (u : ℕ) → IsDistance rows s v c → LeadsTo rows s v c u → leads_to rows count s v u ≡ true
    leads-true v c u h l =
        let here = distance-some u l.cost l.distance in
        let there = distance-some v c h in
        let self : eqb v v ≡ true = grind (arith, nat_tests) in
        let comes : comes_to (cost_within rows s u count) l.weight (cost_within rows s v count) ≡ true =
        (λ i. comes_to (here i) l.weight (there i)) ∙ (ap (λ (x : Cost). comes_to (Some l.cost) l.weight (Some x)) (sym l.comes) ∙ comes-refl l.cost l.weight) in
        any-among (λ (p : ℕ × ℕ). (p.0 == v) && comes_to (cost_within rows s u count) p.1 (cost_within rows s v count)) (rows u) (v, l.weight) l.edge.0 l.edge.1 l.edge.2
        (and-both (eqb v v) (comes_to (cost_within rows s u count) l.weight (cost_within rows s v count)) self comes)

    -- and one that passes leads to it so
    pub leads-sound : (v : ℕ) (c : Cost) (u : ℕ) → IsDistance rows s v c → leads_to rows count s v u ≡ true → LeadsTo rows s v c u
    leads-sound v c u h e =
        let there = distance-some v c h in
        let f = any-found (λ (p : ℕ × ℕ). (p.0 == v) && comes_to (cost_within rows s u count) p.1 (cost_within rows s v count)) (rows u) e in
        let to = and-left (eqb f.one.0 v) (comes_to (cost_within rows s u count) f.one.1 (cost_within rows s v count)) f.passes in
        let comes = and-right (eqb f.one.0 v) (comes_to (cost_within rows s u count) f.one.1 (cost_within rows s v count)) f.passes in
        let m = comes-is (cost_within rows s u count) f.one.1 c (ap (λ o. comes_to (cost_within rows s u count) f.one.1 o) (sym there) ∙ comes) in
        let target : f.one.0 ≡ v = grind (arith, nat_tests, to) in
        record {
          cost = m.0;
          distance = subst (IsDistanceOrNone s u) m.1 (distance-is u);
          weight = f.one.1;
          edge = subst (λ x. Contains (rows u) (x, f.one.1)) target (f.index, f.within, f.is f.one);
          comes = m.2;
        }

    -- where v is not the source, some vertex leads to it so
    pub some-leads : (v : ℕ) (c : Cost) → v ≢ s → IsDistance rows s v c → (u : ℕ) × (u < count) × LeadsTo rows s v c u
    some-leads v c ne h = by h.reached.steps h.reached.walks h.reached.sum h.reached.hops
      where
        by : (steps : List (ℕ × ℕ)) → IsRoute rows s steps v → sum_of steps ≡ c.sum → length steps ≡ c.hops → (u : ℕ) × (u < count) × LeadsTo rows s v c u
        by [] walks sum hops = absurd (ne (sym walks))
        by (p ∷ ps) walks sum hops = found (last-step rows s p ps v walks)
          where
            found : LastStep rows s v (sum_of (p ∷ ps)) (length (p ∷ ps)) → (u : ℕ) × (u < count) × LeadsTo rows s v c u
            found l = with-cost (cost_within rows s l.before count) (distance-is l.before)
              where
                with-cost : (o : Option Cost) → IsDistanceOrNone s l.before o → (u : ℕ) × (u < count) × LeadsTo rows s v c u
                with-cost None none = absurd (none l.cost l.reached)
                with-cost (Some b) d =
                    let all : further l.cost l.weight ≡ c = cost-eq (further l.cost l.weight) c (sym l.sums ∙ sum) (sym l.edges ∙ hops) in
                    let low : IsNoMore (further b l.weight) c = subst (IsNoMore (further b l.weight)) all (further-no_more b l.cost l.weight (d.least l.cost l.reached)) in
                    let high : IsNoMore c (further b l.weight) = h.least (further b l.weight) (has-further rows s l.before v l.weight b d.reached l.edge) in (
                      l.before,
                      route-below rows count s l.reached.steps l.before below source l.reached.walks,
                      record {
                        cost = b;
                        distance = d;
                        weight = l.weight;
                        edge = l.edge;
                        comes = no_more-both (further b l.weight) c low high;
                      },
                    )

    parent-of : (v : ℕ) (c : Cost) → IsDistance rows s v c → IsParent rows s v c (parent rows count s v)
    parent-of v c h = by (eqb v s) refl
      where
        least-by : (o : Option ℕ) → v ≢ s → IsFirst (leads_to rows count s v) 0 count o → (LeadsTo rows s v c (unwrap_or o s)) × ((u : ℕ) → LeadsTo rows s v c u → unwrap_or o s ≤ u)
        least-by None ne f =
            let some = some-leads v c ne h in
            absurd (true≢false (sym (leads-true v c some.0 h some.2) ∙ f some.0 (omega arith) (let lt = some.1 in omega (arith, lt))))
        least-by (Some p) ne f = (leads-sound v c p h f.passes, λ u l. each u l (cases_lt u p))
          where
            each : (u : ℕ) → LeadsTo rows s v c u → (u < p) ⊎ (p ≤ u) → p ≤ u
            each u l (inl lt) = absurd (true≢false (sym (leads-true v c u h l) ∙ f.first u (omega arith) lt))
            each u l (inr le) = le

        by : (b : Bool) → eqb v s ≡ b → IsParent rows s v c (cond b s (unwrap_or (first_from (leads_to rows count s v) 0 count) s))
        by true e =
            let same : v ≡ s = grind (arith, nat_tests, e) in
            record { source = λ x. refl; leads = λ ne. absurd (ne same); least = λ ne. absurd (ne same) }
        by false e =
            let other : v ≢ s = λ x. let t : eqb v s ≡ true = grind (arith, nat_tests, x) in true≢false (sym t ∙ e) in
            let first = least-by (first_from (leads_to rows count s v) 0 count) other (first-is (leads_to rows count s v) 0 count) in
            record { source = λ x. absurd (other x); leads = λ ne. first.0; least = λ ne. first.1 }

    reach-by : (v : ℕ) (o : Option Cost) → IsDistanceOrNone s v o → IsReach rows s v (option_map (λ (c : Cost). record { sum = c.sum; hops = c.hops; parent = parent rows count s v }) o)
    reach-by v None h = h
    reach-by v (Some c) h = (h, parent-of v c h)

    pub reach-is : (v : ℕ) → IsReach rows s v (reach_of rows count s v)
    reach-is v = reach-by v (cost_within rows s v count) (distance-is v)

    -- a vertex is reached in one way
    pub one-reach : (v : ℕ) (a b : Option Reach) → IsReach rows s v a → IsReach rows s v b → a ≡ b
    one-reach v None None h k = refl
    one-reach v None (Some b) h k = absurd (h (cost_of b) k.0.reached)
    one-reach v (Some a) None h k = absurd (k (cost_of a) h.0.reached)
    one-reach v (Some a) (Some b) h k =
        let cost = one-distance v (cost_of a) (cost_of b) h.0 k.0 in
        let sums : a.sum ≡ b.sum = ap (λ (x : Cost). x.sum) cost in
        let hops : a.hops ≡ b.hops = ap (λ (x : Cost). x.hops) cost in
        let parents : a.parent ≡ b.parent = by-source cost (cases_eq v s) in
        λ i. Some (record { sum = sums i; hops = hops i; parent = parents i })
      where
        by-source : cost_of a ≡ cost_of b → (v ≡ s) ⊎ (v ≢ s) → a.parent ≡ b.parent
        by-source cost (inl e) = h.1.source e ∙ sym (k.1.source e)
        by-source cost (inr ne) =
            let x = h.1.least ne b.parent (subst (λ (c : Cost). LeadsTo rows s v c b.parent) (sym cost) (k.1.leads ne)) in
            let y = k.1.least ne a.parent (subst (λ (c : Cost). LeadsTo rows s v c a.parent) cost (h.1.leads ne)) in
            omega (arith, x, y)

-- the targets of a graph's edges are below its count
pub row-leads : (g : Graph) → IsGraph g → LeadsBelow (row g) g.count
row-leads g graph u p among = (graph-ends g graph u p.0 (leads-graph g u p.0 ∙ among-first (row g u) p among.0 among.1 among.2)).1
  where
    among-first : (ps : List (ℕ × ℕ)) (p : ℕ × ℕ) (k : ℕ) → k < length ps → get_or ps k p ≡ p → is_among p.0 (map (λ (q : ℕ × ℕ). q.0) ps) ≡ true
    among-first [] p k lt is = absurd (omega (arith, lt))
    among-first (q ∷ qs) p zero lt is =
        let same : q.0 ≡ p.0 = ap (λ (x : ℕ × ℕ). x.0) is in
        let t : eqb q.0 p.0 ≡ true = grind (arith, nat_tests, same) in
        ap (λ b. b || is_among p.0 (map (λ (x : ℕ × ℕ). x.0) qs)) t
    among-first (q ∷ qs) p (suc k) lt is = or-right (eqb q.0 p.0) (is_among p.0 (map (λ (x : ℕ × ℕ). x.0) qs)) (among-first qs p k (omega (arith, lt)) is)

pub distances_are : (g : Graph) (s : ℕ) → IsGraph g → s < g.count → AreReached g s (distances g s)
unfolding distances
distances_are g s graph source = record {
  len = length-map (range_with_len 0 g.count) (reach_of (row g) g.count s) ∙ length-range_with_len 0 g.count;
  each = λ v lt. subst (IsReach (row g) s v) (sym (get_or-map-range_with_len (reach_of (row g) g.count s) 0 g.count v v None lt (let e : 0 + v ≡ v = omega arith in e)))
      (reach-is (row g) g.count s (row-leads g graph) source v);
}

-- and there is no other answer
pub distances_only : (g : Graph) (s : ℕ) (reach : List (Option Reach)) → IsGraph g → s < g.count → AreReached g s reach → reach ≡ distances g s
distances_only g s reach graph source h =
    let d = distances_are g s graph source in
    ext_get_or None reach (distances g s) (h.len ∙ sym d.len) (λ v lt.
    let below : v < g.count = (let many = h.len in omega (arith, lt, many)) in
    one-reach (row g) g.count s (row-leads g graph) source v (reach_at reach v) (reach_at (distances g s) v) (h.each v below) (d.each v below))

-- graphs with the same rows have the same distances
pub distances_same : (g h : Graph) (s : ℕ) → AreSame g h → distances g s ≡ distances h s
unfolding distances
distances_same g h s same = λ i. reach_by (λ v. same.rows v i) (same.count i) s
