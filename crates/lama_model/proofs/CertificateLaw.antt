-- An answer that meets the certificate has the distances.
use Rattle.std.proofs.Common.{◌≡◌, ◌≢◌, ◌∙◌, ℕ, zero, suc, ◌+◌, ◌<◌, ◌≤◌, ◌⊎◌, inl, inr, List, [], ◌∷◌, length, Option, None, Some, refl, sym, ap, subst, arith}
use Rattle.std.specs.Prelude.{Contains}
use Rattle.std.proofs.lemmas.Bool.{cases_eq}
use Rattle.lama_model.specs.declared.reach.Reach.{Reach}
use Rattle.lama_model.specs.Distances.{IsRoute, LeadsBelow, Cost, IsNoMore, HasRoute, IsDistance, IsParent, IsReach, CostsNoMore, IsCertified, further, cost_of, reach_at, distances}
use Rattle.lama_model.specs.Graph.{Graph, IsGraph}
use Rattle.lama_model.specs.Row.{row}
use Rattle.lama_model.proofs.DistanceLaw.{row-leads, distances_only}
use Rattle.lama_model.proofs.RouteLemmas.{sum_of, sum-cons, cost-eq, no_more-both, no_more-through, has-further}

pub some-one : {X : Type 0} (a b : X) → Some a ≡ Some b → a ≡ b
some-one a b e = cc

-- only what is in the list is reached
pub at-within : (reach : List (Option Reach)) (v : ℕ) (r : Reach) → reach_at reach v ≡ Some r → v < length reach
at-within [] v r is = absurd (let e : None ≡ Some r = is in cc)
at-within (x ∷ xs) zero r is = omega arith
at-within (x ∷ xs) (suc v) r is = let lt = at-within xs v r is in omega (arith, lt)

module _ (rows : ℕ → List (ℕ × ℕ)) (count s : ℕ) (reach : List (Option Reach)) (below : LeadsBelow rows count) (source : s < count) (h : IsCertified rows count s reach) where
  -- a cost with the walk's steps more
  abbrev with-steps : Cost → List (ℕ × ℕ) → Cost
  with-steps a steps = record { sum = a.sum + sum_of steps; hops = a.hops + length steps }

  -- a walk on from a vertex that is reached makes none cheaper
  along : (u : ℕ) (q : Reach) (steps : List (ℕ × ℕ)) (v : ℕ) → u < count → reach_at reach u ≡ Some q → IsRoute rows u steps v → CostsNoMore reach v (with-steps (cost_of q) steps)
  along u q [] v lt is walks = record {
    now = q;
    reached = subst (λ x. reach_at reach x ≡ Some q) walks is;
    within = record { sums = omega arith; edges = λ e. omega arith };
  }
  along u q (p ∷ ps) v lt is walks =
      let step = h.edges u p.0 p.1 q lt is walks.0 in
      let rest = along p.0 step.now ps v (below u p walks.0) step.reached walks.1 in
      record {
        now = rest.now;
        reached = rest.reached;
        within = no_more-through (cost_of rest.now) (with-steps (cost_of step.now) ps) (with-steps (cost_of q) (p ∷ ps)) rest.within (later step.now step.within);
      }
    where
      later : (r : Reach) → IsNoMore (cost_of r) (further (cost_of q) p.1) → IsNoMore (with-steps (cost_of r) ps) (with-steps (cost_of q) (p ∷ ps))
      later r le = record {
        sums = (let a = le.sums in let more = sum-cons p ps in omega (arith, a, more));
        edges = λ e.
            let a = le.sums in
            let more = sum-cons p ps in
            let same : r.sum ≡ q.sum + p.1 = omega (arith, e, more) in
            let b = le.edges same in
            omega (arith, b);
      }

  -- so each walk from the source costs at least what is said
  pub at-most : (v : ℕ) (c : Cost) → HasRoute rows s v c → CostsNoMore reach v c
  at-most v c walk =
      let a = along s (record { sum = 0; hops = 0; parent = s }) walk.steps v source h.source walk.walks in
      let x : 0 + sum_of walk.steps ≡ c.sum = (let e = walk.sum in omega (arith, e)) in
      let y : 0 + length walk.steps ≡ c.hops = (let e = walk.hops in omega (arith, e)) in
      subst (CostsNoMore reach v) (cost-eq (with-steps (record { sum = 0; hops = 0 }) walk.steps) c x y) a

  -- the source's own walk has no step
  walk-source : (v : ℕ) (r : Reach) → reach_at reach v ≡ Some r → v ≡ s → HasRoute rows s v (cost_of r)
  walk-source v r is e =
      let same = some-one r (record { sum = 0; hops = 0; parent = s }) (sym is ∙ (ap (reach_at reach) e ∙ h.source)) in
      subst (λ (x : Reach). HasRoute rows s v (cost_of x)) (sym same) (record { steps = []; walks = sym e; sum = refl; hops = refl })

  -- and by its parents each vertex that is reached has a walk that costs so much
  pub walk-of : (n v : ℕ) (r : Reach) → v < count → reach_at reach v ≡ Some r → r.hops ≡ n → HasRoute rows s v (cost_of r)
  walk-of zero v r lt is many = by (cases_eq v s)
    where
      by : (v ≡ s) ⊎ (v ≢ s) → HasRoute rows s v (cost_of r)
      by (inl e) = walk-source v r is e
      by (inr ne) =
          let p = h.parents v r lt ne is in
          let e : p.before.hops + 1 ≡ r.hops = ap (λ (c : Cost). c.hops) p.comes in
          absurd (omega (arith, e, many))
  walk-of (suc n) v r lt is many = by (cases_eq v s) (λ u q. walk-of n u q)
    where
      by : (v ≡ s) ⊎ (v ≢ s) → ((u : ℕ) (q : Reach) → u < count → reach_at reach u ≡ Some q → q.hops ≡ n → HasRoute rows s u (cost_of q)) → HasRoute rows s v (cost_of r)
      by (inl e) rest = walk-source v r is e
      by (inr ne) rest =
          let p = h.parents v r lt ne is in
          let e : p.before.hops + 1 ≡ r.hops = ap (λ (c : Cost). c.hops) p.comes in
          let within : r.parent < count = subst (λ n. r.parent < n) h.len (at-within reach r.parent p.before p.reached) in
          let walk = rest r.parent p.before within p.reached (omega (arith, e, many)) in
          subst (HasRoute rows s v) p.comes (has-further rows s r.parent v p.weight (cost_of p.before) walk p.edge)

  pub distance-told : (v : ℕ) (r : Reach) → v < count → reach_at reach v ≡ Some r → IsDistance rows s v (cost_of r)
  distance-told v r lt is = record {
    reached = walk-of r.hops v r lt is refl;
    least = λ d walk.
        let a = at-most v d walk in
        let same = some-one a.now r (sym a.reached ∙ is) in
        subst (λ (x : Reach). IsNoMore (cost_of x) d) same a.within;
  }

  pub untold : (v : ℕ) (c : Cost) → reach_at reach v ≡ None → HasRoute rows s v c → ⊥
  untold v c none walk =
      let a = at-most v c walk in
      let e : None ≡ Some a.now = sym none ∙ a.reached in
      cc

  -- no vertex of a lesser number than the parent leads to v so
  abbrev pub HasLeastParents : Type 0
  HasLeastParents = (v u w : ℕ) (r q : Reach) → v ≢ s → reach_at reach v ≡ Some r → reach_at reach u ≡ Some q → Contains (rows u) (v, w) → further (cost_of q) w ≡ cost_of r → r.parent ≤ u

  parent-told : (v : ℕ) (r : Reach) → HasLeastParents → v < count → reach_at reach v ≡ Some r → IsParent rows s v (cost_of r) r.parent
  parent-told v r least lt is = record {
    source = λ e. ap (λ (x : Reach). x.parent) (some-one r (record { sum = 0; hops = 0; parent = s }) (sym is ∙ (ap (reach_at reach) e ∙ h.source)));
    leads = λ ne.
        let p = h.parents v r lt ne is in
        let within : r.parent < count = subst (λ n. r.parent < n) h.len (at-within reach r.parent p.before p.reached) in
        record { cost = cost_of p.before; distance = distance-told r.parent p.before within p.reached; weight = p.weight; edge = p.edge; comes = p.comes };
    least = λ ne u l.
        let a = at-most u l.cost l.distance.reached in
        let within : u < count = subst (λ n. u < n) h.len (at-within reach u a.now a.reached) in
        let d = distance-told u a.now within a.reached in
        let same : cost_of a.now ≡ l.cost = no_more-both (cost_of a.now) l.cost a.within (l.distance.least (cost_of a.now) d.reached) in
        least v u l.weight r a.now ne is a.reached l.edge (ap (λ (c : Cost). further c l.weight) same ∙ l.comes);
  }

  pub reach-told : (v : ℕ) → HasLeastParents → v < count → IsReach rows s v (reach_at reach v)
  reach-told v least lt = by (reach_at reach v) refl
    where
      by : (o : Option Reach) → reach_at reach v ≡ o → IsReach rows s v o
      by None is = λ c walk. untold v c is walk
      by (Some r) is = (distance-told v r lt is, parent-told v r least lt is)

-- so an answer that meets the certificate with least parents is the one that is computed
pub certified-is : (g : Graph) (s : ℕ) (reach : List (Option Reach)) → (graph : IsGraph g) → (source : s < g.count) → (h : IsCertified (row g) g.count s reach) → HasLeastParents (row g) g.count s reach (row-leads g graph) source h → reach ≡ distances g s
certified-is g s reach graph source h least =
    distances_only g s reach graph source (record {
      len = h.len;
      each = λ v lt. reach-told (row g) g.count s reach (row-leads g graph) source h v least lt;
    })
