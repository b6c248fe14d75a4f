-- What each step of the search keeps.
use Rattle.std.proofs.Common.{◌≡◌, ◌≢◌, ◌∙◌, ℕ, zero, suc, ◌+◌, ◌*◌, ◌<◌, ◌≤◌, ◌⊎◌, inl, inr, List, [], ◌∷◌, length, get_or, Bool, true, false, Option, None, Some, refl, sym, ap, subst, arith}
use Rattle.std.specs.Prelude.{slice_set, Contains}
use Rattle.std.specs.List.Sorted.{IsPermutation}
use Rattle.std.proofs.lemmas.Bool.{cases_eq}
use Rattle.std.proofs.lemmas.List.{get_or-set_same, get_or-set_other, length-set}
use Rattle.std.proofs.lemmas.List.Sorted.{Contains-permutation, IsPermutation-sym}
use Rattle.lama_model.specs.declared.reach.Reach.{Reach}
use Rattle.lama_model.specs.Row.{row_at}
use Rattle.lama_model.specs.Distances.{Cost, IsNoMore, HasParent, further, cost_of, reach_at}
use Rattle.lama_model.proofs.RouteLemmas.{no_more-both, no_more-through}
use Rattle.lama_model.proofs.CertificateLaw.{some-one}
use Rattle.lama_paths.specs.Search.{Bid, is_settled, settled_count, price, offer, IsRelaxed, IsKnown, left_of, IsAt}

pub no_more-refl : (a : Cost) → IsNoMore a a
no_more-refl a = record { sums = omega arith; edges = λ e. omega arith }

pub no_more-further : (a : Cost) (w : ℕ) → IsNoMore a (further a w)
no_more-further a w = record { sums = omega arith; edges = λ e. omega arith }

-- an edge more costs more
pub not-further : (a : Cost) (w : ℕ) → IsNoMore (further a w) a → ⊥
not-further a w h =
    let x = h.sums in
    let e : a.sum + w ≡ a.sum = omega (arith, x) in
    let y = h.edges e in
    omega (arith, y)

pub no_more-same : (a b : Cost) → a ≡ b → IsNoMore a b
no_more-same a b e = subst (IsNoMore a) e (no_more-refl a)

pub contains-head : {X : Type 0} (x : X) (xs : List X) → Contains (x ∷ xs) x
contains-head x xs = (0, omega arith, refl)

pub contains-later : {X : Type 0} (y x : X) (xs : List X) → Contains xs x → Contains (y ∷ xs) x
contains-later y x xs h = (suc h.0, (let lt = h.1 in omega (arith, lt)), h.2)

pub contains-cases : {X : Type 0} (y x : X) (xs : List X) → Contains (y ∷ xs) x → (y ≡ x) ⊎ Contains xs x
contains-cases y x xs h = by h.0 h.1 h.2
  where
    by : (k : ℕ) → k < length (y ∷ xs) → get_or (y ∷ xs) k x ≡ x → (y ≡ x) ⊎ Contains xs x
    by zero lt e = inl e
    by (suc k) lt e = inr (k, omega (arith, lt), e)

pub contains-none : {X : Type 0} (x : X) → Contains [] x → ⊥
contains-none x h = let lt = h.1 in omega (arith, lt)

-- an entry that was written, and another
pub reach-set : (reach : List (Option Reach)) (v : ℕ) (o : Option Reach) → v < length reach → reach_at (slice_set reach v o) v ≡ o
reach-set reach v o lt = get_or-set_same reach v o None lt

pub reach-other : (reach : List (Option Reach)) (v y : ℕ) (o : Option Reach) → y ≢ v → reach_at (slice_set reach v o) y ≡ reach_at reach y
reach-other reach v y o ne = get_or-set_other reach v y o None ne

module _ (rows : List (List (ℕ × ℕ))) (s u : ℕ) (from : Reach) (v w : ℕ) (edges : List (ℕ × ℕ)) (reach : List (Option Reach)) (settled : List Bool) (offers : List Bid) (h : IsAt rows s u from ((v, w) ∷ edges) reach settled offers) where
  abbrev b : Cost
  b = cost_of from

  own-later : (p : ℕ × ℕ) → Contains edges p → Contains (row_at rows u) p
  own-later p among = h.own p (contains-later (v, w) p edges among)

  -- the edge makes its target no cheaper
  pub kept : (known : Reach) → reach_at reach v ≡ Some known → IsNoMore (cost_of known) (further b w) → (further b w ≡ cost_of known → known.parent ≤ u) → IsAt rows s u from edges reach settled offers
  kept known is within least = record {
    search = record {
      len = h.search.len;
      size = h.search.size;
      source = h.search.source;
      short = h.search.short;
      shorter = h.search.shorter;
      sums = h.search.sums;
      reached = h.search.reached;
      low = h.search.low;
      high = h.search.high;
      waits = h.search.waits;
      known = h.search.known;
      parents = h.search.parents;
      relaxed = λ x y z q done at among. by x y z q at (h.search.relaxed x y z q done at among);
    };
    reached = h.reached;
    done = h.done;
    own = own-later;
  }
    where
      by : (x y z : ℕ) (q : Reach) → reach_at reach x ≡ Some q → IsRelaxed reach y q x z ⊎ left_of u ((v, w) ∷ edges) x (y, z) → IsRelaxed reach y q x z ⊎ left_of u edges x (y, z)
      by x y z q at (inl r) = inl r
      by x y z q at (inr l) = last (contains-cases (v, w) (y, z) edges l.1)
        where
          last : (◌≡◌ {A = ℕ × ℕ} (v, w) (y, z)) ⊎ Contains edges (y, z) → IsRelaxed reach y q x z ⊎ left_of u edges x (y, z)
          last (inr later) = inr (l.0, later)
          last (inl e) =
              let target : v ≡ y = ap (λ (p : ℕ × ℕ). p.0) e in
              let weight : w ≡ z = ap (λ (p : ℕ × ℕ). p.1) e in
              let same : from ≡ q = some-one from q (sym h.reached ∙ (ap (reach_at reach) (sym l.0) ∙ at)) in
              let costs : further b w ≡ further (cost_of q) z = λ i. further (cost_of (same i)) (weight i) in
              inl (record {
                now = known;
                reached = subst (λ n. reach_at reach n ≡ Some known) target is;
                within = subst (IsNoMore (cost_of known)) costs within;
                least = λ c. let le = least (costs ∙ c) in let x = l.0 in omega (arith, le, x);
              })

  -- the edge makes its target cheaper, or gives it a lesser parent at the same cost
  module _ (found : Reach) (inside : v < length reach) (narrow : w ≤ 18446744073709551615) (cost : cost_of found ≡ further b w) (own-parent : found.parent ≡ u)
      (better : (r : Reach) → reach_at reach v ≡ Some r → IsNoMore (cost_of found) (cost_of r) × (cost_of found ≡ cost_of r → u ≤ r.parent)) where
    abbrev reach' : List (Option Reach)
    reach' = slice_set reach v (Some found)

    here : reach_at reach' v ≡ Some found
    here = reach-set reach v (Some found) inside

    -- so it was not settled
    pub unsettled : is_settled settled v ≡ true → ⊥
    unsettled done =
        let r = h.search.reached v done in
        let low = h.search.low v r.now done r.is in
        not-further b w (subst (λ (c : Cost). IsNoMore c b) cost (no_more-through (cost_of found) (cost_of r.now) b (better r.now r.is).0 low))

    other : (y : ℕ) → is_settled settled y ≡ true → y ≢ v
    other y done e = unsettled (subst (λ n. is_settled settled n ≡ true) e done)

    not-source : v ≢ s
    not-source e =
        let least = (better (record { sum = 0; hops = 0; parent = s }) (ap (reach_at reach) e ∙ h.search.source)).0 in
        let x = least.sums in
        let y : found.sum ≡ 0 = omega (arith, x) in
        let z = least.edges y in
        let hops : found.hops ≡ from.hops + 1 = ap (λ (c : Cost). c.hops) cost in
        omega (arith, z, hops)

    same-at : (y : ℕ) → y ≢ v → reach_at reach' y ≡ reach_at reach y
    same-at y ne = reach-other reach v y (Some found) ne

    -- what is said of a vertex now
    new-at : (P : ℕ → Reach → Type 0) → ((y : ℕ) → y ≡ v → P y found) → ((y : ℕ) (r : Reach) → y ≢ v → reach_at reach y ≡ Some r → P y r) → (y : ℕ) (r : Reach) → reach_at reach' y ≡ Some r → P y r
    new-at P one rest y r is = by (cases_eq y v)
      where
        by : (y ≡ v) ⊎ (y ≢ v) → P y r
        by (inl e) =
            let same : found ≡ r = some-one found r (sym here ∙ (ap (reach_at reach') (sym e) ∙ is)) in
            subst (P y) same (one y e)
        by (inr ne) = rest y r ne (sym (same-at y ne) ∙ is)

    module _ (offers' : List Bid) (more : (o : Bid) → Contains offers o → Contains offers' o) (only : (o : Bid) → Contains offers' o → Contains offers o ⊎ (o ≡ offer (cost_of found) v)) (has : Contains offers' (offer (cost_of found) v)) where
      short' : (y : ℕ) (r : Reach) → reach_at reach' y ≡ Some r → r.hops ≤ settled_count settled
      short' = new-at (λ y r. r.hops ≤ settled_count settled)
          (λ y e. let few = h.search.shorter u from h.done h.reached in let hops : found.hops ≡ from.hops + 1 = ap (λ (c : Cost). c.hops) cost in omega (arith, few, hops))
          (λ y r ne is. h.search.short y r is)

      sums' : (y : ℕ) (r : Reach) → reach_at reach' y ≡ Some r → r.sum ≤ r.hops * 18446744073709551615
      sums' = new-at (λ y r. r.sum ≤ r.hops * 18446744073709551615)
          (λ y e.
          let few = h.search.sums u from h.reached in
          let hops : found.hops ≡ from.hops + 1 = ap (λ (c : Cost). c.hops) cost in
          let sum : found.sum ≡ from.sum + w = ap (λ (c : Cost). c.sum) cost in
          omega (arith, few, hops, sum, narrow))
          (λ y r ne is. h.search.sums y r is)

      high' : (o : Bid) → Contains offers' o → IsNoMore b (price o)
      high' o among = by (only o among)
        where
          by : Contains offers o ⊎ (o ≡ offer (cost_of found) v) → IsNoMore b (price o)
          by (inl old) = h.search.high o old
          by (inr e) = subst (λ x. IsNoMore b (price x)) (sym e) (subst (IsNoMore b) (sym cost) (no_more-further b w))

      waits' : (y : ℕ) (r : Reach) → is_settled settled y ≡ false → reach_at reach' y ≡ Some r → Contains offers' (offer (cost_of r) y)
      waits' y r not is = new-at (λ y r. is_settled settled y ≡ false → Contains offers' (offer (cost_of r) y))
          (λ y e not. subst (λ n. Contains offers' (offer (cost_of found) n)) (sym e) has)
          (λ y r ne is not. more (offer (cost_of r) y) (h.search.waits y r not is)) y r is not

      known' : (o : Bid) → Contains offers' o → IsKnown (length rows) reach' o
      known' o among = by (only o among)
        where
          old : IsKnown (length rows) reach o → (o.vertex ≡ v) ⊎ (o.vertex ≢ v) → IsKnown (length rows) reach' o
          old k (inl e) = record {
            inside = k.inside;
            now = found;
            reached = ap (reach_at reach') e ∙ here;
            within = no_more-through (cost_of found) (cost_of k.now) (price o) (better k.now (ap (reach_at reach) (sym e) ∙ k.reached)).0 k.within;
          }
          old k (inr ne) = record { inside = k.inside; now = k.now; reached = same-at o.vertex ne ∙ k.reached; within = k.within }

          by : Contains offers o ⊎ (o ≡ offer (cost_of found) v) → IsKnown (length rows) reach' o
          by (inl there) = old (h.search.known o there) (cases_eq o.vertex v)
          by (inr e) = subst (IsKnown (length rows) reach') (sym e) (record {
            inside = (let len = h.search.len in omega (arith, inside, len));
            now = found;
            reached = here;
            within = no_more-refl (cost_of found);
          })

      parents' : (y : ℕ) (r : Reach) → y ≢ s → reach_at reach' y ≡ Some r → HasParent (row_at rows) reach' y r × (is_settled settled r.parent ≡ true)
      parents' y r ne is = new-at (λ y r. y ≢ s → HasParent (row_at rows) reach' y r × (is_settled settled r.parent ≡ true))
          (λ y e apart. (
            record {
              before = from;
              reached = ap (reach_at reach') own-parent ∙ (same-at u (other u h.done) ∙ h.reached);
              weight = w;
              edge = subst (λ n. Contains (row_at rows found.parent) (n, w)) (sym e) (subst (λ n. Contains (row_at rows n) (v, w)) (sym own-parent) (h.own (v, w) (contains-head (v, w) edges)));
              comes = sym cost;
            },
            ap (is_settled settled) own-parent ∙ h.done,
          ))
          (λ y r apart is ne.
          let old = h.search.parents y r ne is in
          (record { before = old.0.before; reached = same-at r.parent (other r.parent old.1) ∙ old.0.reached; weight = old.0.weight; edge = old.0.edge; comes = old.0.comes }, old.1))
          y r is ne

      -- an edge that was relaxed is so still
      still : (x y z : ℕ) (q : Reach) → IsRelaxed reach y q x z → (y ≡ v) ⊎ (y ≢ v) → IsRelaxed reach' y q x z
      still x y z q r (inl e) =
          let was = ap (reach_at reach) (sym e) ∙ r.reached in
          let less = (better r.now was).0 in
          record {
            now = found;
            reached = ap (reach_at reach') e ∙ here;
            within = no_more-through (cost_of found) (cost_of r.now) (further (cost_of q) z) less r.within;
            least = λ c.
                let back : IsNoMore (cost_of r.now) (cost_of found) = subst (IsNoMore (cost_of r.now)) c r.within in
                let same : cost_of found ≡ cost_of r.now = no_more-both (cost_of found) (cost_of r.now) less back in
                let first = (better r.now was).1 same in
                let second = r.least (c ∙ same) in
                omega (arith, first, second, own-parent);
          }
      still x y z q r (inr ne) = record { now = r.now; reached = same-at y ne ∙ r.reached; within = r.within; least = r.least }

      relaxed' : (x y z : ℕ) (q : Reach) → is_settled settled x ≡ true → reach_at reach' x ≡ Some q → Contains (row_at rows x) (y, z) → IsRelaxed reach' y q x z ⊎ left_of u edges x (y, z)
      relaxed' x y z q done is among = by (h.search.relaxed x y z q done was among)
        where
          was : reach_at reach x ≡ Some q
          was = sym (same-at x (other x done)) ∙ is

          by : IsRelaxed reach y q x z ⊎ left_of u ((v, w) ∷ edges) x (y, z) → IsRelaxed reach' y q x z ⊎ left_of u edges x (y, z)
          by (inl r) = inl (still x y z q r (cases_eq y v))
          by (inr l) = last (contains-cases (v, w) (y, z) edges l.1)
            where
              last : (◌≡◌ {A = ℕ × ℕ} (v, w) (y, z)) ⊎ Contains edges (y, z) → IsRelaxed reach' y q x z ⊎ left_of u edges x (y, z)
              last (inr later) = inr (l.0, later)
              last (inl e) =
                  let target : v ≡ y = ap (λ (p : ℕ × ℕ). p.0) e in
                  let weight : w ≡ z = ap (λ (p : ℕ × ℕ). p.1) e in
                  let same : from ≡ q = some-one from q (sym h.reached ∙ (ap (reach_at reach) (sym l.0) ∙ was)) in
                  let costs : further b w ≡ further (cost_of q) z = λ i. further (cost_of (same i)) (weight i) in
                  inl (record {
                    now = found;
                    reached = subst (λ n. reach_at reach' n ≡ Some found) target here;
                    within = no_more-same (cost_of found) (further (cost_of q) z) (cost ∙ costs);
                    least = λ c. let x = l.0 in omega (arith, own-parent, x);
                  })

      pub changed : IsAt rows s u from edges reach' settled offers'
      changed = record {
        search = record {
          len = length-set reach v (Some found) ∙ h.search.len;
          size = h.search.size;
          source = same-at s (λ e. not-source (sym e)) ∙ h.search.source;
          short = short';
          shorter = λ y r done is. h.search.shorter y r done (sym (same-at y (other y done)) ∙ is);
          sums = sums';
          reached = λ y done. let r = h.search.reached y done in record { now = r.now; is = same-at y (other y done) ∙ r.is };
          low = λ y r done is. h.search.low y r done (sym (same-at y (other y done)) ∙ is);
          high = high';
          waits = waits';
          known = known';
          parents = parents';
          relaxed = relaxed';
        };
        reached = same-at u (other u h.done) ∙ h.reached;
        done = h.done;
        own = own-later;
      }

    -- with an offer more
    pub offered : (offers' : List Bid) → IsPermutation (offer (cost_of found) v ∷ offers) offers' → IsAt rows s u from edges reach' settled offers'
    offered offers' p = changed offers'
        (λ o among. Contains-permutation (offer (cost_of found) v ∷ offers) offers' o p (contains-later (offer (cost_of found) v) o offers among))
        (λ o among. turned o (contains-cases (offer (cost_of found) v) o offers (Contains-permutation offers' (offer (cost_of found) v ∷ offers) o (IsPermutation-sym (offer (cost_of found) v ∷ offers) offers' p) among)))
        (Contains-permutation (offer (cost_of found) v ∷ offers) offers' (offer (cost_of found) v) p (contains-head (offer (cost_of found) v) offers))
      where
        turned : (o : Bid) → (offer (cost_of found) v ≡ o) ⊎ Contains offers o → Contains offers o ⊎ (o ≡ offer (cost_of found) v)
        turned o (inl e) = inr (sym e)
        turned o (inr there) = inl there

    -- with the offer that there is
    pub reparented : (known : Reach) → reach_at reach v ≡ Some known → cost_of found ≡ cost_of known → IsAt rows s u from edges reach' settled offers
    reparented known is same = changed offers (λ o among. among) (λ o among. inl among) (subst (λ (c : Cost). Contains offers (offer c v)) (sym same) (h.search.waits v known (not-done (is_settled settled v) unsettled) is))
      where
        not-done : (d : Bool) → (d ≡ true → ⊥) → d ≡ false
        not-done true never = absurd (never refl)
        not-done false never = refl

-- the same, with the values that a step leaves
pub offered-made : (rows : List (List (ℕ × ℕ))) (s u : ℕ) (from : Reach) (v w : ℕ) (edges : List (ℕ × ℕ)) (reach after : List (Option Reach)) (settled settled' : List Bool) (offers offers' : List Bid) (found : Reach) →
    IsAt rows s u from ((v, w) ∷ edges) reach settled offers → v < length reach → w ≤ 18446744073709551615 → cost_of found ≡ further (cost_of from) w → found.parent ≡ u →
    ((r : Reach) → reach_at reach v ≡ Some r → IsNoMore (cost_of found) (cost_of r) × (cost_of found ≡ cost_of r → u ≤ r.parent)) →
    after ≡ slice_set reach v (Some found) → settled' ≡ settled → IsPermutation (offer (cost_of found) v ∷ offers) offers' → IsAt rows s u from edges after settled' offers'
offered-made rows s u from v w edges reach after settled settled' offers offers' found h inside narrow cost own better is same p =
    let made = offered rows s u from v w edges reach settled offers h found inside narrow cost own better offers' p in
    subst (λ (l : List (Option Reach)). IsAt rows s u from edges l settled' offers') (sym is) (subst (λ (l : List Bool). IsAt rows s u from edges (slice_set reach v (Some found)) l offers') (sym same) made)
