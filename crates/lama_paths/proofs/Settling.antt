-- What settling a vertex keeps, and what stands at the end.
use Rattle.std.proofs.Common.{◌≡◌, ◌≢◌, ◌∙◌, ℕ, ◌+◌, ◌<◌, ◌≤◌, ◌⊎◌, inl, inr, List, [], ◌∷◌, length, get_or, cond, eqb, ltb, Bool, true, false, Option, Some, refl, sym, ap, subst, arith, true≢false}
use Rattle.std.specs.Prelude.{slice_set, Contains}
use Rattle.std.specs.declared.cmp.Ordering.{Ordering}
use Rattle.std.specs.declared.cmp.Ordering.TheVariants.{Less, Equal, Greater}
use Rattle.std.specs.Ordering.{is_lt, nat_cmp, ordering_then}
use Rattle.std.specs.declared.cmp.Reverse.{Reverse}
use Rattle.std.specs.BinaryHeap.{IsUpperBound}
use Rattle.std.specs.List.Sorted.{IsPermutation}
use Rattle.std.proofs.lemmas.Bool.{cases_eq, cases_lt}
use Rattle.std.proofs.lemmas.Bool.Decides.{nat_tests}
use Rattle.std.proofs.lemmas.List.{get_or-set_same, get_or-set_other, length-set}
use Rattle.std.proofs.lemmas.List.Sums.{sum_by-set, sum_by-le}
use Rattle.std.proofs.lemmas.List.Sorted.{Contains-permutation, IsPermutation-sym, IsPermutation-map}
use Rattle.lama_model.specs.declared.reach.Reach.{Reach}
use Rattle.lama_model.specs.Row.{row_at}
use Rattle.lama_model.specs.Distances.{Cost, IsNoMore, cost_of, reach_at}
use Rattle.lama_model.proofs.RouteLemmas.{no_more-through}
use Rattle.lama_model.proofs.CertificateLaw.{some-one}
use Rattle.lama_paths.specs.declared.search.Offer.{Offer}
use Rattle.lama_paths.specs.Search.{Bid, bid, bids, is_settled, settled_count, price, offer, IsRelaxed, IsReached, IsSearch, none_left, left_of, IsBetween, IsTaken, IsAt}
use Rattle.lama_paths.proofs.Searching.{no_more-refl, contains-head, contains-later, contains-cases, contains-none}

pub few-settled : (settled : List Bool) → settled_count settled ≤ length settled
few-settled settled =
    let le = sum_by-le (λ (b : Bool). cond b 1 0) 1 settled (λ k d lt. small (get_or settled k d)) in
    omega (arith, le)
  where
    small : (b : Bool) → cond b 1 0 ≤ 1
    small true = omega arith
    small false = omega arith

pub one-settled : (settled : List Bool) (u : ℕ) → u < length settled → is_settled settled u ≡ false → settled_count (slice_set settled u true) ≡ settled_count settled + 1
one-settled settled u lt not =
    let e = sum_by-set (λ (b : Bool). cond b 1 0) settled u true false lt in
    let none : ◌≡◌ {A = ℕ} (cond (get_or settled u false) 1 0) 0 = ap (λ (b : Bool). cond b 1 0) not in
    omega (arith, e, none)

-- offers matter by what is among them
pub search-along : (rows : List (List (ℕ × ℕ))) (s : ℕ) (b : Cost) (left : ℕ → ℕ × ℕ → Type 0) (reach : List (Option Reach)) (settled : List Bool) (offers offers' : List Bid) → ((o : Bid) → Contains offers o → Contains offers' o) → ((o : Bid) → Contains offers' o → Contains offers o) → IsSearch rows s b left reach settled offers → IsSearch rows s b left reach settled offers'
search-along rows s b left reach settled offers offers' to from h = record {
  len = h.len;
  size = h.size;
  source = h.source;
  short = h.short;
  shorter = h.shorter;
  sums = h.sums;
  reached = h.reached;
  low = h.low;
  high = λ o among. h.high o (from o among);
  waits = λ v r not is. to (offer (cost_of r) v) (h.waits v r not is);
  known = λ o among. h.known o (from o among);
  parents = h.parents;
  relaxed = h.relaxed;
}

module _ (rows : List (List (ℕ × ℕ))) (s u : ℕ) (reach : List (Option Reach)) (settled : List Bool) (offers : List Bid) where
  -- an offer for a vertex that is settled changes nothing
  pub skipped : IsTaken rows s u reach settled offers → is_settled settled u ≡ true → IsBetween rows s reach settled offers
  skipped h done = record {
    bound = h.bound;
    search = record {
      len = h.search.len;
      size = h.search.size;
      source = h.search.source;
      short = h.search.short;
      shorter = h.search.shorter;
      sums = h.search.sums;
      reached = h.search.reached;
      low = h.search.low;
      high = λ o among. h.search.high o (contains-later h.taken o offers among);
      waits = λ v r not is. by v r not (contains-cases h.taken (offer (cost_of r) v) offers (h.search.waits v r not is));
      known = λ o among. h.search.known o (contains-later h.taken o offers among);
      parents = h.search.parents;
      relaxed = h.search.relaxed;
    };
  }
    where
      by : (v : ℕ) (r : Reach) → is_settled settled v ≡ false → (h.taken ≡ offer (cost_of r) v) ⊎ Contains offers (offer (cost_of r) v) → Contains offers (offer (cost_of r) v)
      by v r not (inl e) =
          let same : u ≡ v = sym h.vertex ∙ ap (λ (o : Bid). o.vertex) e in
          absurd (true≢false (sym done ∙ (ap (is_settled settled) same ∙ not)))
      by v r not (inr there) = there

  -- the vertex is reached, and the offer is no cheaper
  pub taken-reached : (h : IsTaken rows s u reach settled offers) → (r : Reach) × (reach_at reach u ≡ Some r) × IsNoMore (cost_of r) (price h.taken) × (u < length rows)
  taken-reached h =
      let k = h.search.known h.taken (contains-head h.taken offers) in
      (k.now, ap (reach_at reach) (sym h.vertex) ∙ k.reached, k.within, subst (λ n. n < length rows) h.vertex k.inside)

  module _ (from : Reach) (h : IsTaken rows s u reach settled offers) (not : is_settled settled u ≡ false) (is : reach_at reach u ≡ Some from) (within : u < length settled) where
    abbrev settled' : List Bool
    settled' = slice_set settled u true

    now : is_settled settled' u ≡ true
    now = get_or-set_same settled u true false within

    other : (y : ℕ) → y ≢ u → is_settled settled' y ≡ is_settled settled y
    other y ne = get_or-set_other settled u y true false ne

    more : settled_count settled' ≡ settled_count settled + 1
    more = one-settled settled u within not

    still : (y : ℕ) → is_settled settled y ≡ true → is_settled settled' y ≡ true
    still y done = other y (λ e. true≢false (sym done ∙ (ap (is_settled settled) e ∙ not))) ∙ done

    -- it costs no less than what was settled, and no more than what waits
    above : IsNoMore h.bound (cost_of from)
    above = h.search.high (offer (cost_of from) u) (h.search.waits u from not is)

    below : IsNoMore (cost_of from) (price h.taken)
    below =
        let t = taken-reached h in
        let same = some-one t.0 from (sym t.1 ∙ is) in
        subst (λ (r : Reach). IsNoMore (cost_of r) (price h.taken)) same t.2

    by-vertex : (P : ℕ → Type 0) → P u → ((y : ℕ) → y ≢ u → is_settled settled y ≡ true → P y) → (y : ℕ) → is_settled settled' y ≡ true → P y
    by-vertex P one rest y done = by (cases_eq y u)
      where
        by : (y ≡ u) ⊎ (y ≢ u) → P y
        by (inl e) = subst P (sym e) one
        by (inr ne) = rest y ne (sym (other y ne) ∙ done)

    shorter' : (y : ℕ) (r : Reach) → is_settled settled' y ≡ true → reach_at reach y ≡ Some r → r.hops < settled_count settled'
    shorter' y r done at = by-vertex (λ y. (r : Reach) → reach_at reach y ≡ Some r → r.hops < settled_count settled')
        (λ r at. let few = h.search.short u r at in omega (arith, few, more))
        (λ y ne done r at. let few = h.search.shorter y r done at in omega (arith, few, more)) y done r at

    low' : (y : ℕ) (r : Reach) → is_settled settled' y ≡ true → reach_at reach y ≡ Some r → IsNoMore (cost_of r) (cost_of from)
    low' y r done at = by-vertex (λ y. (r : Reach) → reach_at reach y ≡ Some r → IsNoMore (cost_of r) (cost_of from))
        (λ r at. let same = some-one from r (sym is ∙ at) in subst (λ (x : Reach). IsNoMore (cost_of x) (cost_of from)) same (no_more-refl (cost_of from)))
        (λ y ne done r at. no_more-through (cost_of r) h.bound (cost_of from) (h.search.low y r done at) above) y done r at

    reached' : (y : ℕ) → is_settled settled' y ≡ true → IsReached reach y
    reached' = by-vertex (IsReached reach) (record { now = from; is = is }) (λ y ne done. h.search.reached y done)

    waits' : (y : ℕ) (r : Reach) → is_settled settled' y ≡ false → reach_at reach y ≡ Some r → Contains offers (offer (cost_of r) y)
    waits' y r yet at = by (cases_eq y u)
      where
        there : y ≢ u → (h.taken ≡ offer (cost_of r) y) ⊎ Contains offers (offer (cost_of r) y) → Contains offers (offer (cost_of r) y)
        there ne (inl e) = absurd (ne (sym (sym h.vertex ∙ ap (λ (o : Bid). o.vertex) e)))
        there ne (inr among) = among

        by : (y ≡ u) ⊎ (y ≢ u) → Contains offers (offer (cost_of r) y)
        by (inl e) = absurd (true≢false (sym (ap (is_settled settled') e ∙ now) ∙ yet))
        by (inr ne) = there ne (contains-cases h.taken (offer (cost_of r) y) offers (h.search.waits y r (sym (other y ne) ∙ yet) at))

    relaxed' : (x v w : ℕ) (q : Reach) → is_settled settled' x ≡ true → reach_at reach x ≡ Some q → Contains (row_at rows x) (v, w) → IsRelaxed reach v q x w ⊎ left_of u (row_at rows u) x (v, w)
    relaxed' x v w q done at among = by (cases_eq x u)
      where
        old : IsRelaxed reach v q x w ⊎ none_left x (v, w) → IsRelaxed reach v q x w ⊎ left_of u (row_at rows u) x (v, w)
        old (inl r) = inl r
        old (inr l) = absurd l

        by : (x ≡ u) ⊎ (x ≢ u) → IsRelaxed reach v q x w ⊎ left_of u (row_at rows u) x (v, w)
        by (inl e) = inr (e, subst (λ n. Contains (row_at rows n) (v, w)) e among)
        by (inr ne) = old (h.search.relaxed x v w q (sym (other x ne) ∙ done) at among)

    pub settled-now : IsAt rows s u from (row_at rows u) reach settled' offers
    settled-now = record {
      search = record {
        len = h.search.len;
        size = length-set settled u true ∙ h.search.size;
        source = h.search.source;
        short = λ v r at. let few = h.search.short v r at in omega (arith, few, more);
        shorter = shorter';
        sums = h.search.sums;
        reached = reached';
        low = low';
        high = λ o among. no_more-through (cost_of from) (price h.taken) (price o) below (h.least o among);
        waits = waits';
        known = λ o among. h.search.known o (contains-later h.taken o offers among);
        parents = λ v r ne at. let p = h.search.parents v r ne at in (p.0, still r.parent p.1);
        relaxed = relaxed';
      };
      reached = is;
      done = now;
      own = λ p among. among;
    }

  -- no edge of the vertex is left
  pub finished : (from : Reach) → IsAt rows s u from [] reach settled offers → IsBetween rows s reach settled offers
  finished from h = record {
    bound = cost_of from;
    search = record {
      len = h.search.len;
      size = h.search.size;
      source = h.search.source;
      short = h.search.short;
      shorter = h.search.shorter;
      sums = h.search.sums;
      reached = h.search.reached;
      low = h.search.low;
      high = h.search.high;
      waits = h.search.waits;
      known = h.search.known;
      parents = h.search.parents;
      relaxed = λ x v w q done at among. by x v w q (h.search.relaxed x v w q done at among);
    };
  }
    where
      by : (x v w : ℕ) (q : Reach) → IsRelaxed reach v q x w ⊎ left_of u [] x (v, w) → IsRelaxed reach v q x w ⊎ none_left x (v, w)
      by x v w q (inl r) = inl r
      by x v w q (inr l) = absurd (contains-none (v, w) l.1)

not-less : (a b : ℕ) (o : Ordering) → is_lt (ordering_then (nat_cmp a b) o) ≡ false → (b ≤ a) × (b ≡ a → is_lt o ≡ false)
not-less a b o h = by (cases_lt a b) (cases_eq a b)
  where
    by : (a < b) ⊎ (b ≤ a) → (a ≡ b) ⊎ (a ≢ b) → (b ≤ a) × (b ≡ a → is_lt o ≡ false)
    by (inl lt) other =
        let t : ltb a b ≡ true = grind (arith, nat_tests, lt) in
        absurd (true≢false (sym (ap (λ (x : Bool). is_lt (ordering_then (cond x Less (cond (eqb a b) Equal Greater)) o)) t) ∙ h))
    by (inr le) (inl e) =
        let t : ltb a b ≡ false = grind (arith, nat_tests, le) in
        let q : eqb a b ≡ true = grind (arith, nat_tests, e) in
        (le, λ same. sym ((λ i. is_lt (ordering_then (cond (t i) Less (cond (q i) Equal Greater)) o))) ∙ h)
    by (inr le) (inr ne) = (le, λ same. absurd (ne (sym same)))

-- the order of offers
abbrev pub offer_cmp : {S : Type 0} → (S → S → Ordering) → Offer S → Offer S → Ordering
offer_cmp cmp x y = ordering_then (cmp x.sum y.sum) (ordering_then (nat_cmp x.hops y.hops) (nat_cmp x.vertex y.vertex))

-- the cheapest one comes first in a heap
abbrev pub heap_cmp : {S : Type 0} → (S → S → Ordering) → Reverse (Offer S) → Reverse (Offer S) → Ordering
heap_cmp cmp x y = offer_cmp cmp y.0 x.0

module _ {S : Type 0} (cmp : S → S → Ordering) (value : S → ℕ) (ordered : (x y : S) → cmp x y ≡ nat_cmp (value x) (value y)) where
  -- an offer that none is below is the cheapest, since the cheaper one is the greater
  pub least-offer : (x : Reverse (Offer S)) (xs : List (Reverse (Offer S))) → IsUpperBound (heap_cmp cmp) x xs → (o : Bid) → Contains (bids value xs) o → IsNoMore (price (bid value x)) (price o)
  least-offer x [] h o among = absurd (contains-none o among)
  least-offer x (y ∷ ys) h o among = by (contains-cases (bid value y) o (bids value ys) among) (least-offer x ys h.1 o)
    where
      here : IsNoMore (price (bid value x)) (price (bid value y))
      here =
          let rest = ordering_then (nat_cmp y.0.hops x.0.hops) (nat_cmp y.0.vertex x.0.vertex) in
          let a = not-less (value y.0.sum) (value x.0.sum) rest (ap (λ (o : Ordering). is_lt (ordering_then o (ordering_then (nat_cmp y.0.hops x.0.hops) (nat_cmp y.0.vertex x.0.vertex)))) (sym (ordered y.0.sum x.0.sum)) ∙ h.0) in
          record { sums = a.0; edges = λ e. (not-less y.0.hops x.0.hops (nat_cmp y.0.vertex x.0.vertex) (a.1 e)).0 }

      by : (bid value y ≡ o) ⊎ Contains (bids value ys) o → (Contains (bids value ys) o → IsNoMore (price (bid value x)) (price o)) → IsNoMore (price (bid value x)) (price o)
      by (inl e) rest = subst (λ z. IsNoMore (price (bid value x)) (price z)) e here
      by (inr later) rest = rest later

  -- the cheapest offer was taken
  pub taken-now : (rows : List (List (ℕ × ℕ))) (s : ℕ) (reach : List (Option Reach)) (settled : List Bool) (offers offers' : List (Reverse (Offer S))) (x : Reverse (Offer S)) → IsBetween rows s reach settled (bids value offers) → IsPermutation offers (x ∷ offers') → IsUpperBound (heap_cmp cmp) x offers' → IsTaken rows s x.0.vertex reach settled (bids value offers')
  taken-now rows s reach settled offers offers' x h p top =
      let q = IsPermutation-map (bid value) offers (x ∷ offers') p in
      record {
        bound = h.bound;
        taken = bid value x;
        vertex = refl;
        search = search-along rows s h.bound none_left reach settled (bids value offers) (bid value x ∷ bids value offers')
            (λ o among. Contains-permutation (bids value offers) (bid value x ∷ bids value offers') o q among)
            (λ o among. Contains-permutation (bid value x ∷ bids value offers') (bids value offers) o (IsPermutation-sym (bids value offers) (bid value x ∷ bids value offers') q) among) h.search;
        least = least-offer x offers' top;
      }
