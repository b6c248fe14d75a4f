-- Where the search begins and ends.
use Rattle.std.proofs.Common.{◌≡◌, ◌≢◌, ◌∙◌, ℕ, ◌+◌, ◌-◌, ◌*◌, ◌^◌, ◌<◌, ◌≤◌, ◌⊎◌, inl, inr, List, [], ◌∷◌, length, get_or, replicate, Bool, true, false, Option, None, Some, refl, sym, ap, subst, arith, true≢false}
use Rattle.std.specs.Prelude.{slice_set, Contains}
use Rattle.std.specs.List.Sorted.{IsPermutation}
use Rattle.std.proofs.lemmas.Bool.{cases_eq, cases_lt}
use Rattle.std.proofs.lemmas.List.{get_or-replicate, get_or_past, length-set, length-replicate, ext_get_or}
use Rattle.std.proofs.lemmas.List.FromFn.{length-map-range_with_len, get_or-map-range_with_len}
use Rattle.std.proofs.lemmas.List.Sums.{get_or-le-sum_by}
use Rattle.std.proofs.lemmas.List.Sorted.{Contains-permutation, IsPermutation-sym}
use Rattle.lama_model.specs.declared.reach.Reach.{Reach}
use Rattle.lama_model.specs.Row.{row_at, edges_in, graph_of_rows, AreTargetsBelow}
use Rattle.lama_model.specs.Distances.{LeadsBelow, IsCertified, further, cost_of, reach_at, reach_of, reach_by, distances}
use Rattle.lama_model.proofs.RowsOfGraph.{row-of-rows}
use Rattle.lama_model.proofs.DistanceLaw.{reach-is, one-reach}
use Rattle.lama_model.proofs.CertificateLaw.{some-one, HasLeastParents, reach-told}
use Rattle.lama_paths.specs.Search.{Bid, is_settled, settled_count, offer, IsRelaxed, IsKnown, none_left, IsBetween, work}
use Rattle.lama_paths.proofs.Searching.{no_more-refl, contains-head, contains-cases, contains-none, reach-set, reach-other}
use Rattle.lama_paths.proofs.Settling.{few-settled, one-settled}

-- each vertex that is settled leaves less to do
pub worked : (rows : List (List (ℕ × ℕ))) (settled : List Bool) (offers offers' : List Bid) (u : ℕ) → length settled ≡ length rows → u < length rows → is_settled settled u ≡ false → length offers' ≤ length offers + length (row_at rows u) → work rows (slice_set settled u true) offers' ≤ work rows settled offers
worked rows settled offers offers' u size lt not few =
    let one = one-settled settled u (omega (arith, size, lt)) not in
    let all = few-settled (slice_set settled u true) in
    let same = length-set settled u true in
    let left : length rows - settled_count settled ≡ (length rows - settled_count (slice_set settled u true)) + 1 = omega (arith, one, all, same, size) in
    let row = get_or-le-sum_by (λ (r : List (ℕ × ℕ)). length r) rows u [] lt in
    let more : (length rows - settled_count settled) * (edges_in rows + 1) ≡ (length rows - settled_count (slice_set settled u true)) * (edges_in rows + 1) + (edges_in rows + 1) =
    ap (λ n. n * (edges_in rows + 1)) left ∙ step (length rows - settled_count (slice_set settled u true)) (edges_in rows + 1) in
    omega (arith, more, row, few)
  where
    step : (k e : ℕ) → (k + 1) * e ≡ k * e + e
    step k e = grind arith

none-at : (n v : ℕ) → reach_at (replicate n None) v ≡ None
none-at n v = by (cases_lt v n)
  where
    by : (v < n) ⊎ (n ≤ v) → get_or (replicate {A = Option Reach} n None) v None ≡ None
    by (inl lt) = get_or-replicate n v None None lt
    by (inr le) = get_or_past (replicate n None) v None (let e = length-replicate {A = Option Reach} n None in omega (arith, le, e))

not-at : (n v : ℕ) → is_settled (replicate n false) v ≡ false
not-at n v = by (cases_lt v n)
  where
    by : (v < n) ⊎ (n ≤ v) → get_or (replicate n false) v false ≡ false
    by (inl lt) = get_or-replicate n v false false lt
    by (inr le) = get_or_past (replicate n false) v false (let e = length-replicate n false in omega (arith, le, e))

-- only the source is reached, and waits
pub started : (rows : List (List (ℕ × ℕ))) (s count : ℕ) (offers : List Bid) → length rows ≡ count → s < count → IsPermutation (offer (record { sum = 0; hops = 0 }) s ∷ []) offers →
    IsBetween rows s (slice_set (replicate count None) s (Some (record { sum = 0; hops = 0; parent = s }))) (replicate count false) offers
started rows s count offers many lt p = record {
  bound = record { sum = 0; hops = 0 };
  search = record {
    len = length-set (replicate count None) s (Some first) ∙ (length-replicate count None ∙ sym many);
    size = length-replicate count false ∙ sym many;
    source = here;
    short = λ v r is. let e = ap (λ (x : Reach). x.hops) (only v r is).1 in omega (arith, e);
    shorter = λ v r done is. absurd (true≢false (sym done ∙ not-at count v));
    sums = λ v r is. let e = ap (λ (x : Reach). x.sum) (only v r is).1 in omega (arith, e);
    reached = λ v done. absurd (true≢false (sym done ∙ not-at count v));
    low = λ v r done is. absurd (true≢false (sym done ∙ not-at count v));
    high = λ o among. record { sums = omega arith; edges = λ e. omega arith };
    waits = λ v r not is.
        let e = only v r is in
        subst (λ n. Contains offers (offer (cost_of r) n)) (sym e.0) (subst (λ (x : Reach). Contains offers (offer (cost_of x) s)) (sym e.1) (Contains-permutation (offer (record { sum = 0; hops = 0 }) s ∷ []) offers (offer (record { sum = 0; hops = 0 }) s) p (contains-head (offer (record { sum = 0; hops = 0 }) s) [])));
    known = λ o among. subst (IsKnown (length rows) reach) (sole o among) (record { inside = omega (arith, lt, many); now = first; reached = here; within = no_more-refl (record { sum = 0; hops = 0 }) });
    parents = λ v r ne is. absurd (ne (only v r is).0);
    relaxed = λ x v w q done is among. absurd (true≢false (sym done ∙ not-at count x));
  };
}
  where
    first : Reach
    first = record { sum = 0; hops = 0; parent = s }

    reach : List (Option Reach)
    reach = slice_set (replicate count None) s (Some (record { sum = 0; hops = 0; parent = s }))

    here : reach_at (slice_set (replicate count None) s (Some (record { sum = 0; hops = 0; parent = s }))) s ≡ Some (record { sum = 0; hops = 0; parent = s })
    here = reach-set (replicate count None) s (Some (record { sum = 0; hops = 0; parent = s })) (let e = length-replicate {A = Option Reach} count None in omega (arith, e, lt))

    only : (v : ℕ) (r : Reach) → reach_at (slice_set (replicate count None) s (Some (record { sum = 0; hops = 0; parent = s }))) v ≡ Some r → (v ≡ s) × (r ≡ record { sum = 0; hops = 0; parent = s })
    only v r is = by (cases_eq v s)
      where
        by : (v ≡ s) ⊎ (v ≢ s) → (v ≡ s) × (r ≡ record { sum = 0; hops = 0; parent = s })
        by (inl e) = (e, some-one r (record { sum = 0; hops = 0; parent = s }) (sym is ∙ (ap (reach_at (slice_set (replicate count None) s (Some (record { sum = 0; hops = 0; parent = s })))) e ∙ here)))
        by (inr ne) = absurd (let e : None ≡ Some r = sym (reach-other (replicate count None) s v (Some (record { sum = 0; hops = 0; parent = s })) ne ∙ none-at count v) ∙ is in cc)

    sole : (o : Bid) → Contains offers o → offer (record { sum = 0; hops = 0 }) s ≡ o
    sole o among = by (contains-cases (offer (record { sum = 0; hops = 0 }) s) o [] (Contains-permutation offers (offer (record { sum = 0; hops = 0 }) s ∷ []) o (IsPermutation-sym (offer (record { sum = 0; hops = 0 }) s ∷ []) offers p) among))
      where
        by : (offer (record { sum = 0; hops = 0 }) s ≡ o) ⊎ Contains [] o → offer (record { sum = 0; hops = 0 }) s ≡ o
        by (inl e) = e
        by (inr none) = absurd (contains-none o none)

module _ (rows : List (List (ℕ × ℕ))) (s : ℕ) (reach : List (Option Reach)) (settled : List Bool) (offers : List Bid) (h : IsBetween rows s reach settled offers) (empty : length offers ≡ 0) (vertices : length rows ≤ 4194304) where
  -- each vertex that is reached is settled
  all-settled : (v : ℕ) (r : Reach) → reach_at reach v ≡ Some r → is_settled settled v ≡ true
  all-settled v r is = by (is_settled settled v) refl
    where
      by : (b : Bool) → is_settled settled v ≡ b → b ≡ true
      by true e = refl
      by false e = absurd (let lt = (h.search.waits v r e is).1 in omega (arith, lt, empty))

  relaxed-all : (x v w : ℕ) (q : Reach) → reach_at reach x ≡ Some q → Contains (row_at rows x) (v, w) → IsRelaxed reach v q x w
  relaxed-all x v w q is among = by (h.search.relaxed x v w q (all-settled x q is) is among)
    where
      by : IsRelaxed reach v q x w ⊎ none_left x (v, w) → IsRelaxed reach v q x w
      by (inl r) = r
      by (inr l) = absurd l

  pub certified : IsCertified (row_at rows) (length rows) s reach
  certified = record {
    len = h.search.len;
    source = h.search.source;
    bounds = λ v r lt is.
        let few = h.search.shorter v r (all-settled v r is) is in
        let all = few-settled settled in
        let size = h.search.size in
        let sum = h.search.sums v r is in
        (omega (arith, few, all, size), let small : r.hops ≤ 4194303 = omega (arith, few, all, size, vertices) in let wide : 4194303 * 18446744073709551615 < 2 ^ 86 = tt-less in omega (arith, small, sum, wide));
    parents = λ v r lt ne is. (h.search.parents v r ne is).0;
    edges = λ u v w q lt is among. let r = relaxed-all u v w q is among in record { now = r.now; reached = r.reached; within = r.within };
  }
    where
      tt-less : 4194303 * 18446744073709551615 < 2 ^ 86
      tt-less = omega arith

  leads-below : AreTargetsBelow (length rows) rows → LeadsBelow (row_at rows) (length rows)
  leads-below below u p among = by (cases_lt u (length rows))
    where
      by : (u < length rows) ⊎ (length rows ≤ u) → p.0 < length rows
      by (inl lt) = subst (λ (q : ℕ × ℕ). q.0 < length rows) among.2 (below u [] lt among.0 p among.1)
      by (inr le) = absurd (let e = ap length (get_or_past rows u [] le) in let lt = among.1 in omega (arith, e, lt))

  pub found-is : AreTargetsBelow (length rows) rows → s < length rows → reach ≡ distances (graph_of_rows rows) s
  unfolding distances
  found-is below source =
      let leads = leads-below below in
      let least : HasLeastParents (row_at rows) (length rows) s reach leads source certified = λ v u w r q ne at_v at_u among comes. by v u w r q at_v (relaxed-all u v w q at_u among) comes in
      ext_get_or None reach (reach_by (row_at rows) (length rows) s) (h.search.len ∙ sym (length-map-range_with_len (reach_of (row_at rows) (length rows) s) 0 (length rows)))
      (λ v lt.
      let inside : v < length rows = (let len = h.search.len in omega (arith, lt, len)) in
      one-reach (row_at rows) (length rows) s leads source v (reach_at reach v) (reach_of (row_at rows) (length rows) s v)
      (reach-told (row_at rows) (length rows) s reach leads source certified v least inside) (reach-is (row_at rows) (length rows) s leads source v)
      ∙ sym (get_or-map-range_with_len (reach_of (row_at rows) (length rows) s) 0 (length rows) v v None inside (let e : 0 + v ≡ v = omega arith in e)))
      ∙ sym (λ i. reach_by (λ v. row-of-rows rows v i) (length rows) s)
    where
      by : (v u w : ℕ) (r q : Reach) → reach_at reach v ≡ Some r → IsRelaxed reach v q u w → further (cost_of q) w ≡ cost_of r → r.parent ≤ u
      by v u w r q at x comes =
          let same = some-one x.now r (sym x.reached ∙ at) in
          let le = x.least (comes ∙ ap cost_of (sym same)) in
          let e = ap (λ (y : Reach). y.parent) same in
          omega (arith, le, e)
