-- Totals that were put together from parts are those of the whole.
use Rattle.std.proofs.Common.{◌≡◌, ◌∙◌, ℕ, ◌+◌, ◌%◌, ◌^◌, ◌≤◌, List, [], ◌∷◌, ◌++◌, length, map, max, cond, eqb, refl, sym, ap, arith}
use Rattle.std.specs.Prelude.{◌==◌, fold, sum, sum_by, count_by}
use Rattle.std.specs.List.{range_with_len}
use Rattle.std.proofs.lemmas.List.{map-append}
use Rattle.std.proofs.lemmas.List.FromFn.{length-range_with_len}
use Rattle.std.proofs.lemmas.List.Folds.{fold-map}
use Rattle.std.proofs.lemmas.Simd.{map-map}
use Rattle.std.proofs.lemmas.List.Sums.{fold-append, sum_by-cons, sum_by-append, sum_by_push, sum-map, count_by-le-length}
use Rattle.lama_model.specs.Row.{row_at, edges_in, graph_of_rows, AreTargetsBelow}
use Rattle.lama_model.specs.Lines.{greatest}
use Rattle.lama_model.specs.Degrees.{out_degrees, count_sinks}
use Rattle.lama_model.proofs.Counting.{edges-counted}
use Rattle.lama_model.proofs.RowsOfGraph.{row-of-rows}
use Rattle.lama_model.proofs.RankLaw.{sources, edges-added}
use Rattle.lama_rank.specs.declared.degree_totals.Totals.{Totals}
use Rattle.lama_rank.specs.Counts.{of_one, of_none, of_both}
use Rattle.lama_rank.proofs.Recursion.{degree-is, graph-is}

max-fold : (a : ℕ) (xs : List ℕ) → fold max a xs ≡ max a (fold max 0 xs)
max-fold a [] = omega arith
max-fold a (x ∷ xs) = let l = max-fold (max a x) xs in let r = max-fold (max 0 x) xs in omega (arith, l, r)

greatest-append : (xs ys : List ℕ) → greatest (xs ++ ys) ≡ max (greatest xs) (greatest ys)
greatest-append xs ys = fold-append max 0 xs ys ∙ max-fold (fold max 0 xs) ys

-- the numbers of totals that were put together, each in 32 bits
pub record AreSummed (ts : List Totals) (r : Totals) : Type 0 where
  pub vertices : r.vertices ≡ sum_by (λ (t : Totals). t.vertices) ts % 2 ^ 32
  pub edges : r.edges ≡ sum_by (λ (t : Totals). t.edges) ts % 2 ^ 32
  pub greatest_is : r.greatest ≡ greatest (map (λ (t : Totals). t.greatest) ts)
  pub sinks : r.sinks ≡ sum_by (λ (t : Totals). t.sinks) ts % 2 ^ 32

pub none-summed : (e : Totals) → e ≡ of_none → AreSummed [] e
none-summed e is = record {
  vertices = ap (λ (t : Totals). t.vertices) is ∙ (let z : 0 ≡ 0 % 2 ^ 32 = omega arith in z);
  edges = ap (λ (t : Totals). t.edges) is ∙ (let z : 0 ≡ 0 % 2 ^ 32 = omega arith in z);
  greatest_is = ap (λ (t : Totals). t.greatest) is;
  sinks = ap (λ (t : Totals). t.sinks) is ∙ (let z : 0 ≡ 0 % 2 ^ 32 = omega arith in z);
}

joined-number : (f : Totals → ℕ) (xs ys : List Totals) (a b r : ℕ) → a ≡ sum_by f xs % 2 ^ 32 → b ≡ sum_by f ys % 2 ^ 32 → r ≡ (a + b) % 2 ^ 32 → r ≡ sum_by f (xs ++ ys) % 2 ^ 32
joined-number f xs ys a b r ha hb hr = let s = sum_by-append f xs ys in omega (arith, ha, hb, hr, s)

pub both-summed : (xs ys : List Totals) (a b r : Totals) → AreSummed xs a → AreSummed ys b → r ≡ of_both a b → AreSummed (xs ++ ys) r
both-summed xs ys a b r h k is = record {
  vertices = joined-number (λ t. t.vertices) xs ys a.vertices b.vertices r.vertices h.vertices k.vertices (ap (λ (t : Totals). t.vertices) is);
  edges = joined-number (λ t. t.edges) xs ys a.edges b.edges r.edges h.edges k.edges (ap (λ (t : Totals). t.edges) is);
  greatest_is =
      ap (λ (t : Totals). t.greatest) is
      ∙ ((λ j. max (h.greatest_is j) (k.greatest_is j))
      ∙ (sym (greatest-append (map (λ (t : Totals). t.greatest) xs) (map (λ (t : Totals). t.greatest) ys))
      ∙ ap greatest (sym (map-append (λ (t : Totals). t.greatest) xs ys))));
  sinks = joined-number (λ t. t.sinks) xs ys a.sinks b.sinks r.sinks h.sinks k.sinks (ap (λ (t : Totals). t.sinks) is);
}

-- the same where one item is put behind others
more-number : (f : Totals → ℕ) (xs : List Totals) (x : Totals) (a r : ℕ) → a ≡ sum_by f xs % 2 ^ 32 → r ≡ (a + f x) % 2 ^ 32 → r ≡ sum_by f (xs ++ x ∷ []) % 2 ^ 32
more-number f xs x a r ha hr = let s = sum_by_push f xs x in omega (arith, ha, hr, s)

pub more-summed : (xs : List Totals) (a x r : Totals) → AreSummed xs a → r ≡ of_both a x → AreSummed (xs ++ x ∷ []) r
more-summed xs a x r h is = record {
  vertices = more-number (λ t. t.vertices) xs x a.vertices r.vertices h.vertices (ap (λ (t : Totals). t.vertices) is);
  edges = more-number (λ t. t.edges) xs x a.edges r.edges h.edges (ap (λ (t : Totals). t.edges) is);
  greatest_is =
      ap (λ (t : Totals). t.greatest) is
      ∙ ((λ j. max (h.greatest_is j) x.greatest)
      ∙ (sym (fold-append max 0 (map (λ (t : Totals). t.greatest) xs) (x.greatest ∷ []))
      ∙ ap greatest (sym (map-append (λ (t : Totals). t.greatest) xs (x ∷ [])))));
  sinks = more-number (λ t. t.sinks) xs x a.sinks r.sinks h.sinks (ap (λ (t : Totals). t.sinks) is);
}

sum-mapped : {X Y : Type 0} (f : Y → ℕ) (h : X → Y) (xs : List X) → sum_by f (map h xs) ≡ sum_by (λ x. f (h x)) xs
sum-mapped f h xs = fold-map (λ n y. n + f y) h 0 xs

ones : (us : List ℕ) → sum_by (λ (u : ℕ). 1) us ≡ length us
ones [] = refl
ones (u ∷ us) = let c = sum_by-cons (λ (u : ℕ). 1) u us in let rest = ones us in omega (arith, c, rest)

-- the totals of each vertex, put together
module _ (rows : List (List (ℕ × ℕ))) (below : AreTargetsBelow (length rows) rows) (vertices : length rows ≤ 4194304) (edges : edges_in rows ≤ 33554432) (r : Totals)
    (h : AreSummed (map (λ v. of_one (length (row_at rows v))) (range_with_len 0 (length rows))) r) where
  abbrev us : List ℕ
  us = range_with_len 0 (length rows)

  degrees-of : out_degrees (graph_of_rows rows) ≡ map (λ v. length (row_at rows v)) us
  unfolding out_degrees
  degrees-of = λ j. map (λ v. degree-is rows v j) us

  pub vertices-are : r.vertices ≡ length rows
  vertices-are =
      let n = sum-mapped (λ (t : Totals). t.vertices) (λ v. of_one (length (row_at rows v))) us ∙ (ones us ∙ length-range_with_len 0 (length rows)) in
      let is = h.vertices in
      omega (arith, n, is, vertices)

  pub edges-are : r.edges ≡ length (graph_of_rows rows).edges
  edges-are =
      let n = sum-mapped (λ (t : Totals). t.edges) (λ v. of_one (length (row_at rows v))) us in
      let whole = edges-added (graph_of_rows rows) (sources (graph_of_rows rows) (graph-is rows below)) ∙ (ap sum degrees-of ∙ sum-map (λ v. length (row_at rows v)) us) in
      let counted = edges-counted rows (graph_of_rows rows) (record { count = refl; each = λ v lt. sym (row-of-rows rows v) }) (sources (graph_of_rows rows) (graph-is rows below)) in
      let is = h.edges in
      omega (arith, n, whole, counted, is, edges)

  pub greatest-is : r.greatest ≡ greatest (out_degrees (graph_of_rows rows))
  greatest-is = h.greatest_is ∙ ap greatest (map-map (λ (t : Totals). t.greatest) (λ v. of_one (length (row_at rows v))) us ∙ sym degrees-of)

  pub sinks-are : r.sinks ≡ count_sinks (graph_of_rows rows)
  sinks-are =
      let n = sum-mapped (λ (t : Totals). t.sinks) (λ v. of_one (length (row_at rows v))) us in
      let counted = sum-mapped (λ d. cond (eqb d 0) 1 0) (λ v. length (row_at rows v)) us in
      let le = count_by-le-length (λ (v : ℕ). eqb (length (row_at rows v)) 0) us in
      let many = length-range_with_len 0 (length rows) in
      let is = h.sinks in
      let here : r.sinks ≡ sum_by (λ v. cond (eqb (length (row_at rows v)) 0) 1 0) us = omega (arith, n, le, many, is, vertices) in
      here ∙ (sym counted ∙ ap (count_by (λ d. d == 0)) (sym degrees-of))
