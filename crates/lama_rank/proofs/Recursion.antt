-- Shares and ranks that are found round by round are those of the graph.
use Rattle.std.proofs.Common.{◌≡◌, ◌∙◌, ℕ, zero, suc, ◌+◌, ◌*◌, ◌/◌, ◌<◌, ◌≤◌, List, [], ◌∷◌, length, map, replicate, reverse, true, false, refl, sym, ap, subst, arith}
use Rattle.std.specs.Prelude.{◌==◌, All, filter, sum_by, count_by, slice_index}
use Rattle.std.specs.List.{range_with_len}
use Rattle.std.proofs.lemmas.Simd.{map-map}
use Rattle.std.proofs.lemmas.List.{length-map, length-replicate, get_or-map, get_or-replicate}
use Rattle.std.proofs.lemmas.List.Elements.{All-nil, All-head, All-tail, All-append, All-map, All-push}
use Rattle.std.proofs.lemmas.List.Sums.{sum_by-cons}
use Rattle.std.proofs.lemmas.List.FromFn.{length-map-range_with_len, get_or-map-range_with_len, fill_by_all}
use Rattle.lama_base.specs.declared.Edge.{Edge}
use Rattle.lama_model.specs.Graph.{Graph, IsGraph}
use Rattle.lama_model.specs.Row.{row_at, row, edges_of_rows, graph_of_rows, AreTargetsBelow}
use Rattle.lama_model.specs.Degrees.{out_degree, out_degrees}
use Rattle.lama_model.specs.Ranks.{rank_of_sum, rank, ranks}
use Rattle.lama_model.proofs.ChangeLaw.{reverse_one}
use Rattle.lama_model.proofs.RowsOfGraph.{row-of-rows}
use Rattle.lama_model.proofs.RankLaw.{sources, degree-row, handed-by-rows, handed-bounded}
use Rattle.lama_rank.specs.Rounds.{handed, all_edges, share, left_of, after_round}
use Rattle.lama_rank.proofs.Handing.{handed-pairs}

reversed : {X : Type 0} (P : X → Type 0) (xs : List X) → All P xs → All P (reverse xs)
reversed P [] h = All-nil P
reversed P (x ∷ xs) h = subst (All P) (sym (reverse_one x xs)) (All-push P (reverse xs) x (reversed P xs (All-tail P x xs h)) (All-head P x xs h))

-- numbers that are the same throughout a range
sum-range : (f h : ℕ → ℕ) (a k : ℕ) → ((u : ℕ) → a ≤ u → u < a + k → f u ≡ h u) → sum_by f (range_with_len a k) ≡ sum_by h (range_with_len a k)
sum-range f h a zero same = refl
sum-range f h a (suc k) same =
    sum_by-cons f a (range_with_len (a + 1) k)
    ∙ ((λ j. same a (omega arith) (omega arith) j + sum-range f h (a + 1) k (λ u le lt. same u (omega (arith, le)) (omega (arith, lt))) j)
    ∙ sym (sum_by-cons h a (range_with_len (a + 1) k)))

map-range : (f h : ℕ → ℕ) (a k : ℕ) → ((u : ℕ) → a ≤ u → u < a + k → f u ≡ h u) → map f (range_with_len a k) ≡ map h (range_with_len a k)
map-range f h a zero same = refl
map-range f h a (suc k) same = λ j. same a (omega arith) (omega arith) j ∷ map-range f h (a + 1) k (λ u le lt. same u (omega (arith, le)) (omega (arith, lt))) j

-- the edges of rows are those of a graph
edges-within : (n v : ℕ) (rows : List (List (ℕ × ℕ))) → v + length rows ≤ n → AreTargetsBelow n rows → All (λ (e : Edge). (e.source < n) × (e.target < n)) (edges_of_rows v rows)
edges-within n v [] le below = All-nil (λ (e : Edge). (e.source < n) × (e.target < n))
edges-within n v (r ∷ rows) le below =
    let mine : All (λ (p : ℕ × ℕ). p.0 < n) r = All-head (λ (r : List (ℕ × ℕ)). All (λ (p : ℕ × ℕ). p.0 < n) r) r rows below in
    let back = reversed (λ (p : ℕ × ℕ). p.0 < n) r mine in
    All-append (λ (e : Edge). (e.source < n) × (e.target < n)) (map (λ p. record { source = v; target = p.0; weight = p.1 }) (reverse r)) (edges_of_rows (suc v) rows)
    (All-map (λ (e : Edge). (e.source < n) × (e.target < n)) (λ (p : ℕ × ℕ). record { source = v; target = p.0; weight = p.1 }) (reverse r) (λ k d lt. (omega (arith, le), back k d lt)))
    (edges-within n (suc v) rows (omega (arith, le)) (All-tail (λ (r : List (ℕ × ℕ)). All (λ (p : ℕ × ℕ). p.0 < n) r) r rows below))

pub graph-is : (rows : List (List (ℕ × ℕ))) → AreTargetsBelow (length rows) rows → IsGraph (graph_of_rows rows)
graph-is rows below = edges-within (length rows) 0 rows (omega arith) below

-- the out-degrees are the lengths of the rows
pub degree-is : (rows : List (List (ℕ × ℕ))) (u : ℕ) → out_degree u (graph_of_rows rows).edges ≡ length (row_at rows u)
degree-is rows u = degree-row (graph_of_rows rows) u ∙ ap length (row-of-rows rows u)

pub degrees-are : (rows : List (List (ℕ × ℕ))) → map (λ r. length r) rows ≡ out_degrees (graph_of_rows rows)
unfolding out_degrees
degrees-are rows = fill_by_all (λ v. out_degree v (graph_of_rows rows).edges) (map (λ r. length r) rows) (length rows) 0 (length-map rows (λ r. length r))
    (λ k lt. get_or-map (λ r. length r) rows k [] 0 lt ∙ sym (degree-is rows k))

-- what each vertex hands on along each of its edges, after so many rounds
abbrev pub shares_at : List (List (ℕ × ℕ)) → ℕ → List ℕ
shares_at rows i = map (λ u. share (out_degree u (graph_of_rows rows).edges) (rank (graph_of_rows rows) i u)) (range_with_len 0 (length rows))

degree-at : (rows : List (List (ℕ × ℕ))) (v : ℕ) → v < length rows → slice_index (out_degrees (graph_of_rows rows)) v ≡ out_degree v (graph_of_rows rows).edges
unfolding out_degrees
degree-at rows v lt = get_or-map-range_with_len (λ v. out_degree v (graph_of_rows rows).edges) 0 (length rows) v v 0 lt (let e : 0 + v ≡ v = omega arith in e)

pub first-shares : (rows : List (List (ℕ × ℕ))) → map (λ d. share d 1000000) (out_degrees (graph_of_rows rows)) ≡ shares_at rows 0
unfolding out_degrees
first-shares rows = map-map (λ d. share d 1000000) (λ v. out_degree v (graph_of_rows rows).edges) (range_with_len 0 (length rows))

module _ (rows : List (List (ℕ × ℕ))) (below : AreTargetsBelow (length rows) rows) where
  abbrev g : Graph
  g = graph_of_rows rows

  -- what is handed to a vertex
  handed-is : (i v : ℕ) → handed (shares_at rows i) (all_edges rows) v ≡ sum_by (λ e. rank g i e.source / out_degree e.source g.edges) (filter (λ e. e.target == v) g.edges)
  handed-is i v =
      let f : ℕ → ℕ = λ u. rank g i u / out_degree u g.edges in
      handed-pairs rows (shares_at rows i) v (range_with_len 0 (length rows))
      ∙ (sum-range (λ u. count_by (λ (p : ℕ × ℕ). p.0 == v) (row_at rows u) * slice_index (shares_at rows i) u) (λ u. count_by (λ (p : ℕ × ℕ). p.0 == v) (row g u) * f u) 0 (length rows)
      (λ u le lt. λ j. count_by (λ (p : ℕ × ℕ). p.0 == v) (sym (row-of-rows rows u) j) * get_or-map-range_with_len f 0 (length rows) u u 0 (omega (arith, lt)) (let e : 0 + u ≡ u = omega arith in e) j)
      ∙ sym (handed-by-rows g f v (sources g (graph-is rows below))))

  pub handed-few : (i v : ℕ) → length rows ≤ 4194304 → v < length rows → handed (shares_at rows i) (all_edges rows) v ≤ 4194304000000
  handed-few i v few lt = let is = handed-is i v in let le = handed-bounded g (graph-is rows below) i v lt in omega (arith, is, le, few)

  -- a round on
  pub next-shares : (i : ℕ) → after_round false (out_degrees g) (shares_at rows i) (all_edges rows) (range_with_len 0 (length rows)) ≡ shares_at rows (i + 1)
  next-shares i =
      map-range (λ v. left_of false (slice_index (out_degrees g) v) (rank_of_sum (handed (shares_at rows i) (all_edges rows) v))) (λ v. share (out_degree v g.edges) (rank g (suc i) v)) 0 (length rows)
      (λ v le lt. λ j. share (degree-at rows v (omega (arith, lt)) j) (rank_of_sum (handed-is i v j)))
      ∙ ap (shares_at rows) (let e : suc i ≡ i + 1 = omega arith in e)

  pub last-ranks : (i : ℕ) → after_round true (out_degrees g) (shares_at rows i) (all_edges rows) (range_with_len 0 (length rows)) ≡ ranks g (i + 1)
  unfolding ranks
  last-ranks i =
      map-range (λ v. left_of true (slice_index (out_degrees g) v) (rank_of_sum (handed (shares_at rows i) (all_edges rows) v))) (rank g (suc i)) 0 (length rows)
      (λ v le lt. ap rank_of_sum (handed-is i v))
      ∙ ap (λ k. map (rank g k) (range_with_len 0 (length rows))) (let e : suc i ≡ i + 1 = omega arith in e)

-- the ranks at first
pub all-first : (rows : List (List (ℕ × ℕ))) (n : ℕ) → n ≡ length rows → replicate n 1000000 ≡ ranks (graph_of_rows rows) 0
unfolding ranks
all-first rows n count = fill_by_all (rank (graph_of_rows rows) 0) (replicate n 1000000) (length rows) 0 (length-replicate n 1000000 ∙ count) (λ k lt. get_or-replicate n k 1000000 0 (omega (arith, lt, count)))

pub shares-count : (rows : List (List (ℕ × ℕ))) (i : ℕ) → length (shares_at rows i) ≡ length rows
shares-count rows i = length-map-range_with_len (λ u. share (out_degree u (graph_of_rows rows).edges) (rank (graph_of_rows rows) i u)) 0 (length rows)
