-- What edges hand on, vertex by vertex, and how ranks add up.
use Rattle.std.proofs.Common.{◌≡◌, ◌∙◌, ℕ, zero, suc, ◌+◌, ◌*◌, ◌/◌, ◌<◌, ◌≤◌, ◌⊎◌, inl, inr, List, [], ◌∷◌, length, get_or, map, reverse, cond, eqb, Bool, true, false, refl, sym, ap, subst, arith}
use Rattle.std.specs.Prelude.{◌==◌, All, filter, sum, sum_by, count_by}
use Rattle.std.specs.List.{range_with_len}
use Rattle.std.proofs.Math.Nat.{mul-div-le, add-mul, one-mul}
use Rattle.std.proofs.lemmas.Bool.{cases_lt}
use Rattle.std.proofs.lemmas.Bool.Decides.{nat_tests}
use Rattle.std.proofs.lemmas.List.{length-map, length-reverse}
use Rattle.std.proofs.lemmas.List.FromFn.{length-range_with_len, get_or-range_with_len, length-map-range_with_len, get_or-map-range_with_len}
use Rattle.std.proofs.lemmas.List.Elements.{All-head, All-tail, All-filter}
use Rattle.std.proofs.lemmas.List.Sums.{sum_by-cons, sum_by_push, sum_by-le, sum_by-le-sum_by, sum-map, get_or-le-sum_by}
use Rattle.lama_base.specs.declared.Edge.{Edge}
use Rattle.lama_model.specs.Graph.{Graph, IsGraph}
use Rattle.lama_model.specs.Row.{row, leaving, AreSame}
use Rattle.lama_model.specs.Degrees.{out_degree, out_degrees}
use Rattle.lama_model.specs.Ranks.{rank_of_sum, rank, ranks}
use Rattle.lama_model.proofs.ChangeLaw.{reverse_one}
use Rattle.lama_model.proofs.Counting.{leaving-length, degrees-all}
use Rattle.lama_model.proofs.EdgeLemmas.{sum_by_two}

sum-none : (us : List ℕ) → sum_by (λ (u : ℕ). 0) us ≡ 0
sum-none [] = refl
sum-none (u ∷ us) = sum_by-cons (λ (u : ℕ). 0) u us ∙ (let rest = sum-none us in omega (arith, rest))

-- a number that stands at one place alone, before the range or in it
none-at : (k c a n : ℕ) → k < a → sum_by (λ u. cond (eqb k u) c 0) (range_with_len a n) ≡ 0
none-at k c a zero lt = refl
none-at k c a (suc n) lt =
    let ne : eqb k a ≡ false = grind (arith, nat_tests, lt) in
    sum_by-cons (λ u. cond (eqb k u) c 0) a (range_with_len (a + 1) n)
    ∙ ((λ j. cond (ne j) c 0 + none-at k c (a + 1) n (omega (arith, lt)) j) ∙ (let e : 0 + 0 ≡ 0 = omega arith in e))

one-at : (k c a n : ℕ) → a ≤ k → k < a + n → sum_by (λ u. cond (eqb k u) c 0) (range_with_len a n) ≡ c
one-at k c a zero le lt = absurd (omega (arith, le, lt))
one-at k c a (suc n) le lt =
    sum_by-cons (λ u. cond (eqb k u) c 0) a (range_with_len (a + 1) n)
    ∙ by (λ less. one-at k c (a + 1) n (omega (arith, less)) (omega (arith, lt))) (cases_lt a k)
  where
    by : (a < k → sum_by (λ u. cond (eqb k u) c 0) (range_with_len (a + 1) n) ≡ c) → (a < k) ⊎ (k ≤ a) → cond (eqb k a) c 0 + sum_by (λ u. cond (eqb k u) c 0) (range_with_len (a + 1) n) ≡ c
    by later (inl less) = let ne : eqb k a ≡ false = grind (arith, nat_tests, less) in (λ j. cond (ne j) c 0 + later less j) ∙ (let e : 0 + c ≡ c = omega arith in e)
    by later (inr more) =
        let same : eqb k a ≡ true = grind (arith, nat_tests, le, more) in
        (λ j. cond (same j) c 0 + none-at k c (a + 1) n (omega (arith, more)) j) ∙ (let e : c + 0 ≡ c = omega arith in e)

-- a sum over a list, by numbers of its elements
module _ {X : Type 0} (key : X → ℕ) (f : X → ℕ) where
  -- over those with that number
  abbrev pub keyed : ℕ → List X → ℕ
  keyed u xs = sum_by f (filter (λ x. key x == u) xs)

  keyed-cons : (u : ℕ) (x : X) (xs : List X) → keyed u (x ∷ xs) ≡ cond (eqb (key x) u) (f x) 0 + keyed u xs
  keyed-cons u x xs = by (eqb (key x) u)
    where
      by : (b : Bool) → sum_by f (cond b (x ∷ filter (λ x. key x == u) xs) (filter (λ x. key x == u) xs)) ≡ cond b (f x) 0 + keyed u xs
      by true = sum_by-cons f x (filter (λ x. key x == u) xs)
      by false = let e : keyed u xs ≡ 0 + keyed u xs = omega arith in e

  pub sum-keyed : (n : ℕ) (xs : List X) → All (λ x. key x < n) xs → sum_by (λ u. keyed u xs) (range_with_len 0 n) ≡ sum_by f xs
  sum-keyed n [] below = sum-none (range_with_len 0 n)
  sum-keyed n (x ∷ xs) below =
      sum_by_two (λ u. keyed u (x ∷ xs)) (λ u. cond (eqb (key x) u) (f x) 0) (λ u. keyed u xs) (λ u. keyed-cons u x xs) (range_with_len 0 n)
      ∙ ((λ j. one-at (key x) (f x) 0 n (omega arith) (let lt = All-head (λ x. key x < n) x xs below in omega (arith, lt)) j + sum-keyed n xs (All-tail (λ x. key x < n) x xs below) j)
      ∙ sym (sum_by-cons f x xs))

pub sum_by-reverse : {X : Type 0} (f : X → ℕ) (xs : List X) → sum_by f (reverse xs) ≡ sum_by f xs
sum_by-reverse f [] = refl
sum_by-reverse f (x ∷ xs) =
    ap (sum_by f) (reverse_one x xs)
    ∙ (sum_by_push f (reverse xs) x
    ∙ ((let rest = sum_by-reverse f xs in let e : sum_by f (reverse xs) + f x ≡ f x + sum_by f xs = omega (arith, rest) in e)
    ∙ sym (sum_by-cons f x xs)))

same-number : (a b : ℕ) → eqb a b ≡ true → a ≡ b
same-number a b h = grind (arith, nat_tests, h)

one-more : (n x : ℕ) → x + n * x ≡ (1 + n) * x
one-more n x = sym (add-mul 1 n x ∙ ap (λ k. k + n * x) (one-mul x))

-- what the edges of one vertex hand on, all of them and those to one vertex
module _ (f : ℕ → ℕ) (u : ℕ) where
  pub handed-by : (es : List Edge) → sum_by (λ e. f e.source) (filter (λ e. e.source == u) es) ≡ out_degree u es * f u
  handed-by [] = let e : 0 ≡ 0 * f u = omega arith in e
  handed-by (e ∷ es) = by (handed-by es) (eqb e.source u) refl ∙ sym (ap (λ n. n * f u) (sum_by-cons (λ (e : Edge). cond (eqb e.source u) 1 0) e es))
    where
      by : sum_by (λ e. f e.source) (filter (λ e. e.source == u) es) ≡ out_degree u es * f u
          → (b : Bool) → eqb e.source u ≡ b → sum_by (λ e. f e.source) (cond b (e ∷ filter (λ e. e.source == u) es) (filter (λ e. e.source == u) es)) ≡ (cond b 1 0 + out_degree u es) * f u
      by rest true h =
          sum_by-cons (λ (e : Edge). f e.source) e (filter (λ e. e.source == u) es)
          ∙ ((λ j. f (same-number e.source u h j) + rest j) ∙ one-more (out_degree u es) (f u))
      by rest false h = rest ∙ (let e : out_degree u es * f u ≡ (0 + out_degree u es) * f u = ap (λ n. n * f u) (let z : out_degree u es ≡ 0 + out_degree u es = omega arith in z) in e)

  module _ (v : ℕ) where
    pub handed-to : (es : List Edge) → sum_by (λ e. f e.source) (filter (λ e. e.source == u) (filter (λ e. e.target == v) es)) ≡ count_by (λ (p : ℕ × ℕ). p.0 == v) (leaving u es) * f u
    handed-to [] = let e : 0 ≡ 0 * f u = omega arith in e
    handed-to (e ∷ es) = by (handed-to es) (eqb e.source u) (eqb e.target v) refl refl
      where
        more : (n : ℕ) (c : Bool) → eqb e.target v ≡ c → cond c (f u) 0 + n * f u ≡ (cond (eqb e.target v) 1 0 + n) * f u
        more n true h = one-more n (f u) ∙ ap (λ b. (cond b 1 0 + n) * f u) (sym h)
        more n false h = (let e : 0 + n * f u ≡ n * f u = omega arith in e) ∙ (ap (λ k. k * f u) (let z : n ≡ 0 + n = omega arith in z) ∙ ap (λ b. (cond b 1 0 + n) * f u) (sym h))

        counted : count_by (λ (p : ℕ × ℕ). p.0 == v) ((e.target, e.weight) ∷ leaving u es) ≡ cond (eqb e.target v) 1 0 + count_by (λ (p : ℕ × ℕ). p.0 == v) (leaving u es)
        counted = sum_by-cons (λ (p : ℕ × ℕ). cond (eqb p.0 v) 1 0) (e.target, e.weight) (leaving u es)

        by : sum_by (λ e. f e.source) (filter (λ e. e.source == u) (filter (λ e. e.target == v) es)) ≡ count_by (λ (p : ℕ × ℕ). p.0 == v) (leaving u es) * f u
            → (b c : Bool) → eqb e.source u ≡ b → eqb e.target v ≡ c
            → sum_by (λ e. f e.source) (filter (λ e. e.source == u) (cond c (e ∷ filter (λ e. e.target == v) es) (filter (λ e. e.target == v) es)))
            ≡ count_by (λ (p : ℕ × ℕ). p.0 == v) (map (λ (e : Edge). (e.target, e.weight)) (cond b (e ∷ filter (λ e. e.source == u) es) (filter (λ e. e.source == u) es))) * f u
        by rest true true hb hc =
            ap (λ b. sum_by (λ (e : Edge). f e.source) (cond b (e ∷ filter (λ e. e.source == u) (filter (λ e. e.target == v) es)) (filter (λ e. e.source == u) (filter (λ e. e.target == v) es)))) hb
            ∙ (sum_by-cons (λ (e : Edge). f e.source) e (filter (λ e. e.source == u) (filter (λ e. e.target == v) es))
            ∙ ((λ j. f (same-number e.source u hb j) + rest j)
            ∙ (more (count_by (λ (p : ℕ × ℕ). p.0 == v) (leaving u es)) true hc ∙ sym (ap (λ n. n * f u) counted))))
        by rest true false hb hc =
            rest
            ∙ ((let e : count_by (λ (p : ℕ × ℕ). p.0 == v) (leaving u es) * f u ≡ 0 + count_by (λ (p : ℕ × ℕ). p.0 == v) (leaving u es) * f u = omega arith in e)
            ∙ (more (count_by (λ (p : ℕ × ℕ). p.0 == v) (leaving u es)) false hc ∙ sym (ap (λ n. n * f u) counted)))
        by rest false true hb hc = ap (λ b. sum_by (λ (e : Edge). f e.source) (cond b (e ∷ filter (λ e. e.source == u) (filter (λ e. e.target == v) es)) (filter (λ e. e.source == u) (filter (λ e. e.target == v) es)))) hb ∙ rest
        by rest false false hb hc = rest

-- the edges of a graph hand on to v what its vertices do, each along its row
pub handed-by-rows : (g : Graph) (f : ℕ → ℕ) (v : ℕ) → All (λ e. e.source < g.count) g.edges
    → sum_by (λ e. f e.source) (filter (λ e. e.target == v) g.edges) ≡ sum_by (λ u. count_by (λ (p : ℕ × ℕ). p.0 == v) (row g u) * f u) (range_with_len 0 g.count)
handed-by-rows g f v below =
    sym (sum-keyed (λ (e : Edge). e.source) (λ (e : Edge). f e.source) g.count (filter (λ e. e.target == v) g.edges) (filtered g.edges below))
    ∙ (λ j. sum_by (λ u. (handed-to f u v g.edges ∙ sym (ap (λ n. n * f u) (sum_by-reverse (λ (p : ℕ × ℕ). cond (eqb p.0 v) 1 0) (leaving u g.edges)))) j) (range_with_len 0 g.count))
  where
    filtered : (es : List Edge) → All (λ e. e.source < g.count) es → All (λ e. e.source < g.count) (filter (λ e. e.target == v) es)
    filtered es h = All-filter (λ (e : Edge). e.target == v) (λ (e : Edge). e.source < g.count) es h

-- rounding down loses and never gains
rounds-down : (s : ℕ → ℕ) (us : List ℕ) → 100 * sum_by (λ u. rank_of_sum (s u)) us ≤ 15000000 * length us + 85 * sum_by s us
rounds-down s [] = omega arith
rounds-down s (u ∷ us) =
    let rest = rounds-down s us in
    let mine = sum_by-cons (λ u. rank_of_sum (s u)) u us in
    let theirs = sum_by-cons s u us in
    let part = mul-div-le (85 * s u) 100 in
    omega (arith, rest, mine, theirs, part)

-- the ranks of a graph add up to no more than at first
module _ (g : Graph) (is : IsGraph g) where
  pub sources : All (λ e. e.source < g.count) g.edges
  sources = λ k d lt. (is k d lt).0

  targets : All (λ e. e.target < g.count) g.edges
  targets = λ k d lt. (is k d lt).1

  -- what is handed to v, where vertices have these ranks
  abbrev handed : (ℕ → ℕ) → ℕ → ℕ
  handed r v = sum_by (λ e. r e.source / out_degree e.source g.edges) (filter (λ e. e.target == v) g.edges)

  handed-le : (r : ℕ → ℕ) → sum_by (handed r) (range_with_len 0 g.count) ≤ sum_by r (range_with_len 0 g.count)
  handed-le r =
      let f : Edge → ℕ = λ e. r e.source / out_degree e.source g.edges in
      let all = sum-keyed (λ (e : Edge). e.target) f g.count g.edges targets ∙ sym (sum-keyed (λ (e : Edge). e.source) f g.count g.edges sources) in
      let each : (u : ℕ) → keyed (λ (e : Edge). e.source) f u g.edges ≤ r u =
      λ u. let e = handed-by (λ s. r s / out_degree s g.edges) u g.edges in let le = mul-div-le (r u) (out_degree u g.edges) in omega (arith, e, le) in
      let bound = sum_by-le-sum_by (λ u. keyed (λ (e : Edge). e.source) f u g.edges) r (range_with_len 0 g.count) each in
      subst (λ n. n ≤ sum_by r (range_with_len 0 g.count)) (sym all) bound

  sum-ranks : (i : ℕ) → sum_by (rank g i) (range_with_len 0 g.count) ≤ g.count * 1000000
  sum-ranks zero =
      let le = sum_by-le (rank g 0) 1000000 (range_with_len 0 g.count) (λ k d lt. omega arith) in
      let n = length-range_with_len 0 g.count in
      subst (λ n. sum_by (rank g 0) (range_with_len 0 g.count) ≤ n * 1000000) n le
  sum-ranks (suc i) =
      let before = sum-ranks i in
      let all = handed-le (rank g i) in
      let le = rounds-down (handed (rank g i)) (range_with_len 0 g.count) in
      let n = length-range_with_len 0 g.count in
      omega (arith, before, all, le, n)

  pub ranks-bounded : (i : ℕ) → sum (ranks g i) ≤ g.count * 1000000
  unfolding ranks
  ranks-bounded i = subst (λ n. n ≤ g.count * 1000000) (sym (sum-map (rank g i) (range_with_len 0 g.count))) (sum-ranks i)

  -- so does each of them, and what is handed to a vertex
  at-most : (f : ℕ → ℕ) (v : ℕ) → v < g.count → f v ≤ sum_by f (range_with_len 0 g.count)
  at-most f v lt =
      let n = length-range_with_len 0 g.count in
      let here : get_or (range_with_len 0 g.count) v 0 ≡ v = get_or-range_with_len 0 g.count v 0 lt ∙ (let e : 0 + v ≡ v = omega arith in e) in
      subst (λ u. f u ≤ sum_by f (range_with_len 0 g.count)) here (get_or-le-sum_by f (range_with_len 0 g.count) v 0 (omega (arith, lt, n)))

  pub handed-bounded : (i v : ℕ) → v < g.count → sum_by (λ e. rank g i e.source / out_degree e.source g.edges) (filter (λ e. e.target == v) g.edges) ≤ g.count * 1000000
  handed-bounded i v lt = let one = at-most (handed (rank g i)) v lt in let le = handed-le (rank g i) in let all = sum-ranks i in omega (arith, one, le, all)

-- graphs with the same rows but for weights
pub record AreAlike (g h : Graph) : Type 0 where
  pub count : g.count ≡ h.count
  pub rows : (v : ℕ) → map (λ p. p.0) (row g v) ≡ map (λ p. p.0) (row h v)

-- which those are that are the same
pub same-but-weights : (g h : Graph) → AreSame g h → AreAlike g h
same-but-weights g h same = record { count = same.count; rows = λ v. ap (map (λ (p : ℕ × ℕ). p.0)) (same.rows v) }

-- the out-degrees of a graph add up to its edges
pub edges-added : (g : Graph) → All (λ e. e.source < g.count) g.edges → length g.edges ≡ sum (out_degrees g)
unfolding out_degrees
edges-added g below =
    sym (degrees-all (map (λ v. out_degree v g.edges) (range_with_len 0 g.count)) g.edges
    (λ v lt. get_or-map-range_with_len (λ v. out_degree v g.edges) 0 g.count v v 0 (let n = many in omega (arith, lt, n)) (let e : 0 + v ≡ v = omega arith in e))
    (subst (λ n. All (λ e. e.source < n) g.edges) (sym many) below))
  where
    many : length (map (λ v. out_degree v g.edges) (range_with_len 0 g.count)) ≡ g.count
    many = length-map-range_with_len (λ v. out_degree v g.edges) 0 g.count

pub degree-row : (g : Graph) (u : ℕ) → out_degree u g.edges ≡ length (row g u)
degree-row g u = sym (length-reverse (leaving u g.edges) ∙ leaving-length u g.edges)

hits-firsts : (v : ℕ) (ps : List (ℕ × ℕ)) → count_by (λ (p : ℕ × ℕ). p.0 == v) ps ≡ count_by (λ t. t == v) (map (λ (p : ℕ × ℕ). p.0) ps)
hits-firsts v [] = refl
hits-firsts v (p ∷ ps) =
    sum_by-cons (λ (p : ℕ × ℕ). cond (eqb p.0 v) 1 0) p ps
    ∙ (ap (λ n. cond (eqb p.0 v) 1 0 + n) (hits-firsts v ps)
    ∙ sym (sum_by-cons (λ t. cond (eqb t v) 1 0) p.0 (map (λ (p : ℕ × ℕ). p.0) ps)))

module _ (g h : Graph) (alike : AreAlike g h) where
  pub degrees-alike : (u : ℕ) → out_degree u g.edges ≡ out_degree u h.edges
  degrees-alike u =
      degree-row g u
      ∙ (sym (length-map (row g u) (λ (p : ℕ × ℕ). p.0))
      ∙ (ap length (alike.rows u)
      ∙ (length-map (row h u) (λ (p : ℕ × ℕ). p.0)
      ∙ sym (degree-row h u))))

  pub out-degrees-alike : out_degrees g ≡ out_degrees h
  unfolding out_degrees
  out-degrees-alike = λ j. map (λ v. degrees-alike v j) (range_with_len 0 (alike.count j))

  module _ (from-g : All (λ e. e.source < g.count) g.edges) (from-h : All (λ e. e.source < h.count) h.edges) where
    pub edges-alike : length g.edges ≡ length h.edges
    edges-alike = edges-added g from-g ∙ (ap sum out-degrees-alike ∙ sym (edges-added h from-h))

    rank-alike : (i v : ℕ) → rank g i v ≡ rank h i v
    rank-alike zero v = refl
    rank-alike (suc i) v =
        ap rank_of_sum (handed-by-rows g (λ u. rank g i u / out_degree u g.edges) v from-g
        ∙ ((λ j. sum_by (λ u. hits u j * (rank-alike i u j / degrees-alike u j)) (range_with_len 0 (alike.count j)))
        ∙ sym (handed-by-rows h (λ u. rank h i u / out_degree u h.edges) v from-h)))
      where
        hits : (u : ℕ) → count_by (λ (p : ℕ × ℕ). p.0 == v) (row g u) ≡ count_by (λ (p : ℕ × ℕ). p.0 == v) (row h u)
        hits u = hits-firsts v (row g u) ∙ (ap (count_by (λ t. t == v)) (alike.rows u) ∙ sym (hits-firsts v (row h u)))

    pub ranks-alike : (i : ℕ) → ranks g i ≡ ranks h i
    unfolding ranks
    ranks-alike i = λ j. map (λ v. rank-alike i v j) (range_with_len 0 (alike.count j))
