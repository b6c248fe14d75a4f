-- What edges hand on, by the pieces of the vertices that they lead to.
use Rattle.std.proofs.Common.{◌≡◌, ◌∙◌, ℕ, zero, suc, ◌+◌, ◌*◌, ◌<◌, ◌≤◌, List, [], ◌∷◌, ◌++◌, length, map, cond, eqb, Bool, true, false, refl, sym, ap, arith}
use Rattle.std.specs.Prelude.{◌==◌, ◌&&◌, nat_le, nat_lt, All, filter, sum_by, count_by, slice_index}
use Rattle.std.specs.List.{range_with_len}
use Rattle.std.proofs.Math.Nat.{add-mul, one-mul}
use Rattle.std.proofs.lemmas.Bool.Decides.{nat_tests}
use Rattle.std.proofs.lemmas.List.Concat.{flat_map-cons}
use Rattle.std.proofs.lemmas.List.Elements.{All-nil, All-cons, All-head, All-tail, All-append, All-map, filter-append}
use Rattle.std.proofs.lemmas.List.Sums.{sum_by-cons, sum_by-append}
use Rattle.std.proofs.lemmas.List.FromFn.{length-range_with_len, get_or-range_with_len}
use Rattle.lama_model.specs.Row.{row_at, edges_from, AreTargetsBelow}
use Rattle.lama_rank.specs.Rounds.{handed, all_edges, edges_to, left_of, after_round, AreInPiece}
use Rattle.lama_model.specs.Ranks.{rank_of_sum}

-- the edges to some of the vertices, of two lists
pub to-append : (start end : ℕ) (es fs : List (ℕ × ℕ)) → edges_to start end (es ++ fs) ≡ edges_to start end es ++ edges_to start end fs
to-append start end es fs = filter-append (λ (e : ℕ × ℕ). nat_le start e.1 && nat_lt e.1 end) es fs

module _ (start end : ℕ) where
  -- those to one vertex of a piece are all that lead to it
  filter-part : (v : ℕ) → start ≤ v → v < end → (es : List (ℕ × ℕ)) → filter (λ e. e.1 == v) (edges_to start end es) ≡ filter (λ e. e.1 == v) es
  filter-part v le lt [] = refl
  filter-part v le lt (e ∷ es) = by (nat_le start e.1 && nat_lt e.1 end) refl (eqb e.1 v) refl (filter-part v le lt es)
    where
      by : (b : Bool) → (nat_le start e.1 && nat_lt e.1 end) ≡ b → (c : Bool) → eqb e.1 v ≡ c → filter (λ e. e.1 == v) (edges_to start end es) ≡ filter (λ e. e.1 == v) es
          → filter (λ e. e.1 == v) (cond b (e ∷ edges_to start end es) (edges_to start end es)) ≡ cond c (e ∷ filter (λ e. e.1 == v) es) (filter (λ e. e.1 == v) es)
      by true hb c hc rest =
          ap (λ b. cond b (e ∷ filter (λ (e : ℕ × ℕ). e.1 == v) (edges_to start end es)) (filter (λ (e : ℕ × ℕ). e.1 == v) (edges_to start end es))) hc
          ∙ ap (λ l. cond c (e ∷ l) l) rest
      by false hb true hc rest = absurd (grind (arith, nat_tests, hb, hc, le, lt))
      by false hb false hc rest = rest

  pub handed-part : (shares : List ℕ) (es : List (ℕ × ℕ)) (v : ℕ) → start ≤ v → v < end → handed shares (edges_to start end es) v ≡ handed shares es v
  handed-part shares es v le lt = ap (sum_by (λ (e : ℕ × ℕ). slice_index shares e.0)) (filter-part v le lt es)

  ends-part : (count : ℕ) (es : List (ℕ × ℕ)) → All (λ e. (e.0 < count) × (e.1 < count)) es → All (λ e. (e.0 < count) × (start ≤ e.1) × (e.1 < end)) (edges_to start end es)
  ends-part count [] below = All-nil (λ (e : ℕ × ℕ). (e.0 < count) × (start ≤ e.1) × (e.1 < end))
  ends-part count (e ∷ es) below =
      by (nat_le start e.1 && nat_lt e.1 end) refl (All-head (λ (e : ℕ × ℕ). (e.0 < count) × (e.1 < count)) e es below).0
      (ends-part count es (All-tail (λ (e : ℕ × ℕ). (e.0 < count) × (e.1 < count)) e es below))
    where
      by : (b : Bool) → (nat_le start e.1 && nat_lt e.1 end) ≡ b → e.0 < count → All (λ e. (e.0 < count) × (start ≤ e.1) × (e.1 < end)) (edges_to start end es)
          → All (λ e. (e.0 < count) × (start ≤ e.1) × (e.1 < end)) (cond b (e ∷ edges_to start end es) (edges_to start end es))
      by true h lt rest =
          let le : start ≤ e.1 = grind (arith, nat_tests, h) in
          let above : e.1 < end = grind (arith, nat_tests, h) in
          All-cons (λ (e : ℕ × ℕ). (e.0 < count) × (start ≤ e.1) × (e.1 < end)) e (edges_to start end es) (lt, le, above) rest
      by false h lt rest = rest

  -- the edges to a piece hand on no more than all do
  pub in-piece : (count : ℕ) (shares : List ℕ) (es : List (ℕ × ℕ)) → All (λ e. (e.0 < count) × (e.1 < count)) es → end ≤ count
      → ((v : ℕ) → v < count → handed shares es v ≤ 4194304000000) → AreInPiece count start end shares (edges_to start end es)
  in-piece count shares es below within few = record {
    ends = ends-part count es below;
    few = λ v le lt. let same = handed-part shares es v le lt in let f = few v (omega (arith, lt, within)) in omega (arith, same, f);
  }

-- what a round leaves of vertices to which two lists of edges hand on the same
pub after-same : (last : Bool) (degrees shares : List ℕ) (es fs : List (ℕ × ℕ)) (a k : ℕ) → ((v : ℕ) → a ≤ v → v < a + k → handed shares es v ≡ handed shares fs v)
    → after_round last degrees shares es (range_with_len a k) ≡ after_round last degrees shares fs (range_with_len a k)
after-same last degrees shares es fs a zero same = refl
after-same last degrees shares es fs a (suc k) same =
    λ j. left_of last (slice_index degrees a) (rank_of_sum (same a (omega arith) (omega arith) j)) ∷ after-same last degrees shares es fs (a + 1) k (λ v le lt. same v (omega (arith, le)) (omega (arith, lt))) j

-- the edges of rows go from vertices that are there to such
row-ends : (n u : ℕ) (row : List (ℕ × ℕ)) → u < n → All (λ (p : ℕ × ℕ). p.0 < n) row → All (λ (e : ℕ × ℕ). (e.0 < n) × (e.1 < n)) (map (λ (p : ℕ × ℕ). (u, p.0)) row)
row-ends n u row lt below = All-map (λ (e : ℕ × ℕ). (e.0 < n) × (e.1 < n)) (λ (p : ℕ × ℕ). (u, p.0)) row (λ k d there. (lt, below k d there))

some-ends : (rows : List (List (ℕ × ℕ))) → AreTargetsBelow (length rows) rows → (us : List ℕ) → All (λ u. u < length rows) us → All (λ e. (e.0 < length rows) × (e.1 < length rows)) (edges_from rows us)
some-ends rows below [] within = All-nil (λ (e : ℕ × ℕ). (e.0 < length rows) × (e.1 < length rows))
some-ends rows below (u ∷ us) within =
    let lt = All-head (λ u. u < length rows) u us within in
    All-append (λ (e : ℕ × ℕ). (e.0 < length rows) × (e.1 < length rows)) (map (λ p. (u, p.0)) (row_at rows u)) (edges_from rows us)
    (row-ends (length rows) u (row_at rows u) lt (below u [] lt)) (some-ends rows below us (All-tail (λ u. u < length rows) u us within))

pub all-ends : (rows : List (List (ℕ × ℕ))) → AreTargetsBelow (length rows) rows → All (λ e. (e.0 < length rows) × (e.1 < length rows)) (all_edges rows)
all-ends rows below = some-ends rows below (range_with_len 0 (length rows)) (λ k d lt. let n = length-range_with_len 0 (length rows) in let here = get_or-range_with_len 0 (length rows) k d (omega (arith, lt, n)) in omega (arith, lt, n, here))

-- once more
one-more : (n x : ℕ) → x + n * x ≡ (1 + n) * x
one-more n x = sym (add-mul 1 n x ∙ ap (λ k. k + n * x) (one-mul x))

-- what edges hand on to v, source by source
row-handed : (shares : List ℕ) (u v : ℕ) (row : List (ℕ × ℕ)) → handed shares (map (λ p. (u, p.0)) row) v ≡ count_by (λ (p : ℕ × ℕ). p.0 == v) row * slice_index shares u
row-handed shares u v [] = let e : 0 ≡ 0 * slice_index shares u = omega arith in e
row-handed shares u v (p ∷ row) = by (eqb p.0 v) refl (row-handed shares u v row)
  where
    by : (b : Bool) → eqb p.0 v ≡ b → handed shares (map (λ p. (u, p.0)) row) v ≡ count_by (λ (p : ℕ × ℕ). p.0 == v) row * slice_index shares u
        → sum_by (λ (e : ℕ × ℕ). slice_index shares e.0) (cond b ((u, p.0) ∷ filter (λ (e : ℕ × ℕ). e.1 == v) (map (λ p. (u, p.0)) row)) (filter (λ (e : ℕ × ℕ). e.1 == v) (map (λ p. (u, p.0)) row)))
        ≡ count_by (λ (p : ℕ × ℕ). p.0 == v) (p ∷ row) * slice_index shares u
    by true h rest =
        sum_by-cons (λ (e : ℕ × ℕ). slice_index shares e.0) (u, p.0) (filter (λ (e : ℕ × ℕ). e.1 == v) (map (λ p. (u, p.0)) row))
        ∙ (ap (λ n. slice_index shares u + n) rest
        ∙ (one-more (count_by (λ (p : ℕ × ℕ). p.0 == v) row) (slice_index shares u)
        ∙ sym (ap (λ n. n * slice_index shares u) (sum_by-cons (λ (p : ℕ × ℕ). cond (eqb p.0 v) 1 0) p row ∙ ap (λ b. cond b 1 0 + count_by (λ (p : ℕ × ℕ). p.0 == v) row) h))))
    by false h rest =
        rest
        ∙ ap (λ n. n * slice_index shares u)
        ((let e : count_by (λ (p : ℕ × ℕ). p.0 == v) row ≡ 0 + count_by (λ (p : ℕ × ℕ). p.0 == v) row = omega arith in e)
        ∙ sym (sum_by-cons (λ (p : ℕ × ℕ). cond (eqb p.0 v) 1 0) p row ∙ ap (λ b. cond b 1 0 + count_by (λ (p : ℕ × ℕ). p.0 == v) row) h))

pub handed-pairs : (rows : List (List (ℕ × ℕ))) (shares : List ℕ) (v : ℕ) (us : List ℕ)
    → handed shares (edges_from rows us) v ≡ sum_by (λ u. count_by (λ (p : ℕ × ℕ). p.0 == v) (row_at rows u) * slice_index shares u) us
handed-pairs rows shares v [] = refl
handed-pairs rows shares v (u ∷ us) =
    ap (sum_by (λ (e : ℕ × ℕ). slice_index shares e.0)) (ap (filter (λ (e : ℕ × ℕ). e.1 == v)) (flat_map-cons (λ u. map (λ p. (u, p.0)) (row_at rows u)) u us) ∙ filter-append (λ (e : ℕ × ℕ). e.1 == v) (map (λ p. (u, p.0)) (row_at rows u)) (edges_from rows us))
    ∙ (sum_by-append (λ (e : ℕ × ℕ). slice_index shares e.0) (filter (λ (e : ℕ × ℕ). e.1 == v) (map (λ p. (u, p.0)) (row_at rows u))) (filter (λ (e : ℕ × ℕ). e.1 == v) (edges_from rows us))
    ∙ ((λ j. row-handed shares u v (row_at rows u) j + handed-pairs rows shares v us j)
    ∙ sym (sum_by-cons (λ u. count_by (λ (p : ℕ × ℕ). p.0 == v) (row_at rows u) * slice_index shares u) u us)))
