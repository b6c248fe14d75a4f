-- The labels that stand where nothing is lowered any more are the least vertices.
use Rattle.std.proofs.Common.{◌≡◌, ◌∙◌, ℕ, zero, suc, ◌+◌, ◌<◌, ◌≤◌, ◌⊎◌, inl, inr, List, [], ◌∷◌, length, get_or, map, Bool, true, false, refl, sym, ap, subst, arith}
use Rattle.std.specs.Prelude.{◌==◌, ◌||◌, All, slice_index}
use Rattle.std.specs.List.{list_any, range_with_len}
use Rattle.std.proofs.lemmas.Bool.{cases_lt}
use Rattle.std.proofs.lemmas.Bool.Decides.{nat_tests}
use Rattle.std.proofs.lemmas.List.Elements.{All-head, All-tail, All-append, All-map}
use Rattle.std.proofs.lemmas.List.FromFn.{length-range_with_len, get_or-range_with_len}
use Rattle.lama_model.specs.Graph.{Graph}
use Rattle.lama_model.specs.Row.{row_at, graph_of_rows, AreTargetsBelow}
use Rattle.lama_model.proofs.RowsOfGraph.{row-of-rows}
use Rattle.lama_model.specs.Levels.{is_among, leads, IsWalk}
use Rattle.lama_model.proofs.LevelLaw.{Found, any-found}
use Rattle.lama_model.proofs.Leading.{leads-graph}
use Rattle.lama_model.proofs.LabelLaw.{or-cases, labels-only, joined-below}
use Rattle.lama_model.specs.Labels.{both_ways, AreJoined, AreLabels, labels}
use Rattle.lama_model.specs.Row.{edges_from}
use Rattle.lama_label.specs.Lowering.{AreLow, AreEdgesOf, IsEdgeSettled, AreSettled}
use Rattle.lama_model.proofs.Joined.{both-leads, joined-self, joined-edge}
use Rattle.lama_label.proofs.Lowered.{settled-edge}
use Rattle.lama_label.proofs.Rounds.{split-flat, unmap}

-- each vertex as its own label
pub first-low : (g : Graph) (ls : List ℕ) → ls ≡ range_with_len 0 g.count → AreLow g ls
first-low g ls is = record {
  len = ap length is ∙ length-range_with_len 0 g.count;
  each = λ v lt.
      let at : slice_index ls v ≡ v = ap (λ l. slice_index l v) is ∙ (get_or-range_with_len 0 g.count v 0 lt ∙ (let e : 0 + v ≡ v = omega arith in e)) in
      (omega (arith, at), subst (λ k. AreJoined g k v) (sym at) (joined-self g v));
}

module _ (rows : List (List (ℕ × ℕ))) (targets : AreTargetsBelow (length rows) rows) where
  abbrev g : Graph
  g = graph_of_rows rows

  leads-row : (u v : ℕ) → leads g.edges u v ≡ is_among v (map (λ p. p.0) (row_at rows u))
  leads-row u v = leads-graph g u v ∙ ap (λ r. is_among v (map (λ p. p.0) r)) (row-of-rows rows u)

  any-map : (v : ℕ) (ps : List (ℕ × ℕ)) → is_among v (map (λ p. p.0) ps) ≡ list_any (λ p. p.0 == v) ps
  any-map v [] = refl
  any-map v (p ∷ ps) = ap (λ b. (p.0 == v) || b) (any-map v ps)

  row-past : (rs : List (List (ℕ × ℕ))) (u : ℕ) → length rs ≤ u → row_at rs u ≡ []
  row-past [] u le = refl
  row-past (r ∷ rs) zero le = absurd (omega (arith, le))
  row-past (r ∷ rs) (suc u) le = row-past rs u (omega (arith, le))

  row-below : (u : ℕ) → All (λ p. p.0 < length rows) (row_at rows u)
  row-below u = of-row rows u targets
    where
      of-row : (rs : List (List (ℕ × ℕ))) (u : ℕ) → AreTargetsBelow (length rows) rs → All (λ p. p.0 < length rows) (row_at rs u)
      of-row [] u h k d lt = absurd (omega (arith, lt))
      of-row (r ∷ rs) zero h k d lt = All-head (λ (r : List (ℕ × ℕ)). All (λ p. p.0 < length rows) r) r rs h k d lt
      of-row (r ∷ rs) (suc u) h k d lt = of-row rs u (All-tail (λ (r : List (ℕ × ℕ)). All (λ p. p.0 < length rows) r) r rs h) k d lt

  -- a target of a row, and where it stands
  found : (u v : ℕ) → leads g.edges u v ≡ true → Found (λ p. p.0 == v) (row_at rows u)
  found u v e = any-found (λ (p : ℕ × ℕ). p.0 == v) (row_at rows u) (sym (any-map v (row_at rows u)) ∙ (sym (leads-row u v) ∙ e))

  pub row-ends : (u v : ℕ) → leads g.edges u v ≡ true → (u < g.count) × (v < g.count)
  row-ends u v e =
      let f = found u v e in
      let at : f.one.0 ≡ v = let h = f.passes in grind (arith, nat_tests, h) in
      (by (cases_lt u (length rows)) f.index f.within, subst (λ k. k < length rows) (ap (λ (p : ℕ × ℕ). p.0) (f.is f.one) ∙ at) (row-below u f.index f.one f.within))
    where
      by : (u < length rows) ⊎ (length rows ≤ u) → (k : ℕ) → k < length (row_at rows u) → u < length rows
      by (inl lt) k within = lt
      by (inr le) k within = let none = ap (λ (r : List (ℕ × ℕ)). length r) (row-past rows u le) in absurd (omega (arith, within, none))

  among-at : (ps : List (ℕ × ℕ)) (k : ℕ) (d : ℕ × ℕ) → k < length ps → is_among (get_or ps k d).0 (map (λ p. p.0) ps) ≡ true
  among-at [] k d lt = absurd (omega (arith, lt))
  among-at (p ∷ ps) zero d lt = let self : (p.0 == p.0) ≡ true = grind (arith, nat_tests) in ap (λ b. b || is_among p.0 (map (λ p. p.0) ps)) self
  among-at (p ∷ ps) (suc k) d lt = ap (λ b. (p.0 == (get_or ps k d).0) || b) (among-at ps k d (omega (arith, lt))) ∙ or-true (p.0 == (get_or ps k d).0)
    where
      or-true : (b : Bool) → b || true ≡ true
      or-true true = refl
      or-true false = refl

  -- the edges that leave vertices
  edges-of-some : (us : List ℕ) → All (λ u. u < length rows) us → AreEdgesOf g (edges_from rows us)
  edges-of-some [] h = λ k d lt. absurd (omega (arith, lt))
  edges-of-some (u ∷ us) h =
      All-append (λ e. (e.0 < g.count) × (e.1 < g.count) × AreJoined g e.0 e.1) (map (λ p. (u, p.0)) (row_at rows u)) (edges_from rows us)
      (All-map (λ e. (e.0 < g.count) × (e.1 < g.count) × AreJoined g e.0 e.1) (λ (p : ℕ × ℕ). (u, p.0)) (row_at rows u)
      (λ i p li. (h 0 u (omega arith), row-below u i p li, joined-edge g u (get_or (row_at rows u) i p).0 (leads-row u (get_or (row_at rows u) i p).0 ∙ among-at (row_at rows u) i p li))))
      (edges-of-some us (λ k d lt. h (suc k) d (omega (arith, lt))))

  abbrev all : List ℕ
  all = range_with_len 0 (length rows)

  pub edges-of : AreEdgesOf g (edges_from rows all)
  edges-of = edges-of-some all (λ k d lt.
      let size = length-range_with_len 0 (length rows) in
      let within : k < length rows = omega (arith, lt, size) in
      let is = get_or-range_with_len 0 (length rows) k d within in
      omega (arith, is, within))

  module _ (ls : List ℕ) (low : AreLow g ls) (settled : AreSettled (edges_from rows all) ls) where
    settled-row : (u : ℕ) → u < length rows → All (λ p. IsEdgeSettled ls u p.0) (row_at rows u)
    settled-row u lt =
        let at : get_or all u u ≡ u = get_or-range_with_len 0 (length rows) u u lt ∙ (let z : 0 + u ≡ u = omega arith in z) in
        let size = length-range_with_len 0 (length rows) in
        let mine = split-flat (λ (e : ℕ × ℕ). IsEdgeSettled ls e.0 e.1) (λ u. map (λ (p : ℕ × ℕ). (u, p.0)) (row_at rows u)) all settled u u (omega (arith, lt, size)) in
        unmap (λ (e : ℕ × ℕ). IsEdgeSettled ls e.0 e.1) (λ (p : ℕ × ℕ). (u, p.0)) (row_at rows u) (subst (λ k. All (λ (e : ℕ × ℕ). IsEdgeSettled ls e.0 e.1) (map (λ (p : ℕ × ℕ). (k, p.0)) (row_at rows k))) at mine)

    same-edge : (u v : ℕ) → leads g.edges u v ≡ true → slice_index ls u ≡ slice_index ls v
    same-edge u v e =
        let ends = row-ends u v e in
        let f = found u v e in
        let at : f.one.0 ≡ v = let h = f.passes in grind (arith, nat_tests, h) in
        let edge : IsEdgeSettled ls u v = subst (IsEdgeSettled ls u) (ap (λ (p : ℕ × ℕ). p.0) (f.is f.one) ∙ at) (settled-row u ends.0 f.index f.one f.within) in
        settled-edge g ls low u v ends.0 ends.1 edge

    same-walk : (vs : List ℕ) (u v : ℕ) → IsWalk (both_ways g).edges u vs v → slice_index ls u ≡ slice_index ls v
    same-walk [] u v w = ap (slice_index ls) w
    same-walk (x ∷ vs) u v w = by (or-cases (leads g.edges u x) (leads g.edges x u) (sym (both-leads g u x) ∙ w.0)) ∙ same-walk vs x v w.1
      where
        by : (leads g.edges u x ≡ true) ⊎ (leads g.edges x u ≡ true) → slice_index ls u ≡ slice_index ls x
        by (inl h) = same-edge u x h
        by (inr h) = sym (same-edge x u h)

    pub settled-are : AreLabels g ls
    settled-are = record {
      len = low.len;
      each = λ v lt. record {
        joined = (low.each v lt).1;
        least = λ u j.
            let same = same-walk j.walk.vertices u v j.walk.walks in
            let le = (low.each u (joined-below g row-ends u v lt j)).0 in
            omega (arith, same, le);
      };
    }

    pub settled-labels : ls ≡ labels g
    settled-labels = labels-only g row-ends ls settled-are
