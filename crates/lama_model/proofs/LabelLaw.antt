-- The labels that are computed are the least vertices that are joined, and no other list is.
use Rattle.std.proofs.Common.{◌≡◌, ◌∙◌, ℕ, ◌+◌, ◌<◌, ◌≤◌, ◌⊎◌, inl, inr, List, [], ◌∷◌, length, Bool, true, false, Option, None, Some, refl, sym, ap, subst, arith, true≢false}
use Rattle.std.specs.Prelude.{◌==◌, ◌||◌, is_some, slice_index}
use Rattle.std.specs.Option.{unwrap_or}
use Rattle.std.specs.List.{range_with_len}
use Rattle.std.proofs.lemmas.Bool.{cases_lt}
use Rattle.std.proofs.lemmas.Bool.Decides.{nat_tests}
use Rattle.std.proofs.lemmas.List.{length-map, ext_get_or}
use Rattle.std.proofs.lemmas.List.FromFn.{length-range_with_len, get_or-map-range_with_len}
use Rattle.lama_base.specs.declared.Edge.{Edge}
use Rattle.lama_model.specs.Graph.{Graph, IsGraph, joins}
use Rattle.lama_model.specs.Levels.{leads, IsWalk, IsLevel, level, levels, first_from}
use Rattle.lama_model.specs.Labels.{both_ways, AreJoined, IsLabel, AreLabels, AreFirst, label, labels}
use Rattle.lama_model.proofs.LevelLaw.{any-found, and-left, and-right, IsFirst, first-is, levels_are}
use Rattle.lama_model.proofs.Joined.{both-leads, joined-self, joined-trans}

pub or-cases : (a b : Bool) → a || b ≡ true → (a ≡ true) ⊎ (b ≡ true)
or-cases true b e = inl refl
or-cases false b e = inr e

-- one vertex has one label
pub one-label : (g : Graph) (v l k : ℕ) → IsLabel g v l → IsLabel g v k → l ≡ k
one-label g v l k h h' = let a = h.least k h'.joined in let b = h'.least l h.joined in omega (arith, a, b)

module _ (g : Graph) (ends : (u v : ℕ) → leads g.edges u v ≡ true → (u < g.count) × (v < g.count)) where
  ends-both : (u v : ℕ) → leads (both_ways g).edges u v ≡ true → (u < g.count) × (v < g.count)
  ends-both u v e = by (or-cases (leads g.edges u v) (leads g.edges v u) (sym (both-leads g u v) ∙ e))
    where
      by : (leads g.edges u v ≡ true) ⊎ (leads g.edges v u ≡ true) → (u < g.count) × (v < g.count)
      by (inl h) = ends u v h
      by (inr h) = let w = ends v u h in (w.1, w.0)

  pub joined-below : (u v : ℕ) → v < g.count → AreJoined g u v → u < g.count
  joined-below u v lt h = by h.walk.vertices h.walk.walks
    where
      by : (vs : List ℕ) → IsWalk (both_ways g).edges u vs v → u < g.count
      by [] w = subst (λ k. k < g.count) (sym w) lt
      by (x ∷ vs) w = (ends-both u x w.0).0

  level-at : (s v : ℕ) → v < g.count → IsLevel (both_ways g).edges s v (level (both_ways g) s v)
  unfolding levels
  level-at s v lt =
      let h = levels_are (both_ways g) s (λ u w e. (ends-both u w e).0) in
      subst (IsLevel (both_ways g).edges s v) (get_or-map-range_with_len (level (both_ways g) s) 0 g.count v v None lt (let e : 0 + v ≡ v = omega arith in e)) (h.each v lt)

  pub label-is : (v : ℕ) → v < g.count → IsLabel g v (label g v)
  label-is v lt = by (first_from (λ u. is_some (level (both_ways g) u v)) 0 g.count) (first-is (λ u. is_some (level (both_ways g) u v)) 0 g.count)
    where
      walks : (u : ℕ) (o : Option ℕ) → IsLevel (both_ways g).edges u v o → is_some o ≡ true → AreJoined g u v
      walks u None h e = absurd (true≢false (sym e))
      walks u (Some n) h e = record { steps = n; walk = h.0 }

      none : (u : ℕ) (o : Option ℕ) → IsLevel (both_ways g).edges u v o → is_some o ≡ false → AreJoined g u v → ⊥
      none u None h e j = h j.steps j.walk
      none u (Some n) h e j = true≢false e

      by : (o : Option ℕ) → IsFirst (λ u. is_some (level (both_ways g) u v)) 0 g.count o → IsLabel g v (unwrap_or o v)
      by None f = absurd (none v (level (both_ways g) v v) (level-at v v lt) (f v (omega arith) (omega (arith, lt))) (joined-self g v))
      by (Some l) f = record {
        joined = walks l (level (both_ways g) l v) (level-at l v lt) f.passes;
        least = λ u j. at u j (cases_lt u l);
      }
        where
          at : (u : ℕ) → AreJoined g u v → (u < l) ⊎ (l ≤ u) → l ≤ u
          at u j (inl less) = absurd (none u (level (both_ways g) u v) (level-at u v lt) (f.first u (omega arith) less) j)
          at u j (inr le) = le

  pub labels_are : AreLabels g (labels g)
  unfolding labels
  labels_are = record {
    len = length-map (range_with_len 0 g.count) (label g) ∙ length-range_with_len 0 g.count;
    each = λ v lt. subst (IsLabel g v) (sym (get_or-map-range_with_len (label g) 0 g.count v v 0 lt (let e : 0 + v ≡ v = omega arith in e))) (label-is v lt);
  }

  -- a list of labels is the computed one
  pub labels-only : (ls : List ℕ) → AreLabels g ls → ls ≡ labels g
  labels-only ls h =
      let k = labels_are in
      ext_get_or 0 ls (labels g) (h.len ∙ sym k.len) (λ v lv. let lt : v < g.count = let n = h.len in omega (arith, lv, n) in one-label g v (slice_index ls v) (slice_index (labels g) v) (h.each v lt) (k.each v lt))

-- the ends of edges are vertices
pub graph-ends : (g : Graph) → IsGraph g → (u v : ℕ) → leads g.edges u v ≡ true → (u < g.count) × (v < g.count)
graph-ends g graph u v e =
    let f = any-found (joins u v) g.edges e in
    let from : f.one.source ≡ u = let h = and-left (f.one.source == u) (f.one.target == v) f.passes in grind (arith, nat_tests, h) in
    let to : f.one.target ≡ v = let h = and-right (f.one.source == u) (f.one.target == v) f.passes in grind (arith, nat_tests, h) in
    let ends = graph f.index f.one f.within in (
      subst (λ k. k < g.count) (ap (λ (e : Edge). e.source) (f.is f.one) ∙ from) ends.0,
      subst (λ k. k < g.count) (ap (λ (e : Edge). e.target) (f.is f.one) ∙ to) ends.1,
    )

-- the same labels where the rows are the same
module _ (g h : Graph) (same : (u v : ℕ) → leads g.edges u v ≡ leads h.edges u v) where
  walk-same : (vs : List ℕ) (u v : ℕ) → IsWalk (both_ways g).edges u vs v → IsWalk (both_ways h).edges u vs v
  walk-same [] u v w = w
  walk-same (x ∷ vs) u v w = (both-leads h u x ∙ ((λ j. sym (same u x) j || sym (same x u) j) ∙ (sym (both-leads g u x) ∙ w.0)), walk-same vs x v w.1)

  joined-same : (u v : ℕ) → AreJoined g u v → AreJoined h u v
  joined-same u v j = record { steps = j.steps; walk = record { vertices = j.walk.vertices; size = j.walk.size; walks = walk-same j.walk.vertices u v j.walk.walks } }

pub labels_same : (g h : Graph) → IsGraph h → g.count ≡ h.count → ((u v : ℕ) → leads g.edges u v ≡ leads h.edges u v) → labels g ≡ labels h
labels_same g h graph count same =
    let ends = graph-ends h graph in
    let k = labels_are g (λ u v e. let w = ends u v (sym (same u v) ∙ e) in (omega (arith, w, count), omega (arith, w, count))) in
    labels-only h ends (labels g) (record {
      len = k.len ∙ count;
      each = λ v lt.
          let l = k.each v (omega (arith, lt, count)) in
          record {
            joined = joined-same g h same (slice_index (labels g) v) v l.joined;
            least = λ u j. l.least u (joined-same h g (λ u v. sym (same u v)) u v j);
          };
    })

-- a label names its component
pub labels_first : (g : Graph) → ((u v : ℕ) → leads g.edges u v ≡ true → (u < g.count) × (v < g.count)) → (ls : List ℕ) → AreLabels g ls → AreFirst ls
labels_first g ends ls are = record {
  below = λ v lt. (of v lt).least v (joined-self g v);
  own = λ v lt.
      let l = of v lt in
      let there = joined-below g ends (slice_index ls v) v (let n = are.len in omega (arith, lt, n)) l.joined in
      let k = are.each (slice_index ls v) there in
      let le = k.least (slice_index ls v) (joined-self g (slice_index ls v)) in
      let ge = l.least (slice_index ls (slice_index ls v)) (joined-trans g (slice_index ls (slice_index ls v)) (slice_index ls v) v k.joined l.joined) in
      omega (arith, le, ge);
}
  where
    of : (v : ℕ) → v < length ls → IsLabel g v (slice_index ls v)
    of v lt = are.each v (let n = are.len in omega (arith, lt, n))
