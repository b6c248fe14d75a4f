use Rattle.std.proofs.Common.{◌≡◌, ◌∙◌, ◌-◌, ◌<◌, ap, arith, length, map, subst}
use Rattle.std.specs.List.{range_with_len}
use Rattle.std.proofs.lemmas.Slice.Zip.{AllZip-map}
use Rattle.lama_model.specs.Row.{row_at, AreTargetsBelow}
use Rattle.rayon.specs.Numbers.{nat_range}
use Rattle.rayon.proofs.Reducing.{Reduces-elim}
use Rattle.rayon.proofs.ToStd.{nat_range-All}
use Rattle.lama_rank.specs.Counts.{of_one}
use Rattle.lama_rank.proofs.Counting.{AreSummed, none-summed, more-summed, both-summed, vertices-are, edges-are, greatest-is, sinks-are}
use Rattle.lama_rank.proofs.degree_totals.degrees.Goals as goal

pub reduce-requires-clause-ready : goal.reduce-requires-clause-ready
reduce-requires-clause-ready g c =
    let ends = c.into_par_iter.ensures in
    let from = ap (λ r. r.start) c.with_min_len.ensures.base ∙ ends.0 in
    let to = ap (λ r. r.end) c.with_min_len.ensures.base ∙ ends.1 in
    let n = c.count.ensures.count in
    let inside = nat_range-All (λ i. i < length (g.R.Rows.rows c.args.rows.now)) 0 c.count.result (λ i low high. omega (arith, high, n)) in
    λ lives outlive. rw (c.map.ensures.base, c.map.ensures.f, from, to) (λ k d lt. (inside k d lt, λ y p. tt))

pub returns-clause-vertices : goal.returns-clause-vertices
returns-clause-vertices g c =
    let rows = g.R.Rows.rows c.args.rows.now in
    let ends = c.into_par_iter.ensures in
    let from = ap (λ r. r.start) c.with_min_len.ensures.base ∙ ends.0 in
    let to = ap (λ r. r.end) c.with_min_len.ensures.base ∙ ends.1 in
    let n = c.count.ensures.count in
    let below : AreTargetsBelow (length rows) rows = subst (λ n. AreTargetsBelow n rows) n c.count.ensures.targets in
    let done = rw (c.map.ensures.base, c.map.ensures.f) at c.reduce.ensures in
    let size : c.count.result - 0 ≡ length rows = omega (arith, n) in
    let places = done.1.1 ∙ ((λ i. nat_range (from i) (to i)) ∙ ap (range_with_len 0) size) in
    let items = AllZip-map (λ v. of_one (length (row_at rows v))) done.1.0 done.0 done.1.2 ∙ ap (map (λ v. of_one (length (row_at rows v)))) places in
    let summed = subst (λ ts. AreSummed ts c.reduce.result) items (Reduces-elim _ _ AreSummed none-summed (λ xs a x r h is. more-summed xs a x r h is) (λ xs ys a b r h k is. both-summed xs ys a b r h k is) done.0 c.reduce.result done.2) in
    vertices-are rows below c.requires.vertices c.requires.edges c.reduce.result summed

pub returns-clause-edges : goal.returns-clause-edges
returns-clause-edges g c =
    let rows = g.R.Rows.rows c.args.rows.now in
    let ends = c.into_par_iter.ensures in
    let from = ap (λ r. r.start) c.with_min_len.ensures.base ∙ ends.0 in
    let to = ap (λ r. r.end) c.with_min_len.ensures.base ∙ ends.1 in
    let n = c.count.ensures.count in
    let below : AreTargetsBelow (length rows) rows = subst (λ n. AreTargetsBelow n rows) n c.count.ensures.targets in
    let done = rw (c.map.ensures.base, c.map.ensures.f) at c.reduce.ensures in
    let size : c.count.result - 0 ≡ length rows = omega (arith, n) in
    let places = done.1.1 ∙ ((λ i. nat_range (from i) (to i)) ∙ ap (range_with_len 0) size) in
    let items = AllZip-map (λ v. of_one (length (row_at rows v))) done.1.0 done.0 done.1.2 ∙ ap (map (λ v. of_one (length (row_at rows v)))) places in
    let summed = subst (λ ts. AreSummed ts c.reduce.result) items (Reduces-elim _ _ AreSummed none-summed (λ xs a x r h is. more-summed xs a x r h is) (λ xs ys a b r h k is. both-summed xs ys a b r h k is) done.0 c.reduce.result done.2) in
    edges-are rows below c.requires.vertices c.requires.edges c.reduce.result summed

pub returns-clause-greatest : goal.returns-clause-greatest
returns-clause-greatest g c =
    let rows = g.R.Rows.rows c.args.rows.now in
    let ends = c.into_par_iter.ensures in
    let from = ap (λ r. r.start) c.with_min_len.ensures.base ∙ ends.0 in
    let to = ap (λ r. r.end) c.with_min_len.ensures.base ∙ ends.1 in
    let n = c.count.ensures.count in
    let below : AreTargetsBelow (length rows) rows = subst (λ n. AreTargetsBelow n rows) n c.count.ensures.targets in
    let done = rw (c.map.ensures.base, c.map.ensures.f) at c.reduce.ensures in
    let size : c.count.result - 0 ≡ length rows = omega (arith, n) in
    let places = done.1.1 ∙ ((λ i. nat_range (from i) (to i)) ∙ ap (range_with_len 0) size) in
    let items = AllZip-map (λ v. of_one (length (row_at rows v))) done.1.0 done.0 done.1.2 ∙ ap (map (λ v. of_one (length (row_at rows v)))) places in
    let summed = subst (λ ts. AreSummed ts c.reduce.result) items (Reduces-elim _ _ AreSummed none-summed (λ xs a x r h is. more-summed xs a x r h is) (λ xs ys a b r h k is. both-summed xs ys a b r h k is) done.0 c.reduce.result done.2) in
    greatest-is rows below c.requires.vertices c.requires.edges c.reduce.result summed

pub returns-clause-sinks : goal.returns-clause-sinks
returns-clause-sinks g c =
    let rows = g.R.Rows.rows c.args.rows.now in
    let ends = c.into_par_iter.ensures in
    let from = ap (λ r. r.start) c.with_min_len.ensures.base ∙ ends.0 in
    let to = ap (λ r. r.end) c.with_min_len.ensures.base ∙ ends.1 in
    let n = c.count.ensures.count in
    let below : AreTargetsBelow (length rows) rows = subst (λ n. AreTargetsBelow n rows) n c.count.ensures.targets in
    let done = rw (c.map.ensures.base, c.map.ensures.f) at c.reduce.ensures in
    let size : c.count.result - 0 ≡ length rows = omega (arith, n) in
    let places = done.1.1 ∙ ((λ i. nat_range (from i) (to i)) ∙ ap (range_with_len 0) size) in
    let items = AllZip-map (λ v. of_one (length (row_at rows v))) done.1.0 done.0 done.1.2 ∙ ap (map (λ v. of_one (length (row_at rows v)))) places in
    let summed = subst (λ ts. AreSummed ts c.reduce.result) items (Reduces-elim _ _ AreSummed none-summed (λ xs a x r h is. more-summed xs a x r h is) (λ xs ys a b r h k is. both-summed xs ys a b r h k is) done.0 c.reduce.result done.2) in
    sinks-are rows below c.requires.vertices c.requires.edges c.reduce.result summed
