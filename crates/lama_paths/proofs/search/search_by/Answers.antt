use Rattle.std.proofs.Common.{◌≡◌, ◌∙◌, List, Option, length, arith, sym, subst, heap_items}
use Rattle.lama_model.specs.declared.reach.Reach.{Reach}
use Rattle.lama_model.specs.Row.{row_at, AreTargetsBelow}
use Rattle.lama_model.specs.Distances.{IsCertified}
use Rattle.lama_paths.specs.Search.{told, bids}
use Rattle.lama_paths.proofs.Settling.{taken-now}
use Rattle.lama_paths.proofs.Found.{certified, found-is}
use Rattle.lama_paths.proofs.Told.{length-bids}
use Rattle.lama_paths.proofs.search.search_by.Goals as goal

pub settle-requires-clause-taken : goal.settle-requires-clause-taken
settle-requires-clause-taken g c = (
  c.args.source,
  taken-now g.S.Ord.cmp g.S.Sum.value g.met.S.Sum.ordered (g.R.Rows.rows c.args.rows.now) c.args.source (told g.S.Sum.value c.loop-nearest.search.reach.items) c.loop-nearest.search.settled.items (heap_items c.loop-nearest.search.offers) (heap_items c.pop.new.self) c.in-Some.field-0
      c.loop-nearest.invariant.between c.in-Some.ensures.permutation (c.in-Some.ensures.below_top c.loop-nearest.invariant.heap),
)

pub settle-requires-clause-heap : goal.settle-requires-clause-heap
settle-requires-clause-heap g c = (c.in-Some.ensures.heap_order c.loop-nearest.invariant.heap).0

pub loop-nearest-preserved : goal.loop-nearest-preserved
loop-nearest-preserved g c =
    let kept = c.in_ok-settle.ensures {u = tt} in
    let taken = taken-now g.S.Ord.cmp g.S.Sum.value g.met.S.Sum.ordered (g.R.Rows.rows c.args.rows.now) c.args.source (told g.S.Sum.value c.loop-nearest.search.reach.items) c.loop-nearest.search.settled.items (heap_items c.loop-nearest.search.offers) (heap_items c.pop.new.self) c.in-Some.field-0
    c.loop-nearest.invariant.between c.in-Some.ensures.permutation (c.in-Some.ensures.below_top c.loop-nearest.invariant.heap) in
    record {
      heap = kept.heap;
      between = kept.between c.args.source taken;
    }

pub returns-clause-found : goal.returns-clause-found
returns-clause-found g c =
    let rows = g.R.Rows.rows c.args.rows.now in
    let reach = told g.S.Sum.value c.loop-nearest.search.reach.items in
    let offers = bids g.S.Sum.value (heap_items c.loop-nearest.search.offers) in
    let none = c.in_default.ensures.none in
    let many = length-bids g.S.Sum.value (heap_items c.loop-nearest.search.offers) in
    let empty : length offers ≡ 0 = omega (arith, none, many, c.loop-nearest.search.offers.data.ok.0) in
    (c.in_ok-finish.ensures {u = tt}) ∙ found-is rows c.args.source reach c.loop-nearest.search.settled.items offers c.loop-nearest.invariant.between empty c.requires.vertices
    (subst (λ n. AreTargetsBelow n rows) c.count.ensures.count c.count.ensures.targets) c.requires.source

pub returns-clause-certified : goal.returns-clause-certified
returns-clause-certified g c =
    let rows = g.R.Rows.rows c.args.rows.now in
    let reach = told g.S.Sum.value c.loop-nearest.search.reach.items in
    let offers = bids g.S.Sum.value (heap_items c.loop-nearest.search.offers) in
    let none = c.in_default.ensures.none in
    let many = length-bids g.S.Sum.value (heap_items c.loop-nearest.search.offers) in
    let empty : length offers ≡ 0 = omega (arith, none, many, c.loop-nearest.search.offers.data.ok.0) in
    subst (λ (l : List (Option Reach)). IsCertified (row_at rows) (length rows) c.args.source l) (sym (c.in_ok-finish.ensures {u = tt}))
    (certified rows c.args.source reach c.loop-nearest.search.settled.items offers c.loop-nearest.invariant.between empty c.requires.vertices)
