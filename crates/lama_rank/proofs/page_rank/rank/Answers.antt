use Rattle.std.proofs.Common.{◌≡◌, ◌∙◌, ◌+◌, ◌-◌, ◌≤◌, false, true, ap, arith, length, map, subst, sym}
use Rattle.std.proofs.lemmas.Result.{IfOk-weaker}
use Rattle.std.specs.List.{range_with_len}
use Rattle.lama_model.specs.Row.{graph_of_rows, AreTargetsBelow}
use Rattle.lama_model.specs.Ranks.{ranks}
use Rattle.lama_rank.specs.Rounds.{handed, share, all_edges, after_round, blocks_of, AreByTarget}
use Rattle.lama_rank.proofs.Recursion.{shares_at, degrees-are, first-shares, shares-count, handed-few, next-shares, last-ranks, all-first}
use Rattle.lama_rank.proofs.page_rank.rank.Goals as goal

pub returns-then-rounds-eq0 : goal.returns-then-rounds-eq0
returns-then-rounds-eq0 g c =
    let rows = g.R.Rows.rows c.args.rows.now in
    c.in_ok-vec.ensures.items_if_clones_equal (λ y e. e)
    ∙ (all-first rows c.count-count.result c.count-count.ensures.count
    ∙ ap (ranks (graph_of_rows rows)) (sym c.if-rounds-eq0.true))

pub loop-left-init : goal.loop-left-init
loop-left-init g c =
    let rows = g.R.Rows.rows c.args.rows.now in
    let none : 0 ≡ c.args.rounds - 1 - (c.args.rounds - 1) = omega arith in
    record {
      within = omega arith;
      shares =
          c.in_ok-shares.ensures
          ∙ (ap (map (λ d. share d 1000000)) (c.deref.ensures.value ∙ (c.in_ok-degrees.ensures ∙ degrees-are rows))
          ∙ (first-shares rows ∙ ap (shares_at rows) none));
    }

pub round-requires-clause-lists : goal.round-requires-clause-lists
round-requires-clause-lists g c = λ lives outlive.
    subst (λ ps. AreByTarget (g.R.Rows.rows c.args.rows.now) (blocks_of c.if-count-lt-FEW.blocks (map (λ part. map (λ list. list.items) part.items) ps))) (sym c.deref-in-loop-left.ensures.value) c.in_ok-parts.ensures.edges

pub round-requires-clause-shares : goal.round-requires-clause-shares
round-requires-clause-shares g c = λ lives outlive.
    let rows = g.R.Rows.rows c.args.rows.now in
    ap length (c.deref-in-loop-left-2.ensures.value ∙ c.loop-left.invariant.shares) ∙ shares-count rows (c.args.rounds - 1 - c.loop-left.left)

pub round-requires-clause-few : goal.round-requires-clause-few
round-requires-clause-few g c = λ lives outlive v lt.
    let rows = g.R.Rows.rows c.args.rows.now in
    let n = c.count-count.ensures.count in
    let below : AreTargetsBelow (length rows) rows = subst (λ n. AreTargetsBelow n rows) n c.count-count.ensures.targets in
    subst (λ l. handed l (all_edges rows) v ≤ 4194304000000) (sym (c.deref-in-loop-left-2.ensures.value ∙ c.loop-left.invariant.shares))
    (handed-few rows below (c.args.rounds - 1 - c.loop-left.left) v c.requires.vertices lt)

pub loop-left-preserved : goal.loop-left-preserved
loop-left-preserved g c =
    let rows = g.R.Rows.rows c.args.rows.now in
    let n = c.count-count.ensures.count in
    let below : AreTargetsBelow (length rows) rows = subst (λ n. AreTargetsBelow n rows) n c.count-count.ensures.targets in
    let some = c.loop-left-test.true in
    let within = c.loop-left.invariant.within in
    let i = c.args.rounds - 1 - c.loop-left.left in
    let next : i + 1 ≡ c.args.rounds - 1 - (c.loop-left.left - 1) = omega (arith, some, within) in
    let degrees = c.deref-in-loop-left-3.ensures.value ∙ (c.in_ok-degrees.ensures ∙ degrees-are rows) in
    let shares = c.deref-in-loop-left-2.ensures.value ∙ c.loop-left.invariant.shares in
    record {
      within = omega (arith, within);
      shares =
          c.in_ok-shares-2.ensures
          ∙ ((λ j. after_round false (degrees j) (shares j) (all_edges rows) (range_with_len 0 (length rows)))
          ∙ (next-shares rows below i ∙ ap (shares_at rows) next));
    }

pub round-requires-2-clause-lists : goal.round-requires-2-clause-lists
round-requires-2-clause-lists g c = λ lives outlive.
    subst (λ ps. AreByTarget (g.R.Rows.rows c.args.rows.now) (blocks_of c.if-count-lt-FEW.blocks (map (λ part. map (λ list. list.items) part.items) ps))) (sym c.deref-2.ensures.value) c.in_ok-parts.ensures.edges

pub round-requires-2-clause-shares : goal.round-requires-2-clause-shares
round-requires-2-clause-shares g c = λ lives outlive.
    let rows = g.R.Rows.rows c.args.rows.now in
    ap length (c.deref-3.ensures.value ∙ c.loop-left.invariant.shares) ∙ shares-count rows (c.args.rounds - 1 - c.loop-left.left)

pub round-requires-2-clause-few : goal.round-requires-2-clause-few
round-requires-2-clause-few g c = λ lives outlive v lt.
    let rows = g.R.Rows.rows c.args.rows.now in
    let n = c.count-count.ensures.count in
    let below : AreTargetsBelow (length rows) rows = subst (λ n. AreTargetsBelow n rows) n c.count-count.ensures.targets in
    subst (λ l. handed l (all_edges rows) v ≤ 4194304000000) (sym (c.deref-3.ensures.value ∙ c.loop-left.invariant.shares))
    (handed-few rows below (c.args.rounds - 1 - c.loop-left.left) v c.requires.vertices lt)

pub returns : goal.returns
returns g c =
    let rows = g.R.Rows.rows c.args.rows.now in
    let n = c.count-count.ensures.count in
    let below : AreTargetsBelow (length rows) rows = subst (λ n. AreTargetsBelow n rows) n c.count-count.ensures.targets in
    let done = c.loop-left-test.false in
    let some = c.if-rounds-eq0.false in
    let i = c.args.rounds - 1 - c.loop-left.left in
    let last : i + 1 ≡ c.args.rounds = omega (arith, done, some) in
    let degrees = c.deref-4.ensures.value ∙ (c.in_ok-degrees.ensures ∙ degrees-are rows) in
    let shares = c.deref-3.ensures.value ∙ c.loop-left.invariant.shares in
    IfOk-weaker c.round-2.result _ (λ v. v.items ≡ ranks (graph_of_rows rows) c.args.rounds)
    (λ v is.
    is
    ∙ ((λ j. after_round true (degrees j) (shares j) (all_edges rows) (range_with_len 0 (length rows)))
    ∙ (last-ranks rows below i ∙ ap (ranks (graph_of_rows rows)) last)))
    c.round-2.ensures
