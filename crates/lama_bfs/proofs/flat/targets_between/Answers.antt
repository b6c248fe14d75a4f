use Rattle.std.proofs.Common.{◌≡◌, ◌∙◌, ◌+◌, ◌-◌, ◌++◌, ap, append_assoc, arith, suc, sym}
use Rattle.std.specs.List.{range_with_len}
use Rattle.std.proofs.lemmas.List.{append-nil}
use Rattle.lama_model.specs.Row.{row_at}
use Rattle.lama_model.proofs.EdgePairs.{range-part}
use Rattle.lama_bfs.specs.Flat.{firsts}
use Rattle.lama_bfs.specs.Frontier.{targets_of}
use Rattle.lama_bfs.proofs.flat.targets_between.Goals as goal

pub loop-u-preserved : goal.loop-u-preserved
loop-u-preserved g c =
    let rows = g.R.Rows.rows c.args.rows.now in
    let u = c.loop-u.u in
    let e = c.args.end in
    let lt = c.loop-u-test.true in
    let step : e - u ≡ suc (e - (u + 1)) = omega (arith, lt) in
    let mine = firsts (row_at rows u) in
    let rest = targets_of rows (range_with_len (u + 1) (e - (u + 1))) in
    ap (λ l. l ++ rest) c.in_ok-push_targets.ensures
    ∙ (append_assoc c.loop-u.targets.items mine rest
    ∙ (sym (ap (λ k. c.loop-u.targets.items ++ targets_of rows (range_with_len u k)) step)
    ∙ c.loop-u.invariant))

pub returns : goal.returns
returns g c =
    let rows = g.R.Rows.rows c.args.rows.now in
    let over = c.loop-u-test.false in
    let none : c.args.end - c.loop-u.u ≡ 0 = omega (arith, over) in
    sym (append-nil c.loop-u.targets.items)
    ∙ (sym (ap (λ k. c.loop-u.targets.items ++ targets_of rows (range_with_len c.loop-u.u k)) none)
    ∙ (c.loop-u.invariant
    ∙ sym (ap (targets_of rows) (range-part c.args.start c.args.end _ c.requires.order c.requires.within))))
