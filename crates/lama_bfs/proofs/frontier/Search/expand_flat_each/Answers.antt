use Rattle.std.proofs.Common.{◌∙◌, ◌+◌, ap, drop, get_or, map, sym}
use Rattle.std.proofs.lemmas.List.{drop_more}
use Rattle.lama_model.specs.Row.{row_at}
use Rattle.lama_bfs.specs.Frontier.{targets_of, see_all}
use Rattle.lama_bfs.proofs.Seen.{Seen, see-append}
use Rattle.lama_bfs.proofs.frontier.Search.expand_flat_each.Goals as goal

pub loop-u-preserved : goal.loop-u-preserved
loop-u-preserved g c =
    let rows = g.R.Rows.rows c.args.rows.now in
    let us = c.args.us.now in
    let i = c.loop-u.u-index in
    let u = get_or us i 0 in
    let s : Seen = (c.loop-u.self.seen.items, c.loop-u.self.next) in
    ap (see_all (targets_of rows (drop (i + 1) us))) (c.in_ok-mark_list.ensures ∙ ap (λ l. see_all l s) c.row.ensures)
    ∙ (sym (see-append (map (λ p. p.0) (row_at rows u)) (targets_of rows (drop (i + 1) us)) s)
    ∙ (sym (ap (λ l. see_all (targets_of rows l) s) (drop_more us i 0 c.loop-u-test.true))
    ∙ c.loop-u.invariant))
