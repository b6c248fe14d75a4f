use Rattle.std.proofs.Common.{◌∙◌, ◌+◌, ◌++◌, ap, append_assoc, drop, get_or, map, sym}
use Rattle.std.specs.Prelude.{filter}
use Rattle.std.proofs.lemmas.List.{drop_more}
use Rattle.std.proofs.lemmas.List.Elements.{filter-append}
use Rattle.lama_model.specs.Row.{row_at}
use Rattle.lama_bfs.specs.Frontier.{is_unseen, targets_of, new_targets}
use Rattle.lama_bfs.proofs.frontier.push_rows.Goals as goal

pub loop-u-preserved : goal.loop-u-preserved
loop-u-preserved g c =
    let rows = g.R.Rows.rows c.args.rows.now in
    let seen = c.args.seen.now in
    let us = c.args.us.now in
    let i = c.loop-u.u-index in
    let found = c.loop-u.found in
    let rest = drop (i + 1) us in
    let row = map (λ p. p.0) (row_at rows (get_or us i 0)) in
    ap (λ l. l ++ new_targets rows seen rest) (c.in_ok-push_all_new.ensures ∙ ap (λ vs. found ++ filter (is_unseen seen) vs) c.row.ensures)
    ∙ (append_assoc found (filter (is_unseen seen) row) (new_targets rows seen rest)
    ∙ (ap (λ l. found ++ l) (sym (filter-append (is_unseen seen) row (targets_of rows rest)))
    ∙ (sym (ap (λ l. found ++ new_targets rows seen l) (drop_more us i 0 c.loop-u-test.true))
    ∙ c.loop-u.invariant)))
