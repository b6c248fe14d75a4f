use Rattle.std.proofs.Common.{◌≡◌, ◌∙◌, take, drop, ◌-◌, get_or, ap, sym}
use Rattle.std.specs.Prelude.{filter}
use Rattle.lama_model.specs.Row.{row_at}
use Rattle.lama_delta.specs.Seen.{seen_row, seen_rows}
use Rattle.lama_delta.specs.EdgeWrites.{is_from}
use Rattle.lama_delta.specs.RowWrites.{change_of, change_at}
use Rattle.lama_delta.proofs.Groups.{no_write, group-leaving, grouped-more, grouped-all}
use Rattle.lama_delta.proofs.RowLemmas.{quiet}
use Rattle.lama_delta.proofs.grouping.group_by_source.Goals as goal

pub loop-start-preserved : goal.loop-start-preserved
loop-start-preserved g c =
    let rows = g.R.Rows.rows c.args.rows.now in
    let writes = c.args.writes.now in
    let start = c.loop-start.start in
    let end = c.group_end-end.result in
    let e = c.group_end-end.ensures in
    let s = (get_or writes start no_write).source in
    let all : filter (is_from s) writes ≡ take (end - start) (drop start writes) = group-leaving writes c.requires start end no_write e.after e.within (c.loop-start.invariant.next no_write c.loop-start-test.true) (e.same no_write) (e.other no_write) in
    let is : seen_row c.in_ok-change.change ≡ change_at rows writes s = c.in_ok-change.ensures ∙ ap (λ ws. change_of s ws (row_at rows s)) (sym all) in
    grouped-more (change_at rows writes) writes (quiet rows writes) c.requires start end (seen_rows c.loop-start.changes.items) (seen_rows c.push_some.new.changes.items) (seen_row c.in_ok-change.change) c.loop-start.invariant e.after e.within e.same e.other
    is c.in_ok-push_some.ensures

pub returns : goal.returns
returns g c = grouped-all (change_at (g.R.Rows.rows c.args.rows.now) c.args.writes.now) c.args.writes.now (quiet (g.R.Rows.rows c.args.rows.now) c.args.writes.now) c.requires c.loop-start.start (seen_rows c.loop-start.changes.items) c.loop-start.invariant c.loop-start-test.false
