use Rattle.std.proofs.Common.{◌≡◌, ◌∙◌, ◌+◌, ◌<◌, length, get_or, ap, sym, arith}
use Rattle.std.proofs.lemmas.Bool.{false≢true}
use Rattle.std.proofs.lemmas.List.{length-map}
use Rattle.std.proofs.lemmas.List.Sums.{sum_by_more, sum_by_more_le}
use Rattle.lama_model.specs.Change.{RowChange}
use Rattle.lama_delta.specs.Seen.{seen_row, seen_rows}
use Rattle.lama_snapshot.proofs.ChainLemmas.{get-map}
use Rattle.lama_snapshot.proofs.apply.edges_at_most.Goals as goal

pub returns-then-total-most : goal.returns-then-total-most
returns-then-total-most c =
    let r = seen_row c.row-item.result in
    let rows = seen_rows c.args.rows.now in
    let lt : c.loop-row.row-index < length rows = let n = length-map c.args.rows.now seen_row in let t = c.loop-row-test.true in omega (arith, n, t) in
    let is : get_or rows c.loop-row.row-index r ≡ r = get-map seen_row c.args.rows.now c.loop-row.row-index c.row-item.result r c.loop-row-test.true ∙ ap seen_row (sym c.row-item.is) in
    let le = sum_by_more_le (λ (x : RowChange). length x.added + length x.killed + length x.set) rows c.loop-row.row-index r lt in
    let e = ap (λ (x : RowChange). length x.added + length x.killed + length x.set) is in
    let total = c.loop-row.invariant.total in
    let a = c.len.ensures in let k = c.len-in-loop-row.ensures in let s = c.len-in-loop-row-2.ensures in
    let more = c.if-total-most.true in
    (λ t. absurd (false≢true t), λ h. absurd (omega (arith, le, e, total, a, k, s, more, h)))

pub loop-row-preserved : goal.loop-row-preserved
loop-row-preserved c =
    let r = seen_row c.row-item.result in
    let rows = seen_rows c.args.rows.now in
    let lt : c.loop-row.row-index < length rows = let n = length-map c.args.rows.now seen_row in let t = c.loop-row-test.true in omega (arith, n, t) in
    let is : get_or rows c.loop-row.row-index r ≡ r = get-map seen_row c.args.rows.now c.loop-row.row-index c.row-item.result r c.loop-row-test.true ∙ ap seen_row (sym c.row-item.is) in
    let step = sum_by_more (λ (x : RowChange). length x.added + length x.killed + length x.set) rows c.loop-row.row-index r lt in
    let e = ap (λ (x : RowChange). length x.added + length x.killed + length x.set) is in
    let total = c.loop-row.invariant.total in
    let a = c.len.ensures in let k = c.len-in-loop-row.ensures in let s = c.len-in-loop-row-2.ensures in
    record { total = omega (arith, step, e, total, a, k, s); within = c.if-total-most.false }
