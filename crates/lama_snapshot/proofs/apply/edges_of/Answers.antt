use Rattle.std.proofs.Common.{◌≡◌, ◌∙◌, ◌+◌, ◌<◌, ◌^◌, length, get_or, ap, sym, arith}
use Rattle.std.proofs.lemmas.List.{length-map}
use Rattle.std.proofs.lemmas.List.Sums.{sum_by_more, sum_by_more_le}
use Rattle.lama_model.specs.Change.{RowChange}
use Rattle.lama_delta.specs.Seen.{seen_row, seen_rows}
use Rattle.lama_snapshot.proofs.ChainLemmas.{get-map}
use Rattle.lama_snapshot.proofs.apply.edges_of.Goals as goal

pub overflow_cast-added : goal.overflow_cast-added
overflow_cast-added c =
    let r = seen_row c.row-item.result in
    let rows = seen_rows c.args.rows.now in
    let lt : c.loop-row.row-index < length rows = let n = length-map c.args.rows.now seen_row in let t = c.loop-row-test.true in omega (arith, n, t) in
    let is : get_or rows c.loop-row.row-index r ≡ r = get-map seen_row c.args.rows.now c.loop-row.row-index c.row-item.result r c.loop-row-test.true ∙ ap seen_row (sym c.row-item.is) in
    let le = sum_by_more_le (λ (x : RowChange). length x.added) rows c.loop-row.row-index r lt in
    let e = ap (λ (x : RowChange). length x.added) is in
    let sum = c.loop-row.invariant.added in
    let n = c.len.ensures in
    let few = c.requires in
    let below : c.len.result < 2 ^ 32 = omega (arith, le, e, sum, n, few) in
    record { fits = below }

pub overflow_add-added : goal.overflow_add-added
overflow_add-added c =
    let r = seen_row c.row-item.result in
    let rows = seen_rows c.args.rows.now in
    let lt : c.loop-row.row-index < length rows = let n = length-map c.args.rows.now seen_row in let t = c.loop-row-test.true in omega (arith, n, t) in
    let is : get_or rows c.loop-row.row-index r ≡ r = get-map seen_row c.args.rows.now c.loop-row.row-index c.row-item.result r c.loop-row-test.true ∙ ap seen_row (sym c.row-item.is) in
    let le = sum_by_more_le (λ (x : RowChange). length x.added) rows c.loop-row.row-index r lt in
    let e = ap (λ (x : RowChange). length x.added) is in
    let sum = c.loop-row.invariant.added in
    let n = c.len.ensures in
    let few = c.requires in
    let below : c.loop-row.added + c.len.result < 2 ^ 32 = omega (arith, le, e, sum, n, few) in
    record { fits = below }

pub overflow_cast-killed : goal.overflow_cast-killed
overflow_cast-killed c =
    let r = seen_row c.row-item.result in
    let rows = seen_rows c.args.rows.now in
    let lt : c.loop-row.row-index < length rows = let n = length-map c.args.rows.now seen_row in let t = c.loop-row-test.true in omega (arith, n, t) in
    let is : get_or rows c.loop-row.row-index r ≡ r = get-map seen_row c.args.rows.now c.loop-row.row-index c.row-item.result r c.loop-row-test.true ∙ ap seen_row (sym c.row-item.is) in
    let le = sum_by_more_le (λ (x : RowChange). length x.killed) rows c.loop-row.row-index r lt in
    let e = ap (λ (x : RowChange). length x.killed) is in
    let sum = c.loop-row.invariant.killed in
    let n = c.len-in-loop-row.ensures in
    let few = c.requires in
    let below : c.len-in-loop-row.result < 2 ^ 32 = omega (arith, le, e, sum, n, few) in
    record { fits = below }

pub overflow_add-killed : goal.overflow_add-killed
overflow_add-killed c =
    let r = seen_row c.row-item.result in
    let rows = seen_rows c.args.rows.now in
    let lt : c.loop-row.row-index < length rows = let n = length-map c.args.rows.now seen_row in let t = c.loop-row-test.true in omega (arith, n, t) in
    let is : get_or rows c.loop-row.row-index r ≡ r = get-map seen_row c.args.rows.now c.loop-row.row-index c.row-item.result r c.loop-row-test.true ∙ ap seen_row (sym c.row-item.is) in
    let le = sum_by_more_le (λ (x : RowChange). length x.killed) rows c.loop-row.row-index r lt in
    let e = ap (λ (x : RowChange). length x.killed) is in
    let sum = c.loop-row.invariant.killed in
    let n = c.len-in-loop-row.ensures in
    let few = c.requires in
    let below : c.loop-row.killed + c.len-in-loop-row.result < 2 ^ 32 = omega (arith, le, e, sum, n, few) in
    record { fits = below }

pub loop-row-preserved : goal.loop-row-preserved
loop-row-preserved c =
    let r = seen_row c.row-item.result in
    let rows = seen_rows c.args.rows.now in
    let lt : c.loop-row.row-index < length rows = let n = length-map c.args.rows.now seen_row in let t = c.loop-row-test.true in omega (arith, n, t) in
    let is : get_or rows c.loop-row.row-index r ≡ r = get-map seen_row c.args.rows.now c.loop-row.row-index c.row-item.result r c.loop-row-test.true ∙ ap seen_row (sym c.row-item.is) in
    let step = sum_by_more (λ (x : RowChange). length x.added) rows c.loop-row.row-index r lt in
    let step2 = sum_by_more (λ (x : RowChange). length x.killed) rows c.loop-row.row-index r lt in
    let e = ap (λ (x : RowChange). length x.added) is in
    let e2 = ap (λ (x : RowChange). length x.killed) is in
    let a = c.len.ensures in let k = c.len-in-loop-row.ensures in
    let inv = c.loop-row.invariant.added in let inv2 = c.loop-row.invariant.killed in
    record { added = omega (arith, step, e, inv, a); killed = omega (arith, step2, e2, inv2, k) }
