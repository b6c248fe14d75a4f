use Rattle.std.proofs.Common.{◌≡◌, ◌∙◌, ◌+◌, ◌<◌, [], ◌∷◌, ◌++◌, length, get_or, take, ap, sym, subst, arith}
use Rattle.std.proofs.lemmas.List.{take_more, length-map}
use Rattle.std.proofs.lemmas.List.Sums.{get_or-le-sum_by, sum_by-take-le}
use Rattle.lama_edges.specs.declared.records.VertexRec.{VertexRec}
use Rattle.lama_model.specs.Change.{RowChange}
use Rattle.lama_delta.specs.Seen.{seen_row, seen_rows}
use Rattle.lama_snapshot.specs.Snap.{no_record}
use Rattle.lama_snapshot.specs.Written.{IsWritten, IsWithin, slots_of}
use Rattle.lama_snapshot.proofs.ChainLemmas.{get-map}
use Rattle.lama_snapshot.proofs.WriteLemmas.{record-before, written-more, written-slots, rising-below, room-at, added-at, pages-le}
use Rattle.lama_snapshot.proofs.level.write_rows.Goals as goal

pub write_row-requires-clause-source : goal.write_row-requires-clause-source
write_row-requires-clause-source g c =
    let r = seen_row c.row-item.result in
    let lt : c.loop-row.row-index < length (seen_rows c.args.rows.now) = let n = length-map c.args.rows.now seen_row in let t = c.loop-row-test.true in omega (arith, n, t) in
    let is : get_or (seen_rows c.args.rows.now) c.loop-row.row-index r ≡ r = get-map seen_row c.args.rows.now c.loop-row.row-index c.row-item.result r c.loop-row-test.true ∙ ap seen_row (sym c.row-item.is) in
    let s = c.requires.sources c.loop-row.row-index r lt in
    let e = ap (λ (x : RowChange). x.source) is in
    let len = c.loop-row.invariant.written.len in
    omega (arith, s, e, len)

pub write_row-requires-clause-room : goal.write_row-requires-clause-room
write_row-requires-clause-room g c =
    let r = seen_row c.row-item.result in
    let rows = seen_rows c.args.rows.now in
    let lt : c.loop-row.row-index < length rows = let n = length-map c.args.rows.now seen_row in let t = c.loop-row-test.true in omega (arith, n, t) in
    let is : get_or rows c.loop-row.row-index r ≡ r = get-map seen_row c.args.rows.now c.loop-row.row-index c.row-item.result r c.loop-row-test.true ∙ ap seen_row (sym c.row-item.is) in
    let room = room-at rows c.loop-row.row-index r lt is in
    let size = written-slots c.args.number c.args.edit.now.items (take c.loop-row.row-index rows) c.loop-row.writer.slots c.loop-row.writer.weights c.loop-row.edit.items c.loop-row.invariant.written in
    let all = c.requires.room in
    omega (arith, room, size, all)

pub write_row-requires-clause-degree : goal.write_row-requires-clause-degree
write_row-requires-clause-degree g c =
    let r = seen_row c.row-item.result in
    let rows = seen_rows c.args.rows.now in
    let i = c.loop-row.row-index in
    let lt : i < length rows = let n = length-map c.args.rows.now seen_row in let t = c.loop-row-test.true in omega (arith, n, t) in
    let is : get_or rows i r ≡ r = get-map seen_row c.args.rows.now i c.row-item.result r c.loop-row-test.true ∙ ap seen_row (sym c.row-item.is) in
    let s = c.requires.sources i r lt in
    let e = ap (λ (x : RowChange). x.source) is in
    let len = c.loop-row.invariant.written.len in
    let at : r.source < length c.args.edit.now.items = omega (arith, s, e) in
    let old = record-before c.args.number c.args.edit.now.items (take i rows) r c.loop-row.writer.slots c.loop-row.writer.weights c.loop-row.edit.items c.loop-row.invariant.written at (rising-below rows i r c.requires.rising lt is) in
    let added = added-at rows i r lt is in
    let all = c.requires.added in
    let few = c.requires.degrees in
    let one = get_or-le-sum_by (λ (x : VertexRec). x.degree) c.args.edit.now.items r.source no_record at in
    let same = ap (λ (x : VertexRec). x.degree) old in
    omega (arith, added, all, few, one, same)

pub write_row-requires-clause-killed : goal.write_row-requires-clause-killed
write_row-requires-clause-killed g c =
    let r = seen_row c.row-item.result in
    let rows = seen_rows c.args.rows.now in
    let i = c.loop-row.row-index in
    let lt : i < length rows = let n = length-map c.args.rows.now seen_row in let t = c.loop-row-test.true in omega (arith, n, t) in
    let is : get_or rows i r ≡ r = get-map seen_row c.args.rows.now i c.row-item.result r c.loop-row-test.true ∙ ap seen_row (sym c.row-item.is) in
    let s = c.requires.sources i r lt in
    let e = ap (λ (x : RowChange). x.source) is in
    let len = c.loop-row.invariant.written.len in
    let at : r.source < length c.args.edit.now.items = omega (arith, s, e) in
    let old = record-before c.args.number c.args.edit.now.items (take i rows) r c.loop-row.writer.slots c.loop-row.writer.weights c.loop-row.edit.items c.loop-row.invariant.written at (rising-below rows i r c.requires.rising lt is) in
    let within = subst (IsWithin c.args.edit.now.items) is (c.requires.killed i r lt) in
    let same = ap (λ (x : VertexRec). x.degree) old in
    omega (arith, within, same)

pub returns-in_err-write_row-clause-made : goal.returns-in_err-write_row-clause-made
returns-in_err-write_row-clause-made g c =
    let r = seen_row c.row-item.result in
    let rows = seen_rows c.args.rows.now in
    let lt : c.loop-row.row-index < length rows = let n = length-map c.args.rows.now seen_row in let t = c.loop-row-test.true in omega (arith, n, t) in
    let is : get_or rows c.loop-row.row-index r ≡ r = get-map seen_row c.args.rows.now c.loop-row.row-index c.row-item.result r c.loop-row-test.true ∙ ap seen_row (sym c.row-item.is) in
    let room = room-at rows c.loop-row.row-index r lt is in
    let size = written-slots c.args.number c.args.edit.now.items (take c.loop-row.row-index rows) c.loop-row.writer.slots c.loop-row.writer.weights c.loop-row.edit.items c.loop-row.invariant.written in
    pages-le c.loop-row.pages c.write_row.new.pages c.args.pages.now (length c.loop-row.writer.slots) (length c.loop-row.writer.slots + length c.row-item.result.added.items + 1) (slots_of rows) c.loop-row.row-index (length c.args.rows.now)
    c.write_row.ensures.at_most c.loop-row.invariant.made (omega (arith, room, size)) c.loop-row-test.true

pub loop-row-preserved : goal.loop-row-preserved
loop-row-preserved g c =
    let r = seen_row c.row-item.result in
    let rows = seen_rows c.args.rows.now in
    let i = c.loop-row.row-index in
    let lt : i < length rows = let n = length-map c.args.rows.now seen_row in let t = c.loop-row-test.true in omega (arith, n, t) in
    let is : get_or rows i r ≡ r = get-map seen_row c.args.rows.now i c.row-item.result r c.loop-row-test.true ∙ ap seen_row (sym c.row-item.is) in
    let s = c.requires.sources i r lt in
    let e = ap (λ (x : RowChange). x.source) is in
    let len = c.loop-row.invariant.written.len in
    let at : r.source < length c.args.edit.now.items = omega (arith, s, e) in
    let old = record-before c.args.number c.args.edit.now.items (take i rows) r c.loop-row.writer.slots c.loop-row.writer.weights c.loop-row.edit.items c.loop-row.invariant.written at (rising-below rows i r c.requires.rising lt is) in
    let more : take i rows ++ r ∷ [] ≡ take (i + 1) rows = sym (take_more rows i r lt ∙ ap (λ x. take i rows ++ x ∷ []) is) in
    let within = subst (IsWithin c.args.edit.now.items) is (c.requires.killed i r lt) in
    let same = ap (λ (x : VertexRec). x.degree) old in
    let ok = c.in_ok-write_row.ensures in
    let w = written-more c.args.number c.args.edit.now.items (take i rows) r c.loop-row.writer.slots c.write_row.new.writer.slots c.loop-row.writer.weights c.write_row.new.writer.weights c.loop-row.edit.items c.write_row.new.edit.items
    c.loop-row.invariant.written at (rising-below rows i r c.requires.rising lt is) (omega (arith, within, same)) ok.wrote.slots_are ok.wrote.weights_are ok.records in
    record {
      even = ok.wrote.even;
      written = subst (λ xs. IsWritten c.args.number c.args.edit.now.items xs c.write_row.new.writer.slots c.write_row.new.writer.weights c.write_row.new.edit.items) more w;
      made = let made = ok.made in let inv = c.loop-row.invariant.made in omega (arith, made, inv);
    }

pub returns-clause-made : goal.returns-clause-made
returns-clause-made g c =
    let rows = seen_rows c.args.rows.now in
    let size = written-slots c.args.number c.args.edit.now.items (take c.loop-row.row-index rows) c.loop-row.writer.slots c.loop-row.writer.weights c.loop-row.edit.items c.loop-row.invariant.written in
    let le = sum_by-take-le (λ (x : RowChange). length x.added + 1) rows c.loop-row.row-index in
    let made = c.loop-row.invariant.made in
    let i = c.loop-row.auto.row-index-end in
    omega (arith, size, le, made, i)
