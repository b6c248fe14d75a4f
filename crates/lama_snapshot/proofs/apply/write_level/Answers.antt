use Rattle.std.proofs.Common.{◌≡◌, ◌∙◌, ℕ, ◌+◌, ◌-◌, ◌≤◌, List, ◌++◌, length, replicate, ap, sym, subst, arith}
use Rattle.std.specs.Prelude.{sum_by}
use Rattle.std.proofs.lemmas.List.{length-map}
use Rattle.lama_edges.specs.declared.records.VertexRec.{VertexRec}
use Rattle.lama_edges.specs.declared.records.Slot.{Slot}
use Rattle.lama_model.specs.Change.{RowChange}
use Rattle.lama_delta.specs.Seen.{seen_row, seen_rows}
use Rattle.lama_snapshot.specs.Snap.{no_record}
use Rattle.lama_snapshot.specs.Written.{IsWritten, slots_of, pages_for}
use Rattle.lama_snapshot.proofs.Limits.{slots-sum, rows-said, level-le}
use Rattle.lama_snapshot.proofs.WriteLemmas.{written-slots}
use Rattle.lama_snapshot.proofs.apply.write_level.Goals as goal

pub write_rows-requires-clause-room : goal.write_rows-requires-clause-room
write_rows-requires-clause-room g c =
    let change = c.args.change.now in
    let is = ap slots_of c.rows-rows.ensures.rows in
    let s = slots-sum change.rows in
    let r = rows-said change.count change.rows c.rows-rows.ensures.valid.rows in
    let few = c.requires.said in
    omega (arith, is, s, r, few)

pub returns-in_err-writer-clause-made : goal.returns-in_err-writer-clause-made
returns-in_err-writer-clause-made g c =
    level-le c.extend_filled.new.pages c.write_rows.new.pages c.args.pages.now c.args.change.now c.extend_filled.ensures.made
    (subst (λ k. c.write_rows.new.pages ≤ c.extend_filled.new.pages + k + pages_for (slots_of c.args.change.now.rows)) (sym (length-map c.rows-rows.result.now seen_row) ∙ ap length c.rows-rows.ensures.rows)
    (subst (λ (xs : List RowChange). c.write_rows.new.pages ≤ c.extend_filled.new.pages + length c.rows-rows.result.now + pages_for (slots_of xs)) c.rows-rows.ensures.rows c.write_rows.ensures.made))

pub returns-in_err-edges-clause-made : goal.returns-in_err-edges-clause-made
returns-in_err-edges-clause-made g c =
    level-le c.extend_filled.new.pages c.write_rows.new.pages c.args.pages.now c.args.change.now c.extend_filled.ensures.made
    (subst (λ k. c.write_rows.new.pages ≤ c.extend_filled.new.pages + k + pages_for (slots_of c.args.change.now.rows)) (sym (length-map c.rows-rows.result.now seen_row) ∙ ap length c.rows-rows.ensures.rows)
    (subst (λ (xs : List RowChange). c.write_rows.new.pages ≤ c.extend_filled.new.pages + length c.rows-rows.result.now + pages_for (slots_of xs)) c.rows-rows.ensures.rows c.write_rows.ensures.made))

pub returns-in_err-vertices-clause-made : goal.returns-in_err-vertices-clause-made
returns-in_err-vertices-clause-made g c =
    level-le c.extend_filled.new.pages c.write_rows.new.pages c.args.pages.now c.args.change.now c.extend_filled.ensures.made
    (subst (λ k. c.write_rows.new.pages ≤ c.extend_filled.new.pages + k + pages_for (slots_of c.args.change.now.rows)) (sym (length-map c.rows-rows.result.now seen_row) ∙ ap length c.rows-rows.ensures.rows)
    (subst (λ (xs : List RowChange). c.write_rows.new.pages ≤ c.extend_filled.new.pages + length c.rows-rows.result.now + pages_for (slots_of xs)) c.rows-rows.ensures.rows c.write_rows.ensures.made))

pub returns-clause-made : goal.returns-clause-made
returns-clause-made g c =
    level-le c.extend_filled.new.pages c.write_rows.new.pages c.args.pages.now c.args.change.now c.extend_filled.ensures.made
    (subst (λ k. c.write_rows.new.pages ≤ c.extend_filled.new.pages + k + pages_for (slots_of c.args.change.now.rows)) (sym (length-map c.rows-rows.result.now seen_row) ∙ ap length c.rows-rows.ensures.rows)
    (subst (λ (xs : List RowChange). c.write_rows.new.pages ≤ c.extend_filled.new.pages + length c.rows-rows.result.now + pages_for (slots_of xs)) c.rows-rows.ensures.rows c.write_rows.ensures.made))

pub returns-clause-level : goal.returns-clause-level
returns-clause-level g c =
    let change = c.args.change.now in
    let w = c.in_ok-writer.ensures in
    let rows = c.rows-rows.ensures.rows in
    let number : c.change.inside.number ≡ change.number = ap (λ x. x.number) c.change.view_is in
    let count : c.change.inside.count ≡ change.count = ap (λ x. x.count) c.change.view_is in
    let before : c.extend_filled.new.self.items ≡ c.args.vertices.now ++ replicate (change.count - length c.args.vertices.now) no_record =
    c.in_ok-extend_filled.ensures.items
    ∙ (ap (λ xs. xs ++ replicate (c.change.inside.count - c.len.result) no_record) c.in_ok-edit.ensures.items
    ∙ (ap (λ k. c.args.vertices.now ++ replicate (k - c.len.result) no_record) count ∙ ap (λ k. c.args.vertices.now ++ replicate (change.count - k) no_record) c.len.ensures)) in
    let P : ℕ × List VertexRec × List RowChange × List Slot × List ℕ × List VertexRec → Type 0 = λ p. IsWritten p.0 p.1 p.2 p.3 p.4 p.5 in
    let size = written-slots c.change.inside.number c.extend_filled.new.self.items (seen_rows c.rows-rows.result.now) c.in_ok-writer.writer.slots c.in_ok-writer.writer.weights c.write_rows.new.edit.items w.written in
    let len = w.even.len in
    let s = slots-sum (seen_rows c.rows-rows.result.now) in
    let n = length-map c.rows-rows.result.now seen_row in
    let a = ap (λ (xs : List RowChange). sum_by (λ (x : RowChange). length x.added) xs) rows in
    let r = rows-said change.count change.rows c.rows-rows.ensures.valid.rows in
    let m = ap length rows in
    let few = c.requires.said in
    let two = c.edges_of-added.ensures in
    let added = two.added in let killed = two.killed in
    let k = ap (λ (xs : List RowChange). sum_by (λ (x : RowChange). length x.killed) xs) rows in
    let e = ap length c.in_ok-edges.ensures.slots in
    record {
      written = subst P (λ j. (number j, before j, rows j, sym c.in_ok-edges.ensures.slots j, sym c.in_ok-edges.ensures.weights j, sym c.in_ok-vertices.ensures j)) w.written;
      weights = e ∙ (sym w.even.weights ∙ sym (ap length c.in_ok-edges.ensures.weights));
      few = omega (arith, e, size, s, n, a, r, m, few);
      added = omega (arith, added, a);
      killed = omega (arith, killed, k);
      valid = c.rows-rows.ensures.valid;
    }
