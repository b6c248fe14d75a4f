use Rattle.std.proofs.Common.{◌≡◌, ◌∙◌, ℕ, ◌+◌, ◌*◌, ◌/◌, ◌%◌, ◌<◌, ◌++◌, ◌∷◌, [], length, take, ap, sym, subst, arith, refl, cond, eqb, replicate}
use Rattle.std.proofs.lemmas.List.{take_all, length-take, length-take-le, length-append}
use Rattle.lama_edges.specs.declared.records.VertexRec.{VertexRec}
use Rattle.lama_edges.specs.declared.records.Slot.TheVariants.{End}
use Rattle.lama_model.specs.Row.{row_at, edges_in, AreTargetsBelow}
use Rattle.lama_snapshot.specs.Fragments.{fragment_slots, fragment_weights}
use Rattle.lama_snapshot.specs.BaseRows.{base_slots, base_weights, base_records}
use Rattle.lama_snapshot.proofs.RowFrom.{base_slots-more, base_weights-more, base_records-more, length-fragment, length-base_records}
use Rattle.lama_snapshot.proofs.BuildLemmas.{slots-up-to, slots-at-most, is-base, built, pages-next, pages-row, pages-record, pages-all, pages-marked, pages-step}
use Rattle.lama_snapshot.proofs.base.Base.build.Goals as goal

pub row-requires-clause-room : goal.row-requires-clause-room
row-requires-clause-room g c =
    let up = slots-up-to c.loop-v.writer.slots (g.R.Rows.rows c.args.rows.now) c.loop-v.v c.loop-v.invariant.slots (let n = c.count-count.ensures.count in let t = c.loop-v-test.true in omega (arith, n, t)) in
    let few = c.requires.edges in let vertices = c.requires.vertices in let n = c.count-count.ensures.count in let t = c.loop-v-test.true in
    omega (arith, up, few, vertices, n, t)

pub returns-in_err-len-clause-made : goal.returns-in_err-len-clause-made
returns-in_err-len-clause-made g c =
    let lt : c.loop-v.v < length (g.R.Rows.rows c.args.rows.now) = let n = c.count-count.ensures.count in let t = c.loop-v-test.true in omega (arith, n, t) in
    let up = slots-up-to c.loop-v.writer.slots (g.R.Rows.rows c.args.rows.now) c.loop-v.v c.loop-v.invariant.slots lt in
    pages-row _ _ _ _ _ _ _ _ c.row.ensures.at_most c.loop-v.invariant.made up lt

pub push-requires : goal.push-requires
push-requires g c =
    let rows = g.R.Rows.rows c.args.rows.now in
    let l = ap length c.loop-v.invariant.records ∙ length-base_records c.args.number 0 (take c.loop-v.v rows) in
    let m = length-take c.loop-v.v rows in
    let vertices = c.requires.vertices in
    omega (arith, l, m, vertices)

pub returns-in_err-push-clause-made : goal.returns-in_err-push-clause-made
returns-in_err-push-clause-made g c =
    let lt : c.loop-v.v < length (g.R.Rows.rows c.args.rows.now) = let n = c.count-count.ensures.count in let t = c.loop-v-test.true in omega (arith, n, t) in
    let up = slots-up-to c.loop-v.writer.slots (g.R.Rows.rows c.args.rows.now) c.loop-v.v c.loop-v.invariant.slots lt in
    pages-record _ _ _ _ _ _ _ _ _ c.row.ensures.at_most c.loop-v.invariant.made up lt (let made = c.push.ensures.made in grind (arith, made))

pub loop-v-preserved : goal.loop-v-preserved
loop-v-preserved g c =
    let inv = c.loop-v.invariant in
    let rows = g.R.Rows.rows c.args.rows.now in
    let v = c.loop-v.v in
    let lt : v < length rows = let n = c.count-count.ensures.count in let t = c.loop-v-test.true in omega (arith, n, t) in
    let wrote = c.in_ok-len.ensures.ok in
    let l = ap length inv.records ∙ length-base_records c.args.number 0 (take v rows) in
    let m = length-take-le v rows (omega arith) in
    let o : c.loop-v.writer.len ≡ length (base_slots (take v rows)) = inv.even.len ∙ ap length inv.slots in
    let record_is : (let r : VertexRec = record { level = c.args.number; offset = c.loop-v.writer.len; len = c.in_ok-len.len; degree = c.in_ok-len.len } in r) ≡ record { level = c.args.number; offset = length (base_slots (take v rows)); len = length (row_at rows v); degree = length (row_at rows v) } =
    ap (λ (k : ℕ). let r : VertexRec = record { level = c.args.number; offset = k; len = c.in_ok-len.len; degree = c.in_ok-len.len } in r) o
    ∙ ap (λ (k : ℕ). let r : VertexRec = record { level = c.args.number; offset = length (base_slots (take v rows)); len = k; degree = k } in r) c.in_ok-len.ensures.len in
    let step = pages-step v (eqb (v % 256) 0) refl in
    let wide = ap length wrote.slots_are ∙ (length-append c.loop-v.writer.slots (fragment_slots (row_at rows v) End) ∙ ap (λ k. length c.loop-v.writer.slots + k) (length-fragment (row_at rows v) End)) in
    record {
      even = wrote.even;
      slots = wrote.slots_are ∙ (ap (λ xs. xs ++ fragment_slots (row_at rows v) End) inv.slots ∙ sym (base_slots-more rows v lt));
      weights = wrote.weights_are ∙ (ap (λ xs. xs ++ fragment_weights (row_at rows v)) inv.weights ∙ sym (base_weights-more rows v lt));
      records = c.in_ok-push.ensures.items ∙ (ap (λ xs. xs ++ (let r : VertexRec = record { level = c.args.number; offset = c.loop-v.writer.len; len = c.in_ok-len.len; degree = c.in_ok-len.len } in r) ∷ []) inv.records
          ∙ (ap (λ r. base_records c.args.number 0 (take v rows) ++ r ∷ []) record_is ∙ sym (base_records-more c.args.number rows v lt)));
      made = pages-next c.push.new.pages c.row.new.pages c.loop-v.pages c.args.pages.now (length c.loop-v.writer.slots) (length c.loop-v.writer.slots + length (row_at rows v)) v (cond (eqb (v % 256) 0) 1 0) (length c.row.new.self.slots)
          c.in_ok-len.ensures.made inv.made (c.in_ok-push.ensures.made ∙ ap (λ n. c.row.new.pages + cond (eqb (n % 256) 0) 1 0) (l ∙ m)) step (omega (arith, wide));
    }

pub returns-in_err-edges-clause-made : goal.returns-in_err-edges-clause-made
returns-in_err-edges-clause-made g c =
    let rows = g.R.Rows.rows c.args.rows.now in
    let n = c.count-count.ensures.count in let t = c.loop-v-test.false in let e = c.loop-v.auto.v-end in
    let is : c.loop-v.v ≡ length rows = omega (arith, n, t, e) in
    pages-all c.loop-v.pages c.args.pages.now (length c.loop-v.writer.slots) (length rows) (edges_in rows)
    (c.loop-v.invariant.made ∙ ap (λ k. c.args.pages.now + 2 * ((length c.loop-v.writer.slots + 255) / 256) + (k + 255) / 256) is)
    (slots-at-most c.loop-v.writer.slots rows c.loop-v.v c.loop-v.invariant.slots)

pub returns-in_err-vertices-clause-made : goal.returns-in_err-vertices-clause-made
returns-in_err-vertices-clause-made g c =
    let rows = g.R.Rows.rows c.args.rows.now in
    let n = c.count-count.ensures.count in let t = c.loop-v-test.false in let e = c.loop-v.auto.v-end in
    let is : c.loop-v.v ≡ length rows = omega (arith, n, t, e) in
    pages-all c.loop-v.pages c.args.pages.now (length c.loop-v.writer.slots) (length rows) (edges_in rows)
    (c.loop-v.invariant.made ∙ ap (λ k. c.args.pages.now + 2 * ((length c.loop-v.writer.slots + 255) / 256) + (k + 255) / 256) is)
    (slots-at-most c.loop-v.writer.slots rows c.loop-v.v c.loop-v.invariant.slots)

pub invariant_of-result : goal.invariant_of-result
invariant_of-result g c =
    let rows = g.R.Rows.rows c.args.rows.now in
    let n = c.count-count.ensures.count in let t = c.loop-v-test.false in let e = c.loop-v.auto.v-end in
    let all : take c.loop-v.v rows ≡ rows = take_all c.loop-v.v rows (omega (arith, n, t)) in
    let targets : AreTargetsBelow (length rows) rows = subst (λ k. AreTargetsBelow k rows) n c.count-count.ensures.targets in
    is-base c.args.number c.in_ok-vertices.vertices c.in_ok-edges.edges c.in_ok-hidden.hidden c.in_ok-edges.weights rows
    (c.in_ok-vertices.ensures ∙ (c.loop-v.invariant.records ∙ ap (base_records c.args.number 0) all))
    (c.in_ok-edges.ensures.slots ∙ (c.loop-v.invariant.slots ∙ ap base_slots all))
    (c.in_ok-hidden.ensures.marks ∙ ap (λ k. replicate k 0) c.len.ensures)
    (c.in_ok-edges.ensures.weights ∙ (c.loop-v.invariant.weights ∙ ap base_weights all))
    targets c.requires.edges c.requires.vertices c.requires.number

pub returns-clause-rows : goal.returns-clause-rows
returns-clause-rows g c =
    let rows = g.R.Rows.rows c.args.rows.now in
    let n = c.count-count.ensures.count in let t = c.loop-v-test.false in
    let all : take c.loop-v.v rows ≡ rows = take_all c.loop-v.v rows (omega (arith, n, t)) in
    built c.args.number c.in_ok-vertices.vertices c.in_ok-edges.edges c.in_ok-edges.weights rows
    (c.in_ok-vertices.ensures ∙ (c.loop-v.invariant.records ∙ ap (base_records c.args.number 0) all))
    (c.in_ok-edges.ensures.slots ∙ (c.loop-v.invariant.slots ∙ ap base_slots all))
    (c.in_ok-edges.ensures.weights ∙ (c.loop-v.invariant.weights ∙ ap base_weights all))

pub returns-in_err-hidden-clause-made : goal.returns-in_err-hidden-clause-made
returns-in_err-hidden-clause-made g c =
    let rows = g.R.Rows.rows c.args.rows.now in
    let n = c.count-count.ensures.count in let t = c.loop-v-test.false in let e = c.loop-v.auto.v-end in
    let is : c.loop-v.v ≡ length rows = omega (arith, n, t, e) in
    pages-marked c.loop-v.pages c.standing_above.new.pages c.args.pages.now (length c.loop-v.writer.slots) (length rows) (edges_in rows) c.standing_above.ensures.made
    (c.loop-v.invariant.made ∙ ap (λ k. c.args.pages.now + 2 * ((length c.loop-v.writer.slots + 255) / 256) + (k + 255) / 256) is)
    (slots-at-most c.loop-v.writer.slots rows c.loop-v.v c.loop-v.invariant.slots)

pub returns-clause-made : goal.returns-clause-made
returns-clause-made g c =
    let rows = g.R.Rows.rows c.args.rows.now in
    let n = c.count-count.ensures.count in let t = c.loop-v-test.false in let e = c.loop-v.auto.v-end in
    let is : c.loop-v.v ≡ length rows = omega (arith, n, t, e) in
    pages-marked c.loop-v.pages c.standing_above.new.pages c.args.pages.now (length c.loop-v.writer.slots) (length rows) (edges_in rows) c.standing_above.ensures.made
    (c.loop-v.invariant.made ∙ ap (λ k. c.args.pages.now + 2 * ((length c.loop-v.writer.slots + 255) / 256) + (k + 255) / 256) is)
    (slots-at-most c.loop-v.writer.slots rows c.loop-v.v c.loop-v.invariant.slots)
