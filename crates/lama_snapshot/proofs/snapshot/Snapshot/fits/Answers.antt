use Rattle.std.proofs.Common.{◌∙◌, ◌+◌, ◌<◌, ◌^◌, length, ap, sym, subst, arith, sum_by}
use Rattle.std.specs.Prelude.{All, IsTrue, ◌↔◌}
use Rattle.std.proofs.lemmas.Bool.{false≢true}
use Rattle.lama_model.specs.Row.{edges_in}
use Rattle.lama_model.specs.Change.{RowChange, Change}
use Rattle.lama_model.specs.Fits.{HasIndexes}
use Rattle.lama_snapshot.specs.Shown.{shown, columns_of}
use Rattle.lama_snapshot.specs.Snap.{Snap}
use Rattle.lama_snapshot.proofs.ChainLemmas.{length-rows_from}
use Rattle.lama_snapshot.proofs.Limits.{edges-records, three-sums, fits-iff}
use Rattle.lama_snapshot.proofs.snapshot.Snapshot.fits.Goals as goal

pub returns-then-change-len : goal.returns-then-change-len
returns-then-change-len c =
    let n = length-rows_from (shown c.self.inside).layout (columns_of c.self.inside) c.self.inside.vertices in
    let is = ap (λ (s : Snap). length s.rows) c.self.view_is in
    let m = ap (λ (x : Change). x.count) c.change.view_is in
    let t = c.if-change-len.true in
    let l = c.len.ensures in
    (λ h. absurd (false≢true h), λ f. (let g = f.grows in absurd (omega (arith, g, n, is, m, t, l))))

pub returns-then-not-edges_at_most : goal.returns-then-not-edges_at_most
returns-then-not-edges_at_most c =
    let same = ap (λ rs. sum_by (λ (r : RowChange). length r.added + length r.killed + length r.set) rs) c.rows-rows.ensures.rows in
    let three = three-sums c.args.change.now.rows in
    (λ h. absurd (false≢true h), λ f. (let said = f.touched in subst IsTrue c.if-not-edges_at_most.true (c.edges_at_most.ensures.1 (omega (arith, same, three, said)))))

pub edges_of-added-requires : goal.edges_of-added-requires
edges_of-added-requires c =
    let same = ap (λ rs. sum_by (λ (r : RowChange). length r.added + length r.killed + length r.set) rs) c.rows-rows.ensures.rows in
    let three = three-sums c.args.change.now.rows in
    let a = ap (λ rs. sum_by (λ (r : RowChange). length r.added) rs) c.rows-rows.ensures.rows in
    let k = ap (λ rs. sum_by (λ (r : RowChange). length r.killed) rs) c.rows-rows.ensures.rows in
    let most = c.edges_at_most.ensures.0 c.if-not-edges_at_most.false in
    omega (arith, same, three, a, k, most)

pub overflow_add-self-inside-2 : goal.overflow_add-self-inside-2
overflow_add-self-inside-2 c =
    let same = ap (λ rs. sum_by (λ (r : RowChange). length r.added + length r.killed + length r.set) rs) c.rows-rows.ensures.rows in
    let three = three-sums c.args.change.now.rows in
    let a = ap (λ rs. sum_by (λ (r : RowChange). length r.added) rs) c.rows-rows.ensures.rows in
    let k = ap (λ rs. sum_by (λ (r : RowChange). length r.killed) rs) c.rows-rows.ensures.rows in
    let most = c.edges_at_most.ensures.0 c.if-not-edges_at_most.false in
    let two = c.edges_of-added.ensures in
    let added = two.added in let killed = two.killed in
    let few = c.self.invariant.snap.few in
    let below : c.self.inside.edge_count + c.edges_of-added.result.0 < 2 ^ 32 = omega (arith, same, three, a, k, most, added, few) in
    record { fits = below }

pub overflow_add-killed : goal.overflow_add-killed
overflow_add-killed c =
    let same = ap (λ rs. sum_by (λ (r : RowChange). length r.added + length r.killed + length r.set) rs) c.rows-rows.ensures.rows in
    let three = three-sums c.args.change.now.rows in
    let a = ap (λ rs. sum_by (λ (r : RowChange). length r.added) rs) c.rows-rows.ensures.rows in
    let k = ap (λ rs. sum_by (λ (r : RowChange). length r.killed) rs) c.rows-rows.ensures.rows in
    let most = c.edges_at_most.ensures.0 c.if-not-edges_at_most.false in
    let two = c.edges_of-added.ensures in
    let added = two.added in let killed = two.killed in
    let few = c.self.invariant.snap.few in
    let below : 33554432 + c.edges_of-added.result.1 < 2 ^ 32 = omega (arith, same, three, a, k, most, killed) in
    record { fits = below }

pub returns-then-self-added : goal.returns-then-self-added
returns-then-self-added c =
    let same = ap (λ rs. sum_by (λ (r : RowChange). length r.added + length r.killed + length r.set) rs) c.rows-rows.ensures.rows in
    let three = three-sums c.args.change.now.rows in
    let a = ap (λ rs. sum_by (λ (r : RowChange). length r.added) rs) c.rows-rows.ensures.rows in
    let k = ap (λ rs. sum_by (λ (r : RowChange). length r.killed) rs) c.rows-rows.ensures.rows in
    let most = c.edges_at_most.ensures.0 c.if-not-edges_at_most.false in
    let two = c.edges_of-added.ensures in
    let added = two.added in let killed = two.killed in
    let few = c.self.invariant.snap.few in
    let e = c.self.invariant.snap.edges ∙ (sym (edges-records (shown c.self.inside).layout (columns_of c.self.inside) c.self.inside.vertices c.self.invariant.snap.records_ok) ∙ ap (λ (s : Snap). edges_in s.rows) c.self.view_is) in
    let more = c.if-self-added.true in
    (λ h. absurd (false≢true h), λ f. (let edges = f.edges in absurd (omega (arith, a, k, added, killed, e, more, edges))))

pub returns : goal.returns
returns c =
    let same = ap (λ rs. sum_by (λ (r : RowChange). length r.added + length r.killed + length r.set) rs) c.rows-rows.ensures.rows in
    let three = three-sums c.args.change.now.rows in
    let a = ap (λ rs. sum_by (λ (r : RowChange). length r.added) rs) c.rows-rows.ensures.rows in
    let k = ap (λ rs. sum_by (λ (r : RowChange). length r.killed) rs) c.rows-rows.ensures.rows in
    let most = c.edges_at_most.ensures.0 c.if-not-edges_at_most.false in
    let two = c.edges_of-added.ensures in
    let added = two.added in let killed = two.killed in
    let few = c.self.invariant.snap.few in
    let e = c.self.invariant.snap.edges ∙ (sym (edges-records (shown c.self.inside).layout (columns_of c.self.inside) c.self.inside.vertices c.self.invariant.snap.records_ok) ∙ ap (λ (s : Snap). edges_in s.rows) c.self.view_is) in
    let n = length-rows_from (shown c.self.inside).layout (columns_of c.self.inside) c.self.inside.vertices in
    let is = ap (λ (s : Snap). length s.rows) c.self.view_is in
    let m = ap (λ (x : Change). x.count) c.change.view_is in
    let q = ap (λ (x : Change). x.number) c.change.view_is in
    let p = ap (λ (s : Snap). s.number) c.self.view_is in
    let next = c.if-change-self.false in
    let limit = c.if-change-gt-MAX_NUMBER.false in
    let grows = c.if-change-len.false in
    let len = c.len.ensures in
    let vertices = c.if-change-gt-MAX_VERTICES.false in
    let room = c.if-self-added.false in
    let tells : IsTrue c.have_indexes.result ↔ All (HasIndexes c.args.self.now.rows) c.args.change.now.rows = subst (λ rs. IsTrue c.have_indexes.result ↔ All (HasIndexes c.args.self.now.rows) rs) c.rows-rows.ensures.rows c.have_indexes.ensures in
    fits-iff c.args.self.now.number c.self.inside.edge_count c.have_indexes.result c.args.self.now.rows c.args.change.now (omega (arith, q, next, p)) (omega (arith, q, limit)) (omega (arith, is, n, len, grows, m)) (omega (arith, m, vertices))
    e (omega (arith, room, added, killed, a, k)) (omega (arith, same, three, most)) tells
