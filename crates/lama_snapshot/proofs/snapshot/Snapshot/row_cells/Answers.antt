use Rattle.std.proofs.Common.{◌∙◌, [], length, map, ap, sym, arith}
use Rattle.std.proofs.lemmas.List.{get_or_past}
use Rattle.lama_snapshot.specs.Cells.{standing}
use Rattle.lama_snapshot.specs.Shown.{shown, columns_of}
use Rattle.lama_snapshot.specs.Snap.{Snap}
use Rattle.lama_snapshot.proofs.ChainLemmas.{length-cells_of, length-rows_from}
use Rattle.lama_snapshot.proofs.snapshot.Snapshot.row_cells.Goals as goal

pub returns-then-v-len-clause-cells : goal.returns-then-v-len-clause-cells
returns-then-v-len-clause-cells c =
    let s = c.args.self.now in
    let n = length-cells_of (shown c.self.inside).layout c.self.inside.vertices in
    let is = ap (λ (x : Snap). length x.cells) c.self.view_is in
    let past = c.if-v-len.true in
    let k = c.len.ensures in
    let none = get_or_past s.cells c.args.v [] (omega (arith, n, is, past, k)) in
    c.in_ok-cells.ensures.items ∙ sym (ap (λ row. map (λ p. p.1) (standing s.columns row)) none)

pub returns-then-v-len-clause-len : goal.returns-then-v-len-clause-len
returns-then-v-len-clause-len c =
    let s = c.args.self.now in
    let n = length-rows_from (shown c.self.inside).layout (columns_of c.self.inside) c.self.inside.vertices in
    let is = ap (λ (x : Snap). length x.rows) c.self.view_is in
    let past = c.if-v-len.true in
    let k = c.len.ensures in
    let none = get_or_past s.rows c.args.v [] (omega (arith, n, is, past, k)) in
    ap length c.in_ok-cells.ensures.items ∙ sym (ap length none)

pub row_place-requires : goal.row_place-requires
row_place-requires c =
    let n = length-rows_from (shown c.self.inside).layout (columns_of c.self.inside) c.self.inside.vertices in
    let is = ap (λ (x : Snap). length x.rows) c.self.view_is in
    let lt = c.if-v-len.false in
    let k = c.len.ensures in
    omega (arith, n, is, lt, k)
