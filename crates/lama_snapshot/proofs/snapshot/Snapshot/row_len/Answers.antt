use Rattle.std.proofs.Common.{◌∙◌, ◌<◌, ◌≤◌, [], length, ap, sym, arith}
use Rattle.std.proofs.lemmas.List.{get_or_read, get_or_past}
use Rattle.lama_model.specs.Row.{row_at}
use Rattle.lama_snapshot.specs.Shown.{shown, columns_of}
use Rattle.lama_snapshot.specs.Snap.{Snap, no_record}
use Rattle.lama_snapshot.proofs.ChainLemmas.{length-rows_from}
use Rattle.lama_snapshot.proofs.StepLemmas.{record-row}
use Rattle.lama_snapshot.proofs.snapshot.Snapshot.row_len.Goals as goal

pub returns-then-v-len : goal.returns-then-v-len
returns-then-v-len c =
    let l = (shown c.self.inside).layout in
    let cols = columns_of c.self.inside in
    let records = c.self.inside.vertices in
    let len = c.len.ensures in
    let t = c.if-v-len.true in
    let lt : c.args.v < length records = omega (arith, len, t) in
    (record-row l cols records c.args.v c.get.result lt (get_or_read records c.args.v c.get.result lt c.get.ensures no_record) (c.self.invariant.snap.records_ok c.args.v lt)).degree
    ∙ ap (λ (s : Snap). length (row_at s.rows c.args.v)) c.self.view_is

pub returns : goal.returns
returns c =
    let n = length-rows_from (shown c.self.inside).layout (columns_of c.self.inside) c.self.inside.vertices in
    let is = ap (λ (s : Snap). length s.rows) c.self.view_is in
    let len = c.len.ensures in
    let f = c.if-v-len.false in
    let past : length c.args.self.now.rows ≤ c.args.v = omega (arith, n, is, len, f) in
    sym (ap length (get_or_past c.args.self.now.rows c.args.v [] past))
