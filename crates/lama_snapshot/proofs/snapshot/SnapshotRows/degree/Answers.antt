use Rattle.std.proofs.Common.{◌∙◌, ◌<◌, length, ap, arith}
use Rattle.std.proofs.lemmas.List.{get_or_read}
use Rattle.lama_model.specs.Row.{row_at}
use Rattle.lama_snapshot.specs.Shown.{shown, columns_of}
use Rattle.lama_snapshot.specs.Snap.{Snap, no_record}
use Rattle.lama_snapshot.proofs.ChainLemmas.{length-rows_from}
use Rattle.lama_snapshot.proofs.StepLemmas.{record-row}
use Rattle.lama_snapshot.proofs.snapshot.SnapshotRows.degree.Goals as goal

pub get-requires : goal.get-requires
get-requires c =
    let n = length-rows_from (shown c.self.inside).layout (columns_of c.self.inside) c.self.inside.vertices in
    let is = ap (λ (s : Snap). length s.rows) c.self.view_is in
    let r = c.requires in
    omega (arith, n, is, r)

pub returns : goal.returns
returns c =
    let l = (shown c.self.inside).layout in
    let cols = columns_of c.self.inside in
    let records = c.self.inside.vertices in
    let n = length-rows_from l cols records in
    let is = ap (λ (s : Snap). length s.rows) c.self.view_is in
    let r = c.requires in
    let lt : c.args.v < length records = omega (arith, n, is, r) in
    (record-row l cols records c.args.v c.get.result lt (get_or_read records c.args.v c.get.result lt c.get.ensures no_record) (c.self.invariant.snap.records_ok c.args.v lt)).degree
    ∙ ap (λ (s : Snap). length (row_at s.rows c.args.v)) c.self.view_is
