use Rattle.std.proofs.Common.{◌∙◌, ap}
use Rattle.lama_snapshot.specs.BaseRows.{base_records}
use Rattle.lama_snapshot.proofs.RowFrom.{base-record}
use Rattle.lama_snapshot.proofs.base.BaseRows.degree.Goals as goal

pub returns : goal.returns
returns c =
    let rows = ap (λ b. b.rows) c.self.view_is in
    (base-record c.self.inside.number c.args.v c.self.inside.vertices c.args.self.now.rows c.get.result (c.self.invariant.records_are ∙ ap (base_records c.self.inside.number 0) rows) c.requires c.get.ensures).2
