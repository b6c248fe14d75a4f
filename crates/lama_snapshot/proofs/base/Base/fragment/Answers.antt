use Rattle.std.proofs.Common.{◌∙◌, ap}
use Rattle.lama_snapshot.specs.BaseRows.{base_records}
use Rattle.lama_snapshot.proofs.RowFrom.{base-record}
use Rattle.lama_snapshot.proofs.base.Base.fragment.Goals as goal

pub returns-clause-offset : goal.returns-clause-offset
returns-clause-offset c =
    let rows = ap (λ b. b.rows) c.self.view_is in
    (base-record c.self.inside.number c.args.v c.self.inside.vertices c.args.self.now.rows c.get-record.result (c.self.invariant.records_are ∙ ap (base_records c.self.inside.number 0) rows) c.requires c.get-record.ensures).0

pub returns-clause-left : goal.returns-clause-left
returns-clause-left c =
    let rows = ap (λ b. b.rows) c.self.view_is in
    (base-record c.self.inside.number c.args.v c.self.inside.vertices c.args.self.now.rows c.get-record.result (c.self.invariant.records_are ∙ ap (base_records c.self.inside.number 0) rows) c.requires c.get-record.ensures).1
