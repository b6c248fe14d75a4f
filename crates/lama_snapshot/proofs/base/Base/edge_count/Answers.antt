use Rattle.std.proofs.Common.{◌∙◌, length, ap, arith}
use Rattle.lama_model.specs.Row.{edges_in}
use Rattle.lama_snapshot.proofs.RowFrom.{length-base_slots, length-base_records}
use Rattle.lama_snapshot.proofs.base.Base.edge_count.Goals as goal

pub overflow_sub-result : goal.overflow_sub-result
overflow_sub-result c =
    let inv = c.self.invariant in
    let a = ap length inv.slots_are ∙ length-base_slots _ in
    let b = ap length inv.records_are ∙ length-base_records c.self.inside.number 0 _ in
    let x = c.len.ensures in let y = c.len-2.ensures in
    omega (arith, a, b, x, y)

pub returns-clause-edges : goal.returns-clause-edges
returns-clause-edges c =
    let inv = c.self.invariant in
    let a = ap length inv.slots_are ∙ length-base_slots _ in
    let b = ap length inv.records_are ∙ length-base_records c.self.inside.number 0 _ in
    let x = c.len.ensures in let y = c.len-2.ensures in
    let r = ap (λ s. edges_in s.rows) c.self.view_is in
    omega (arith, a, b, x, y, r)

pub returns-clause-few : goal.returns-clause-few
returns-clause-few c =
    let inv = c.self.invariant in
    let a = ap length inv.slots_are ∙ length-base_slots _ in
    let b = ap length inv.records_are ∙ length-base_records c.self.inside.number 0 _ in
    let x = c.len.ensures in let y = c.len-2.ensures in let few = inv.few in
    omega (arith, a, b, x, y, few)
