use Rattle.std.proofs.Common.{length, ap, arith}
use Rattle.lama_snapshot.proofs.RowFrom.{base-length}
use Rattle.lama_snapshot.proofs.base.Base.edges.Goals as goal

pub returns-clause-few : goal.returns-clause-few
returns-clause-few c =
    let a = ap length c.self.invariant.slots_are in
    let b = base-length _ c.self.invariant.few c.self.invariant.vertices in
    omega (arith, a, b)
