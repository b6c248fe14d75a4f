use Rattle.std.proofs.Common.{length, ap, arith}
use Rattle.lama_snapshot.specs.Snap.{Snap, floor_of}
use Rattle.lama_snapshot.proofs.snapshot.Snapshot.number.Goals as goal

pub returns-clause-changes : goal.returns-clause-changes
returns-clause-changes c =
    let is = c.self.invariant.snap.number_is in
    let size = c.self.invariant.history.size in
    let many = ap (λ (s : Snap). length s.changes) c.self.view_is in
    let floor = ap floor_of c.self.view_is in
    omega (arith, is, size, many, floor)
