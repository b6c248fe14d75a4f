use Rattle.std.proofs.Common.{◌≡◌, length}
use Rattle.lama_snapshot.specs.Chains.{IsPlace, place_cells}
use Rattle.lama_snapshot.proofs.snapshot.Snapshot.next_fragment.Given as goal

abbrev pub invariant-loop-at : goal.invariant-loop-at
invariant-loop-at l = record {
  place : IsPlace l.self.layout (length l.self.rows) l.at.v l.at.level l.at.offset l.at.left;
  same : place_cells l.self.layout l.at.v l.at.level l.at.offset l.at.left ≡ place_cells l.self.layout l.v l.level l.offset 0;
  from : l.at.v ≡ l.v;
}

abbrev pub decreases-loop-at : goal.decreases-loop-at
decreases-loop-at l = l.at.level
