use Rattle.std.proofs.Common.{◌≡◌, length}
use Rattle.lama_snapshot.specs.Cells.{standing}
use Rattle.lama_snapshot.specs.Chains.{IsPlace, place_cells}
use Rattle.lama_snapshot.proofs.snapshot.Snapshot.next_standing.Given as goal

abbrev pub invariant-loop-cell : goal.invariant-loop-cell
invariant-loop-cell l = record {
  place : IsPlace l.self.layout (length l.self.rows) l.at.v l.at.level l.at.offset l.at.left;
  from : l.at.v ≡ l.fn.start.v;
  same : standing l.self.columns (place_cells l.self.layout l.at.v l.at.level l.at.offset l.at.left) ≡ standing l.self.columns (place_cells l.self.layout l.fn.start.v l.fn.start.level l.fn.start.offset l.fn.start.left);
}

abbrev pub decreases-loop-cell : goal.decreases-loop-cell
decreases-loop-cell l = length (place_cells l.self.layout l.at.v l.at.level l.at.offset l.at.left)
