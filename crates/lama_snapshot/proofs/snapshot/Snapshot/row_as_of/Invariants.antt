use Rattle.std.proofs.Common.{◌≡◌, ◌++◌, length, map}
use Rattle.lama_snapshot.specs.Chains.{IsPlace, place_cells}
use Rattle.lama_snapshot.specs.Snap.{floor_of}
use Rattle.lama_snapshot.specs.History.{targets_then, row_then}
use Rattle.lama_snapshot.proofs.snapshot.Snapshot.row_as_of.Given as goal

abbrev pub invariant-loop-cell : goal.invariant-loop-cell
invariant-loop-cell l = record {
  place : IsPlace l.self.layout (length l.self.rows) l.at.v l.at.level l.at.offset l.at.left;
  so_far : l.targets.items ++ targets_then (floor_of l.self) l.self.columns l.k (place_cells l.self.layout l.at.v l.at.level l.at.offset l.at.left)
      ≡ map (λ p. p.0) (row_then (floor_of l.self) l.self.base.rows l.self.changes l.k l.v);
}

abbrev pub decreases-loop-cell : goal.decreases-loop-cell
decreases-loop-cell l = length (place_cells l.self.layout l.at.v l.at.level l.at.offset l.at.left)
