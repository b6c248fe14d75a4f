use Rattle.std.proofs.Common.{◌≡◌, ◌+◌, ◌-◌, ◌++◌, [], length, get_or, map}
use Rattle.lama_snapshot.specs.Cells.{standing}
use Rattle.lama_snapshot.specs.Chains.{IsPlace, place_cells}
use Rattle.lama_snapshot.proofs.snapshot.Snapshot.take_fragment.Given as goal

abbrev pub invariant-loop-left : goal.invariant-loop-left
invariant-loop-left l = record {
  place : IsPlace l.self.layout (length l.self.rows) l.fn.start.v l.fn.start.level l.place l.left;
  end : l.place + l.left ≡ l.fn.start.offset + l.fn.start.left;
  table : l.table ≡ l.fn.start.level - l.self.layout.floor;
  marks : l.marks ≡ get_or l.self.columns.marks l.table [];
  so_far : l.cells.items ++ map (λ p. p.1) (standing l.self.columns (place_cells l.self.layout l.fn.start.v l.fn.start.level l.place l.left))
      ≡ l.fn.cells.items ++ map (λ p. p.1) (standing l.self.columns (place_cells l.self.layout l.fn.start.v l.fn.start.level l.fn.start.offset l.fn.start.left));
}

abbrev pub decreases-loop-left : goal.decreases-loop-left
decreases-loop-left l = l.left
