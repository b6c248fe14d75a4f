use Rattle.std.proofs.Common.{◌≡◌, ◌++◌, length, map}
use Rattle.lama_snapshot.specs.Cells.{standing}
use Rattle.lama_snapshot.specs.Places.{IsPlaceOrEnd, cells_left, levels_left}
use Rattle.lama_snapshot.specs.Found.{cells_at}
use Rattle.lama_snapshot.proofs.snapshot.Snapshot.row_cells.Given as goal

abbrev pub invariant-loop-next : goal.invariant-loop-next
invariant-loop-next l = record {
  place : IsPlaceOrEnd l.self.layout (length l.self.rows) l.next;
  so_far : l.cells.items ++ map (λ p. p.1) (standing l.self.columns (cells_left l.self.layout l.next)) ≡ cells_at l.self l.v;
}

abbrev pub decreases-loop-next : goal.decreases-loop-next
decreases-loop-next l = levels_left l.next
