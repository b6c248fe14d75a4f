-- Where a walk over a row stands: at a place, or at its end.
use Rattle.std.specs.Prelude.{ℕ, suc, List, [], Option, Some, None}
use Rattle.lama_snapshot.specs.declared.level.Cell.{Cell}
use Rattle.lama_snapshot.specs.declared.level.SnapshotAt.{SnapshotAt}
use Rattle.lama_snapshot.specs.Chains.{Layout, IsPlace, place_cells}

-- it stands at a place of the row, or at its end
abbrev pub IsPlaceOrEnd : Layout → ℕ → Option SnapshotAt → Type 0
IsPlaceOrEnd l count None = Unit {0}
IsPlaceOrEnd l count (Some at) = IsPlace l count at.v at.level at.offset at.left

-- the edges that are left, hidden ones too
abbrev pub cells_left : Layout → Option SnapshotAt → List (ℕ × Cell)
cells_left l None = []
cells_left l (Some at) = place_cells l at.v at.level at.offset at.left

-- how many levels are left at most
abbrev pub levels_left : Option SnapshotAt → ℕ
levels_left None = 0
levels_left (Some at) = suc at.level
