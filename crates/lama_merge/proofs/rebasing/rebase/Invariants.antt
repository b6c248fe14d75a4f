use Rattle.std.proofs.Common.{◌≡◌, ◌<◌, ℕ, length, map}
use Rattle.std.specs.Arc.{arc_value}
use Rattle.lama_merge.specs.Rebase.{snap_of, IsRebased}
use Rattle.lama_merge.proofs.rebasing.rebase.Given as goal

abbrev pub invariant-loop-i : goal.invariant-loop-i
invariant-loop-i g l = record {
  len : length l.all.items ≡ l.i;
  each : (j : ℕ) → j < l.i → IsRebased l.onto (snap_of (map arc_value l.kept) j) (snap_of (map arc_value l.all.items) j);
}
