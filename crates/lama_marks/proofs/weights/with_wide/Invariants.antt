use Rattle.std.proofs.Common.{◌≡◌, ℕ, take}
use Rattle.std.specs.Ordering.{nat_cmp}
use Rattle.std.specs.BTreeMap.{get}
use Rattle.lama_marks.specs.Narrow.{wide_after}
use Rattle.lama_marks.proofs.weights.with_wide.Given as goal

abbrev pub invariant-loop-place : goal.invariant-loop-place
invariant-loop-place l = (i : ℕ) → get nat_cmp l.all i ≡ wide_after i (take l.place-index l.places) (get nat_cmp l.initial.all i)
