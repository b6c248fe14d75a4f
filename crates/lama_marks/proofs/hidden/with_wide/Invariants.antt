use Rattle.std.proofs.Common.{◌≡◌, ℕ, ◌-◌, take, Some, cond}
use Rattle.std.specs.Ordering.{nat_cmp}
use Rattle.std.specs.BTreeMap.{get}
use Rattle.lama_marks.specs.Places.{is_place}
use Rattle.lama_marks.proofs.hidden.with_wide.Given as goal

abbrev pub invariant-loop-place : goal.invariant-loop-place
invariant-loop-place l = (i : ℕ) → get nat_cmp l.all i ≡ cond (is_place i (take l.place-index l.places)) (Some (l.number - 1)) (get nat_cmp l.initial.all i)
