use Rattle.std.proofs.Common.{◌≡◌, ◌≤◌, ◌-◌, [], map, vec_capacity}
use Rattle.std.specs.List.{range_with_len}
use Rattle.lama_lock.specs.declared.view.Stage.TheVariants.{Idle}
use Rattle.lama_lock.specs.Views.{starting}
use Rattle.lama_lock.specs.Hall.{first_pass}
use Rattle.lama_lock.proofs.hall.Hall.admit.Given as goal

abbrev pub invariant-loop-caller : goal.invariant-loop-caller
invariant-loop-caller g l = (l.seat.table_id ≡ l.self.id) × (1 ≤ l.caller)
    × (l.seat.me ≡ (starting (record { value = l.self.start; callers = l.self.callers }) Idle (l.caller - 1), []))
    × (l.passes.items ≡ map (first_pass g.B.Kept.journal l.self) (range_with_len 1 (l.caller - 1))) × (l.callers ≤ vec_capacity l.passes)
