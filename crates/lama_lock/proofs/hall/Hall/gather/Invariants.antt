use Rattle.std.proofs.Common.{◌≡◌, List, [], ◌++◌, map, All}
use Rattle.lama_lock.specs.declared.view.Stage.TheVariants.{Idle}
use Rattle.lama_lock.specs.declared.view.Member.{Member}
use Rattle.lama_lock.specs.Views.{left}
use Rattle.lama_lock.specs.Hall.{IsPassOf, member_in}
use Rattle.lama_lock.proofs.hall.Hall.gather.Given as goal

abbrev pub invariant-loop-pass : goal.invariant-loop-pass
invariant-loop-pass g l = (l.seat.table_id ≡ l.self.id) × All (IsPassOf l.self) l.passes.items
    × ((ms : List Member) × (l.seat.me ≡ (left (record { value = l.self.start; callers = l.self.callers }) Idle ms, [])) × (map member_in l.passes.items ++ ms ≡ map member_in l.fn.passes.items))

abbrev pub decreases-loop-pass : goal.decreases-loop-pass
decreases-loop-pass g l = goal.left-loop-pass g l
