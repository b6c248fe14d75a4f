use Prim.Native.Nat.{◌-◌, ◌*◌}
use Rattle.lama_work.proofs.pieces.+starts.Given as goal

abbrev pub decreases-answers_from : goal.decreases-answers_from
decreases-answers_from g l = 2 * (l.workers - l.from)

abbrev pub decreases-others : goal.decreases-others
decreases-others g l = 2 * (l.workers - l.from) - 1
