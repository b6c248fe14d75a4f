use Rattle.std.proofs.Common.{◌≡◌}
use Rattle.lama_lock.specs.Hall.{IsPassOf}
use Rattle.lama_engine.proofs.tests.run_lane.Given as goal

abbrev pub invariant-loop-i : goal.invariant-loop-i
invariant-loop-i g l = IsPassOf l.engine l.pass × (l.pass.known.caller ≡ l.fn.pass.known.caller)
