use Rattle.std.proofs.Common.{All}
use Rattle.lama_lock.specs.Hall.{IsPassOf, AreAll}
use Rattle.lama_engine.proofs.tests.in_turn.Given as goal

abbrev pub invariant-loop-at : goal.invariant-loop-at
invariant-loop-at g l = All (IsPassOf l.engine-inside.hall) l.passes.items × AreAll l.engine-inside.hall l.passes.items
