use Rattle.std.proofs.Common.{take}
use Rattle.lama_engine.proofs.Asking.{looked-at}
use Rattle.lama_engine.proofs.engine.Engine.look_at.Goals as goal

pub returns-in-Ok-clause-snapshot : goal.returns-in-Ok-clause-snapshot
returns-in-Ok-clause-snapshot g c = λ o of.
    looked-at o c.uncounted.new.pass.known.seen (take c.in-Ok.placed.place c.uncounted.new.pass.known.seen) c.args.pass.now.known.caller c.args.k c.in-Ok.placed.answer c.found.result.answer c.in-Ok.ensures.call.last c.found.ensures.answer (c.in-Ok.ensures.answer o of)
