use Rattle.std.proofs.Common.{take}
use Rattle.lama_engine.proofs.Asking.{looked, looked-later}
use Rattle.lama_engine.proofs.engine.Engine.look.Goals as goal

pub returns-in-Ok-clause-snapshot : goal.returns-in-Ok-clause-snapshot
returns-in-Ok-clause-snapshot g c = λ o of.
    looked o c.uncounted.new.pass.known.seen (take c.in-Ok.placed.place c.uncounted.new.pass.known.seen) c.args.pass.now.known.caller c.in-Ok.placed.answer c.newest.result.answer c.in-Ok.ensures.call.last c.newest.ensures.answer (c.in-Ok.ensures.answer o of)

pub returns-in-Ok-clause-later : goal.returns-in-Ok-clause-later
returns-in-Ok-clause-later g c = λ o of.
    let b = c.in-Ok.ensures.call.before in
    looked-later o c.args.pass.now.known.seen (take c.in-Ok.placed.place c.uncounted.new.pass.known.seen) b.0 c.in-Ok.placed.answer c.newest.result.answer b.1 c.newest.ensures.answer (c.in-Ok.ensures.answer o of)
