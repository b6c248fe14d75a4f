use Rattle.std.proofs.Common.{◌∙◌}
use Rattle.lama_lock.proofs.steps.Desk.take_turn.Goals as goal

pub grab-requires-clause-idle : goal.grab-requires-clause-idle
grab-requires-clause-idle g c = let t = c.requires.idle in (t.0, c.loop.invariant.1 ∙ t.1)

pub returns-then-grab-clause-told : goal.returns-then-grab-clause-told
returns-then-grab-clause-told g c = λ k is. c.if-grab.ensures.told k (c.loop.invariant.1 ∙ is)
