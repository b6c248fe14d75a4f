use Rattle.std.proofs.Common.{ap}
use Rattle.lama_lock.specs.Views.{Keeps}
use Rattle.lama_lock.proofs.Entering.{turned}
use Rattle.lama_lock.proofs.steps.Desk.take_value.Goals as goal

pub take_out-requires-clause-out : goal.take_out-requires-clause-out
take_out-requires-clause-out g c = let k = c.requires.idle in let t = c.take_turn.ensures.told k.0 k.1 in (t.0, ap (λ m. m.1) t.1)

pub returns-clause-told : goal.returns-clause-told
returns-clause-told g c = λ k is. turned g.B.Kept.journal (Keeps g.B.Kept.fits g.B.Kept.room) k c.take_out.result _ _ (c.take_turn.ensures.told k is) c.take_out.ensures.value c.take_out.ensures.empty
