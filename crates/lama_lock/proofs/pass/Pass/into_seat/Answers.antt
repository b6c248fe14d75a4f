use Rattle.std.proofs.Common.{◌∙◌}
use Rattle.lama_lock.specs.Views.{Keeps}
use Rattle.lama_lock.proofs.Entering.{founded, idle-as}
use Rattle.lama_lock.proofs.pass.Pass.into_seat.Goals as goal

pub returns-clause-known : goal.returns-clause-known
returns-clause-known g c = λ f is.
    let k = c.self.invariant in
    let t = founded g.B.Kept.journal (Keeps g.B.Kept.fits g.B.Kept.room) k.0 c.args.self _ _ f.value f.callers k.2 c.self.view_is is in
    k.2 ∙ idle-as g.B.Kept.journal (Keeps g.B.Kept.fits g.B.Kept.room) k.0 c.args.self f t.0 t.1
