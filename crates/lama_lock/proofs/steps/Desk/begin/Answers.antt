use Rattle.std.proofs.Common.{rules, ap, sym, ◌∙◌, Some, None, ◌∷◌}
use Rattle.atomic_table.specs.Table.{rest}
use Rattle.lama_lock.proofs.Callers.{keeps-same}
use Rattle.lama_lock.proofs.Releases.{opens, begins}
use Rattle.lama_lock.proofs.steps.Desk.begin.Goals as goal

pub load-requires : goal.load-requires
load-requires g c = let t = c.requires.first in
    (search rules, search rules, opens _ _ _ _ c.args.self.now.sized.1 _ _ t.0 t.2)

pub exchange-requires : goal.exchange-requires
exchange-requires g c = let t = c.requires.first in let e = c.load.ensures.2 t.0 t.2 in
    (search rules, (None, ap (λ m. m.1) e ∙ ap (λ m. (0, None) ∷ rest m.1) (sym e)))

pub store-requires : goal.store-requires
store-requires g c = let t = c.requires.first in
    (search rules, search rules, begins _ _ _ _ c.args.self.now.sized.1 _ _ t.0 c.args.value (c.exchange.ensures.3 ∙ ap (λ m. (m.0, (0, Some c.args.value) ∷ rest m.1)) (c.load.ensures.2 t.0 t.2)) (ap g.B.Kept.journal (sym t.1)) (keeps-same g.B.Kept.fits g.B.Kept.room t.0.value c.args.value t.1))

pub returns-clause-told : goal.returns-clause-told
returns-clause-told g c = λ f is. c.store.ensures.2 f c.args.value (c.exchange.ensures.3 ∙ ap (λ m. (m.0, (0, Some c.args.value) ∷ rest m.1)) (c.load.ensures.2 f is))
