use Rattle.std.specs.Arc.{arc_value}
use Rattle.lama_model.specs.declared.calls.Call.TheVariants.{LookAt}
use Rattle.llama_main.proofs.Holding.{holds, look_at-found}
use Rattle.llama_main.proofs.store.Store.look_at.Goals as goal

pub returns-clause-found : goal.returns-clause-found
returns-clause-found c = look_at-found arc_value c.self.inside.book c.look_at.new.self.journal c.args.k c.in-Ok.looked.reply c.in-Ok.looked.snapshot c.self.invariant c.in-Ok.ensures.entry c.in-Ok.ensures.snapshot

pub returns-clause-after : goal.returns-clause-after
returns-clause-after c = holds c.self.inside.book.journal c.look_at.new.self.journal c.args.self.now (LookAt c.args.k) c.in-Ok.ensures.entry c.self.view_is
