use Rattle.lama_model.specs.declared.calls.Call.TheVariants.{Retire}
use Rattle.llama_main.proofs.Holding.{holds}
use Rattle.llama_main.proofs.store.Store.retire.Goals as goal

pub returns-clause-after : goal.returns-clause-after
returns-clause-after c = holds c.self.inside.book.journal c.retire.new.self.journal c.args.self.now (Retire c.args.k) c.in-Ok.ensures.entry c.self.view_is
