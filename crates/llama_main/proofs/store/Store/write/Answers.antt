use Rattle.lama_model.specs.declared.calls.Call.TheVariants.{Write as WriteCall}
use Rattle.llama_main.proofs.Holding.{holds}
use Rattle.llama_main.proofs.store.Store.write.Goals as goal

pub returns-clause-after : goal.returns-clause-after
returns-clause-after c = holds c.self.inside.book.journal c.write.new.self.journal c.args.self.now (WriteCall c.args.w) c.in-Ok.ensures.entry c.self.view_is
