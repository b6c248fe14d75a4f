use Rattle.lama_model.specs.declared.calls.Call.TheVariants.{Checkpoint}
use Rattle.llama_main.proofs.Holding.{holds}
use Rattle.llama_main.proofs.store.Store.checkpoint.Goals as goal

pub returns-clause-after : goal.returns-clause-after
returns-clause-after g c = holds c.self.inside.book.journal c.checkpoint.new.self.journal c.args.self.now Checkpoint c.in-Ok.ensures.entry c.self.view_is
