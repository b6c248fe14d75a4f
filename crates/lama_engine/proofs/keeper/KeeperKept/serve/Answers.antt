use Rattle.std.proofs.Common.{sym, subst}
use Rattle.std.specs.Prelude.{IfOk}
use Rattle.lama_model.specs.Opening.{Opening}
use Rattle.lama_book.specs.Relation.{IsBookOf}
use Rattle.lama_engine.specs.Asks.{Gives}
use Rattle.lama_engine.proofs.Asking.{pages-are, gives-newest}
use Rattle.lama_engine.proofs.keeper.KeeperKept.serve.Goals as goal
use Rattle.lama_engine.proofs.keeper.KeeperKept.serve.Goals.{in-Ok-look, in-Err-look}

pub returns-after-checkpoint-clause-pages : goal.returns-after-checkpoint-clause-pages
returns-after-checkpoint-clause-pages g c = λ o of. pages-are o c.self.inside.book c.args.self.now c.args.ask c.args.pages.now c.checkpoint.new.pages c.self.view_is c.in-Checkpoint.is of c.checkpoint.ensures.made

pub returns-after-look-clause-answer : goal.returns-after-look-clause-answer
returns-after-look-clause-answer g c = elim c.match-look.branch [
  | in-Ok-look w ↦ subst (λ r. IfOk r (λ a. (o : Opening) → IsBookOf o c.args.self.now → Gives o c.args.self.now.journal c.args.ask a)) (sym w.result-is)
      (λ o of. gives-newest o c.self.inside.book c.args.self.now c.args.ask w.in-Ok-look.newest c.self.view_is c.in-Look.is w.in-Ok-look.ensures.snapshot of)
  | in-Err-look w ↦ subst (λ r. IfOk r (λ a. (o : Opening) → IsBookOf o c.args.self.now → Gives o c.args.self.now.journal c.args.ask a)) (sym w.result-is) tt
]
