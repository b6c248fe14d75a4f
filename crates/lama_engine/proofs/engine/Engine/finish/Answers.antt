use Rattle.std.proofs.Common.{sym, subst, All}
use Rattle.lama_model.specs.Pass.{BeginsWith}
use Rattle.lama_book.specs.Book.{Book}
use Rattle.lama_book.specs.Relation.{IsBookOf}
use Rattle.lama_lock.specs.Hall.{Hall}
use Rattle.lama_engine.proofs.engine.Engine.finish.Goals as goal

pub returns-clause-opening : goal.returns-clause-opening
returns-clause-opening c = λ o of. subst (λ (b : Book). IsBookOf o b) (sym c.into_book.ensures) (c.in_ok-keeper.ensures.setting o (subst (λ (h : Hall Book). IsBookOf o h.start) (sym c.self.view_is) of))

pub returns-clause-seen : goal.returns-clause-seen
returns-clause-seen c = subst (λ (b : Book). All (λ p. BeginsWith b.journal p.known.seen) c.args.passes.items) (sym c.into_book.ensures) c.in_ok-keeper.ensures.seen
