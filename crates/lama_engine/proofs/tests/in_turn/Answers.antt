use Rattle.std.proofs.Common.{All, subst, sym}
use Rattle.lama_book.specs.Book.{Book}
use Rattle.lama_lock.specs.Hall.{Hall, IsPassOf}
use Rattle.lama_engine.proofs.Passes.{all-again}
use Rattle.lama_engine.proofs.tests.in_turn.Goals as goal

pub loop-at-preserved : goal.loop-at-preserved
loop-at-preserved g c = (
  subst (λ (h : Hall Book). All (IsPassOf h) c.make_at.new.passes.items) (sym c.engine.view_is) c.in-Ok.ensures.ours,
  all-again c.engine.inside.hall c.loop-at.passes.items c.make_at.new.passes.items c.in-Ok.ensures.numbers c.loop-at.invariant.1,
)
