use Rattle.std.proofs.Common.{◌≡◌, true, ap, arith, length, subst, sym}
use Rattle.lama_array.specs.Draft.{owns}
use Rattle.lama_array.proofs.Paged.{length-kept}
use Rattle.lama_array.proofs.edit.Edit.extend_filled.Goals as goal

pub grow-requires-clause-room : goal.grow-requires-clause-room
grow-requires-clause-room g c = omega (arith, c.requires, length-kept _ _ c.self.invariant, ap (λ d. length d.items) c.self.view_is)

pub overflow_add-self : goal.overflow_add-self
overflow_add-self g c = omega (arith, c.requires, length-kept _ _ c.self.invariant, ap (λ d. length d.items) c.self.view_is)

pub returns-clause-still_owned : goal.returns-clause-still_owned
returns-clause-still_owned g c = λ k was. c.in_ok-grow.ensures.still_owned k (subst (λ d. owns d k ≡ true) (sym c.self.view_is) was)
