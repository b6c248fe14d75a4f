use Rattle.std.proofs.Common.{◌≡◌, ◌%◌, ◌++◌, [], ◌∷◌, ◌∙◌, ap, arith, length}
use Rattle.lama_array.specs.declared.held.Held.TheVariants.{Own}
use Rattle.lama_array.specs.Held.{records_of}
use Rattle.lama_array.proofs.Paged.{length-kept}
use Rattle.lama_array.proofs.Pushed.{pushed-page}
use Rattle.lama_array.proofs.edit.Edit.begin_page.Goals as goal

pub overflow_add-self : goal.overflow_add-self
overflow_add-self g c = omega (arith, c.requires.room, length-kept _ _ c.self.invariant, ap (λ d. length d.items) c.self.view_is)

pub invariant_of-self-2 : goal.invariant_of-self-2
invariant_of-self-2 g c =
    let edge : c.self.inside.len % 256 ≡ 0 = omega (arith, c.requires.at_edge, length-kept _ _ c.self.invariant, ap (λ d. length d.items) c.self.view_is) in
    (pushed-page records_of c.self.inside.len c.args.x c.self.inside.held.items c.push.new.self.items c.self.invariant (Own c.in_ok-page.page) edge
    (c.in_ok-push.ensures.items ∙ ap (λ hs. hs ++ Own c.in_ok-page.page ∷ []) c.in_ok-reserve.ensures.items) c.in_ok-page.ensures.records).paged

pub returns-clause-items : goal.returns-clause-items
returns-clause-items g c =
    let edge : c.self.inside.len % 256 ≡ 0 = omega (arith, c.requires.at_edge, length-kept _ _ c.self.invariant, ap (λ d. length d.items) c.self.view_is) in
    (pushed-page records_of c.self.inside.len c.args.x c.self.inside.held.items c.push.new.self.items c.self.invariant (Own c.in_ok-page.page) edge
    (c.in_ok-push.ensures.items ∙ ap (λ hs. hs ++ Own c.in_ok-page.page ∷ []) c.in_ok-reserve.ensures.items) c.in_ok-page.ensures.records).items
    ∙ ap (λ d. d.items ++ c.args.x ∷ []) c.self.view_is
