use Rattle.std.proofs.Common.{◌≡◌, ◌+◌, ◌%◌, ◌++◌, ◌==◌, [], ◌∷◌, ◌∙◌, ap, arith, length, refl, sym}
use Rattle.std.specs.Prelude.{if◌then◌else◌}
use Rattle.lama_edges.specs.declared.records.Slot.TheVariants.{Edge}
use Rattle.lama_edges.specs.Placed.{slots_from}
use Rattle.lama_edges.proofs.Placed.{length-slots, edge-pushed}
use Rattle.lama_edges.proofs.builder.TableBuilder.push_edge.Goals as goal

pub push-requires : goal.push-requires
push-requires g c = omega (arith, c.requires, length-slots c.self.inside.tails.items 0 c.self.inside.words, ap length c.self.view_is)

pub overflow_add-self : goal.overflow_add-self
overflow_add-self g c = omega (arith, c.requires, c.self.invariant.0, length-slots c.self.inside.tails.items 0 c.self.inside.words, ap length c.self.view_is)

pub returns-clause-items : goal.returns-clause-items
returns-clause-items g c =
    let tails = c.self.inside.tails.items in
    ap (λ ws. slots_from tails 0 ws) c.in_ok-push.ensures.items
    ∙ edge-pushed (length c.self.inside.words) tails c.self.invariant.1 c.self.inside.words c.args.target refl
    ∙ ap (λ s. s ++ Edge c.args.target ∷ []) c.self.view_is

pub returns-clause-made : goal.returns-clause-made
returns-clause-made g c =
    let size : length c.self.inside.words ≡ length c.args.self.now = sym (length-slots c.self.inside.tails.items 0 c.self.inside.words) ∙ ap length c.self.view_is in
    c.in_ok-push.ensures.made ∙ ap (λ k. c.args.pages.now + (if k % 256 == 0 then 1 else 0)) size
