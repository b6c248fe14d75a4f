use Rattle.std.proofs.Common.{◌≡◌, ◌+◌, ◌%◌, ◌++◌, ◌==◌, [], ◌∷◌, ◌∙◌, ap, arith, length, refl, sym}
use Rattle.std.specs.Prelude.{if◌then◌else◌}
use Rattle.lama_edges.specs.declared.tails.Tail.{Tail}
use Rattle.lama_edges.specs.Placed.{slots_from}
use Rattle.lama_edges.proofs.Placed.{length-slots, tail-pushed}
use Rattle.lama_edges.proofs.builder.TableBuilder.push_tail.Goals as goal

pub push-requires : goal.push-requires
push-requires g c = omega (arith, c.requires.room, length-slots c.self.inside.tails.items 0 c.self.inside.words, ap length c.self.view_is)

pub overflow_add-self : goal.overflow_add-self
overflow_add-self g c = omega (arith, c.requires.room, c.self.invariant.0, length-slots c.self.inside.tails.items 0 c.self.inside.words, ap length c.self.view_is)

pub returns-clause-items : goal.returns-clause-items
returns-clause-items g c =
    let tails = c.self.inside.tails.items in
    let words = c.self.inside.words in
    let tail : Tail = record { place = c.self.inside.len; slot = c.args.slot; next = c.args.next } in
    let new_tails : c.push_reserved.new.self.items ≡ tails ++ tail ∷ [] = c.push_reserved.ensures.items ∙ ap (λ l. l ++ tail ∷ []) c.in_ok-reserve.ensures.items in
    let number : c.len.result ≡ length tails = c.len.ensures ∙ c.reserve.new.self.ok.0 ∙ ap length c.in_ok-reserve.ensures.items in
    ap (λ ts. slots_from ts 0 c.push.new.self) new_tails
    ∙ ap (λ ws. slots_from (tails ++ tail ∷ []) 0 ws) c.in_ok-push.ensures.items
    ∙ tail-pushed (length words) tails c.self.invariant.1 words tail c.len.result refl c.self.invariant.0 number
    ∙ ap (λ s. s ++ c.args.slot ∷ []) c.self.view_is

pub returns-clause-made : goal.returns-clause-made
returns-clause-made g c =
    let size : length c.self.inside.words ≡ length c.args.self.now = sym (length-slots c.self.inside.tails.items 0 c.self.inside.words) ∙ ap length c.self.view_is in
    c.in_ok-push.ensures.made ∙ ap (λ k. c.args.pages.now + (if k % 256 == 0 then 1 else 0)) size
