use Rattle.std.proofs.Common.{◌≡◌, ◌∙◌, Some, ap, arith, length, subst, sym}
use Rattle.std.specs.Prelude.{slice_get}
use Rattle.lama_edges.specs.Placed.{slot_of}
use Rattle.lama_edges.proofs.Placed.{length-slots, slot-read}
use Rattle.lama_edges.proofs.table.EdgeTable.slot.Goals as goal

pub get-requires : goal.get-requires
get-requires c = omega (arith, c.requires, length-slots c.self.inside.tails.items 0 c.self.inside.words, ap length c.self.view_is)

pub returns : goal.returns
returns c =
    let tails = c.self.inside.tails.items in
    subst (λ l. slice_get l c.args.i ≡ Some c.slot_of.result) c.self.view_is
    (slot-read (length c.self.inside.words) tails c.self.invariant.0 c.self.inside.words c.args.i c.get.result (omega (arith, c.requires, length-slots tails 0 c.self.inside.words, ap length c.self.view_is)) c.get.ensures ∙ ap (λ s. Some s) (sym (c.slot_of.ensures ∙ ap (λ l. slot_of l c.args.i c.get.result) c.deref.ensures.value)))
