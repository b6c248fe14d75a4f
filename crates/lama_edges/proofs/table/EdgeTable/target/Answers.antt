use Rattle.std.proofs.Common.{◌≡◌, ◌<◌, Some, ap, arith, length, subst, sym}
use Rattle.std.specs.Prelude.{slice_get}
use Rattle.std.proofs.lemmas.Option.{slice_get_within}
use Rattle.lama_edges.specs.declared.records.Slot.TheVariants.{Edge}
use Rattle.lama_edges.specs.Table.{HasEdge}
use Rattle.lama_edges.proofs.Placed.{length-slots, target-read}
use Rattle.lama_edges.proofs.table.EdgeTable.target.Goals as goal

pub get-requires : goal.get-requires
get-requires c =
    omega (arith, slice_get_within c.args.self.now c.args.i (Edge c.requires.target) c.requires.slot_is, length-slots c.self.inside.tails.items 0 c.self.inside.words, ap length c.self.view_is)

pub returns : goal.returns
returns c =
    let tails = c.self.inside.tails.items in
    let edge = subst (λ l. HasEdge l c.args.i) (sym c.self.view_is) c.requires in
    let within : c.args.i < length c.self.inside.words = omega (arith, slice_get_within c.args.self.now c.args.i (Edge c.requires.target) c.requires.slot_is, length-slots tails 0 c.self.inside.words, ap length c.self.view_is) in
    subst (λ l. slice_get l c.args.i ≡ Some (Edge c.get.result)) c.self.view_is
    (target-read (length c.self.inside.words) tails c.self.invariant.0 c.self.inside.words c.args.i c.get.result within c.get.ensures edge)
