use Rattle.std.proofs.Common.{◌≡◌, ◌∙◌, ◌<◌, Some, ap, arith, length, subst, sym}
use Rattle.std.specs.Prelude.{slice_get}
use Rattle.std.proofs.lemmas.Bool.Decides.{nat_tests}
use Rattle.std.proofs.lemmas.Option.{slice_get-get_or}
use Rattle.lama_edges.specs.Placed.{slot_of}
use Rattle.lama_edges.proofs.Placed.{length-slots, slot-read, tail-there}
use Rattle.lama_edges.proofs.table.EdgeTable.tail.Goals as goal

pub returns-then-tail-i : goal.returns-then-tail-i
returns-then-tail-i c =
    let tails = c.self.inside.tails.items in
    let tail = c.in-Some.tail.now in
    let found = c.in-Some.ensures.lookup in
    let within : c.args.near < length c.deref.result.now = grind (arith, nat_tests, found.0) in
    let got : slice_get tails c.args.near ≡ Some tail =
    subst (λ l. slice_get l c.args.near ≡ Some tail) c.deref.ensures.value
    (slice_get-get_or c.deref.result.now c.args.near tail within ∙ ap (λ t. Some t) (sym found.1)) in
    subst (λ l. slice_get l c.args.i ≡ Some tail.slot) c.self.view_is
    (tail-there tails c.self.inside.words c.self.invariant.1 c.args.near c.args.i tail got c.if-tail-i.true)

pub get-word-requires : goal.get-word-requires
get-word-requires c = omega (arith, c.requires, length-slots c.self.inside.tails.items 0 c.self.inside.words, ap length c.self.view_is)

pub returns : goal.returns
returns c =
    let tails = c.self.inside.tails.items in
    subst (λ l. slice_get l c.args.i ≡ Some c.slot_of.result) c.self.view_is
    (slot-read (length c.self.inside.words) tails c.self.invariant.0 c.self.inside.words c.args.i c.get-word.result (omega (arith, c.requires, length-slots tails 0 c.self.inside.words, ap length c.self.view_is)) c.get-word.ensures
    ∙ ap (λ s. Some s) (sym (c.slot_of.ensures ∙ ap (λ l. slot_of l c.args.i c.get-word.result) c.deref-2.ensures.value)))
