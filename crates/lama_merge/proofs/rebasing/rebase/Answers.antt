use Rattle.std.proofs.Common.{◌≡◌, List, length, map, ap, sym, subst, arith}
use Rattle.std.specs.Arc.{arc_value}
use Rattle.std.proofs.lemmas.List.{length-map, length_push}
use Rattle.lama_snapshot.specs.BaseRows.{Numbered}
use Rattle.lama_snapshot.specs.Snap.{Snap}
use Rattle.lama_merge.specs.Rebase.{IsAmong, IsReady, IsRebased, snap_of}
use Rattle.lama_merge.proofs.Moving.{ready-at, read-at, each-push}
use Rattle.lama_merge.proofs.rebasing.rebase.Goals as goal

pub rebased-requires : goal.rebased-requires
rebased-requires g c =
    let kept = map arc_value c.args.kept.now in
    let m = c.deref-onto.result.now in
    let lt = c.loop-i-test.true in
    let at : arc_value c.index-kept-i.result ≡ snap_of kept c.loop-i.i = read-at arc_value c.args.kept.now c.loop-i.i c.index-kept-i.result c.index-kept-i.is lt in
    let among : IsAmong m kept = subst (λ (b : Numbered). IsAmong b kept) (sym c.deref-onto.ensures) c.requires.among in
    let size = length-map c.args.kept.now arc_value in
    let size' = length-map c.loop-i.all.items arc_value in
    let len = c.loop-i.invariant.len in
    let changes = c.requires.kept.0 in
    let ready = ready-at changes m kept (map arc_value c.loop-i.all.items) c.loop-i.i c.requires.kept.1 among (omega (arith, lt, size)) (omega (arith, size', len)) c.loop-i.invariant.each in
    let P : List Snap × Snap → Type 0 = λ p. IsReady changes m p.0 p.1 in
    (changes, subst P (λ j. (ap (map arc_value) (sym c.deref.ensures.value) j, sym at j)) ready)

pub loop-i-preserved : goal.loop-i-preserved
loop-i-preserved g c =
    let kept = map arc_value c.args.kept.now in
    let m = c.deref-onto.result.now in
    let lt = c.loop-i-test.true in
    let at : arc_value c.index-kept-i.result ≡ snap_of kept c.loop-i.i = read-at arc_value c.args.kept.now c.loop-i.i c.index-kept-i.result c.index-kept-i.is lt in
    let here = subst (λ (s : Snap). IsRebased m s (arc_value c.in_ok-next.next)) at c.in_ok-next.ensures in
    let len = c.loop-i.invariant.len in
    let n = ap length c.in_ok-push.ensures.items in
    let more = length_push c.loop-i.all.items c.in_ok-next.next in
    record {
      len = omega (arith, len, n, more);
      each = each-push arc_value m kept c.loop-i.all.items c.push.new.self.items c.in_ok-next.next c.loop-i.i c.in_ok-push.ensures.items len c.loop-i.invariant.each here;
    }
