use Rattle.std.proofs.Common.{◌≡◌, ◌∙◌, ◌-◌, ◌<◌, length, map, ap, sym, subst, arith, ◌++◌, ◌∷◌, []}
use Rattle.std.specs.Arc.{arc_value}
use Rattle.lama_model.specs.Row.{row_at}
use Rattle.lama_model.specs.Change.{Change, row_after}
use Rattle.lama_model.specs.Fits.{Fits}
use Rattle.lama_snapshot.specs.Snap.{Snap, change_at}
use Rattle.lama_merge.specs.Rebase.{snap_of}
use Rattle.lama_merge.proofs.Moving.{own-change, is-after, read-last}
use Rattle.lama_merge.proofs.rebasing.put_onto.Goals as goal

pub apply-requires : goal.apply-requires
apply-requires g c =
    let old = c.args.old.now in
    let m = c.args.merged.now in
    let n = c.number-number.ensures.is in
    let k = c.number.ensures.is in
    let other = c.if-number.false in
    let low = c.requires.number in
    let later : m.number < old.number = omega (arith, n, k, other, low) in
    let changes = c.requires.ready.0 in
    let ready = c.requires.ready.1 in
    let there = ready.later later c.requires.floor in
    let last : c.deref-last.result.now ≡ snap_of (map arc_value c.args.before.now) (length (map arc_value c.args.before.now) - 1) = read-last arc_value c.args.before.now c.index-before-before.result c.deref-last.result.now c.index-before-before.is there.some c.deref-last.ensures in
    let above = c.requires.floor in
    let change : arc_value c.in_ok-share_change.field-0 ≡ changes old.number = c.in_ok-share_change.ensures ∙ (ap (change_at old) n ∙ own-change changes old ready.held (omega (arith, above, later))) in
    let P : Snap × Change → Type 0 = λ p. Fits p.0.number p.0.rows p.1 in
    subst P (λ j. (sym last j, sym change j)) there.step.fits

pub returns : goal.returns
returns g c =
    let old = c.args.old.now in
    let m = c.args.merged.now in
    let n = c.number-number.ensures.is in
    let k = c.number.ensures.is in
    let other = c.if-number.false in
    let low = c.requires.number in
    let later : m.number < old.number = omega (arith, n, k, other, low) in
    let changes = c.requires.ready.0 in
    let ready = c.requires.ready.1 in
    let there = ready.later later c.requires.floor in
    let before = map arc_value c.args.before.now in
    let last : c.deref-last.result.now ≡ snap_of before (length before - 1) = read-last arc_value c.args.before.now c.index-before-before.result c.deref-last.result.now c.index-before-before.is there.some c.deref-last.ensures in
    let above = c.requires.floor in
    let change : arc_value c.in_ok-share_change.field-0 ≡ changes old.number = c.in_ok-share_change.ensures ∙ (ap (change_at old) n ∙ own-change changes old ready.held (omega (arith, above, later))) in
    let e = c.in_ok-next.ensures in
    is-after changes m before old c.in_ok-next.next (arc_value c.in_ok-share_change.field-0) ready later above change e.number e.count
    (λ v lt. e.rows v lt ∙ ap (λ (s : Snap). row_after (arc_value c.in_ok-share_change.field-0).rows v (row_at s.rows v)) last)
    (e.base ∙ ap (λ (s : Snap). s.base) last) (e.changes ∙ ap (λ (s : Snap). s.changes ++ arc_value c.in_ok-share_change.field-0 ∷ []) last)
