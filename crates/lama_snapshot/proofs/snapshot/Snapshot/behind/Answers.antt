use Rattle.std.proofs.Common.{◌∙◌, ◌+◌, ◌<◌, length, ap, sym, subst, refl, arith}
use Rattle.std.specs.Prelude.{slice_get, unwrap_or, [], Some}
use Rattle.lama_snapshot.specs.Levels.{table_of}
use Rattle.lama_snapshot.specs.Chains.{Table, place_row}
use Rattle.lama_snapshot.specs.Snap.{Snap}
use Rattle.lama_snapshot.proofs.NextLemmas.{floor-is, table-is, table-ok, next-returns, tail-requires as tail-within, end-returns}
use Rattle.lama_snapshot.proofs.Fragment.{place-behind}
use Rattle.lama_snapshot.proofs.snapshot.Snapshot.behind.Goals as goal

pub overflow_add-at : goal.overflow_add-at
overflow_add-at c =
    let snap = c.args.self.now in let at = c.args.at in
    let floor = floor-is c.self.inside snap c.deref-base.result.now c.number-floor.result c.self.view_is c.deref-base.ensures c.number-floor.ensures.is in
    let t = c.if-at-floor.false in
    let above : snap.layout.floor < at.level = omega (arith, floor, t) in
    let behind = place-behind snap.layout (length snap.rows) at.v at.level at.offset at.left c.requires in
    let within = tail-within snap.layout (length snap.rows) at.v at.level (at.offset + at.left) 0 behind above (omega arith) in
    let few = (table-ok _ snap.layout at.level (ap (λ (s : Snap). s.layout.levels) c.self.view_is) c.self.invariant.snap.tables above c.requires.within).few in
    omega (arith, within, few)

pub tail-slot-requires : goal.tail-slot-requires
tail-slot-requires c =
    let snap = c.args.self.now in let at = c.args.at in
    let floor = floor-is c.self.inside snap c.deref-base.result.now c.number-floor.result c.self.view_is c.deref-base.ensures c.number-floor.ensures.is in
    let table = table-is c.self.inside snap c.deref.result.now c.number-floor.result at.level (table_of c.level_at-level.result.now) c.self.view_is c.deref.ensures.value floor c.level_at-level.ensures in
    let t = c.if-at-floor.false in
    let above : snap.layout.floor < at.level = omega (arith, floor, t) in
    let behind = place-behind snap.layout (length snap.rows) at.v at.level at.offset at.left c.requires in
    subst (λ (x : Table). at.offset + at.left < length x.slots) (sym table) (tail-within snap.layout (length snap.rows) at.v at.level (at.offset + at.left) 0 behind above (omega arith))

pub returns-in-Next : goal.returns-in-Next
returns-in-Next c =
    let snap = c.args.self.now in let at = c.args.at in let p = c.place_of.ensures in let r = c.place_of.result in let n = c.in-Next in
    let floor = floor-is c.self.inside snap c.deref-base.result.now c.number-floor.result c.self.view_is c.deref-base.ensures c.number-floor.ensures.is in
    let table = table-is c.self.inside snap c.deref.result.now c.number-floor.result at.level (table_of c.level_at-level.result.now) c.self.view_is c.deref.ensures.value floor c.level_at-level.ensures in
    let t = c.if-at-floor.false in
    let b = c.number-floor.ensures.is in
    let above : snap.layout.floor < at.level = omega (arith, floor, t) in
    let behind = place-behind snap.layout (length snap.rows) at.v at.level at.offset at.left c.requires in
    let h = next-returns snap.layout (length snap.rows) (place_row snap.layout at.v at.level (at.offset + at.left) 0) at.v at.level (at.offset + at.left) 0 n.level n.offset n.len r.v r.level r.offset r.left behind refl above (omega arith)
    (ap (λ (x : Table). slice_get x.slots (at.offset + at.left)) (sym table) ∙ (c.tail-slot.ensures ∙ ap (λ s. Some s) n.is)) p.v (λ h. p.in_base (omega (arith, floor, b, h)) ∙ (sym b ∙ floor)) (λ h. p.in_level (omega (arith, floor, b, h)))
    (p.row snap.layout (sym floor ∙ b) (sym (ap (λ x. x.rows) c.deref-base.ensures ∙ ap (λ s. s.layout.base) c.self.view_is))) in
    (h.1, h.0, p.v, ap (λ x. unwrap_or x []) h.2)

pub returns-in_default : goal.returns-in_default
returns-in_default c =
    let snap = c.args.self.now in let at = c.args.at in
    let floor = floor-is c.self.inside snap c.deref-base.result.now c.number-floor.result c.self.view_is c.deref-base.ensures c.number-floor.ensures.is in
    let table = table-is c.self.inside snap c.deref.result.now c.number-floor.result at.level (table_of c.level_at-level.result.now) c.self.view_is c.deref.ensures.value floor c.level_at-level.ensures in
    let t = c.if-at-floor.false in
    let above : snap.layout.floor < at.level = omega (arith, floor, t) in
    let behind = place-behind snap.layout (length snap.rows) at.v at.level at.offset at.left c.requires in
    end-returns snap.layout (length snap.rows) (place_row snap.layout at.v at.level (at.offset + at.left) 0) at.v at.level (at.offset + at.left) 0 c.tail-slot.result.0 behind refl above (omega arith)
    (ap (λ (x : Table). slice_get x.slots (at.offset + at.left)) (sym table) ∙ c.tail-slot.ensures) c.in_default.not-Next
