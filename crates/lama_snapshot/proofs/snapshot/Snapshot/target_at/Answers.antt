use Rattle.std.proofs.Common.{◌≡◌, ◌∙◌, ◌-◌, length, map, ap, sym, arith}
use Rattle.std.specs.Arc.{arc_value}
use Rattle.std.specs.Prelude.{slice_get}
use Rattle.std.proofs.lemmas.Bool.Decides.{nat_tests}
use Rattle.lama_edges.specs.declared.records.Slot.TheVariants.{Edge}
use Rattle.lama_snapshot.specs.Levels.{table_of}
use Rattle.lama_snapshot.specs.Chains.{Table, table_at}
use Rattle.lama_snapshot.specs.Snap.{Snap}
use Rattle.lama_snapshot.proofs.NextLemmas.{level-is, cell-level}
use Rattle.lama_snapshot.proofs.snapshot.Snapshot.target_at.Goals as goal

pub target-requires-then-len-eq1 : goal.target-requires-then-len-eq1
target-requires-then-len-eq1 c =
    let layout = c.args.self.now.layout in
    let r = c.args.cell.table in
    let items = c.self.inside.levels.items in
    let levels : map table_of (map arc_value items) ≡ layout.levels = ap (λ (s : Snap). s.layout.levels) c.self.view_is in
    let within = cell-level layout items c.args.cell (Edge c.requires.target) levels c.requires.slot_is in
    let some = c.if-cell-eq0.false in
    let one : length items ≡ 1 = grind (arith, nat_tests, c.len.ensures, c.if-len-eq1.true) in
    let table : table_of c.deref-only.result.now ≡ table_at layout r =
    ap table_of c.deref-only.ensures ∙ level-is layout items r 0 c.index.result.now levels (omega (arith, some, within, one)) (omega (arith, one)) c.index.ensures in
    record { target = c.requires.target; slot_is = ap (λ (t : Table). slice_get t.slots c.args.cell.place) table ∙ c.requires.slot_is }

pub returns-then-len-eq1 : goal.returns-then-len-eq1
returns-then-len-eq1 c =
    let layout = c.args.self.now.layout in
    let r = c.args.cell.table in
    let items = c.self.inside.levels.items in
    let levels : map table_of (map arc_value items) ≡ layout.levels = ap (λ (s : Snap). s.layout.levels) c.self.view_is in
    let within = cell-level layout items c.args.cell (Edge c.requires.target) levels c.requires.slot_is in
    let some = c.if-cell-eq0.false in
    let one : length items ≡ 1 = grind (arith, nat_tests, c.len.ensures, c.if-len-eq1.true) in
    let table : table_of c.deref-only.result.now ≡ table_at layout r =
    ap table_of c.deref-only.ensures ∙ level-is layout items r 0 c.index.result.now levels (omega (arith, some, within, one)) (omega (arith, one)) c.index.ensures in
    ap (λ (t : Table). slice_get t.slots c.args.cell.place) (sym table) ∙ c.target-then-len-eq1.ensures

pub target-requires-2 : goal.target-requires-2
target-requires-2 c =
    let layout = c.args.self.now.layout in
    let r = c.args.cell.table in
    let items = c.self.inside.levels.items in
    let levels : map table_of (map arc_value items) ≡ layout.levels = ap (λ (s : Snap). s.layout.levels) c.self.view_is in
    let within = cell-level layout items c.args.cell (Edge c.requires.target) levels c.requires.slot_is in
    let some = c.if-cell-eq0.false in
    let table : table_of c.deref-level.result.now ≡ table_at layout r =
    ap table_of c.deref-level.ensures ∙ level-is layout items r (r - 1) c.index-2.result.now levels (omega (arith, some)) (omega (arith, within, some)) c.index-2.ensures in
    record { target = c.requires.target; slot_is = ap (λ (t : Table). slice_get t.slots c.args.cell.place) table ∙ c.requires.slot_is }

pub returns : goal.returns
returns c =
    let layout = c.args.self.now.layout in
    let r = c.args.cell.table in
    let items = c.self.inside.levels.items in
    let levels : map table_of (map arc_value items) ≡ layout.levels = ap (λ (s : Snap). s.layout.levels) c.self.view_is in
    let within = cell-level layout items c.args.cell (Edge c.requires.target) levels c.requires.slot_is in
    let some = c.if-cell-eq0.false in
    let table : table_of c.deref-level.result.now ≡ table_at layout r =
    ap table_of c.deref-level.ensures ∙ level-is layout items r (r - 1) c.index-2.result.now levels (omega (arith, some)) (omega (arith, within, some)) c.index-2.ensures in
    ap (λ (t : Table). slice_get t.slots c.args.cell.place) (sym table) ∙ c.target-2.ensures
