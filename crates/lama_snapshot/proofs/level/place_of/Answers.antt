use Rattle.std.proofs.Common.{◌≡◌, ◌∙◌, ◌<◌, length, take, ap, sym, arith, []}
use Rattle.std.specs.Prelude.{Some}
use Rattle.std.proofs.lemmas.List.{get_or_past}
use Rattle.lama_snapshot.specs.BaseRows.{base_slots}
use Rattle.lama_snapshot.specs.Cells.{cell_row}
use Rattle.lama_snapshot.specs.Chains.{base_cells, base_places}
use Rattle.lama_snapshot.proofs.CellsFrom.{base_cells-at}
use Rattle.lama_snapshot.proofs.ChainLemmas.{place-base}
use Rattle.lama_snapshot.proofs.level.place_of.Goals as goal

pub returns-then-v-count-clause-row : goal.returns-then-v-count-clause-row
returns-then-v-count-clause-row c = λ l floor base.
    let is = c.number-floor.ensures.is in let f = c.if-floor-level.false in let f2 = c.fragment-at.ensures in
    let rows = c.args.base.now.rows in
    let lt : c.args.v < length rows = let n = c.count.ensures.count in let p = c.if-v-count.true in omega (arith, n, p) in
    let reads : base_cells rows c.fragment-at.result.offset c.fragment-at.result.left ≡ Some (base_places rows c.args.v) =
    ap (λ o. base_cells rows o c.fragment-at.result.left) f2.offset ∙ (ap (base_cells rows (length (base_slots (take c.args.v rows)))) f2.left ∙ base_cells-at rows c.args.v lt) in
    place-base l c.args.v c.number-floor.result c.fragment-at.result.offset c.fragment-at.result.left c.args.level c.args.offset c.args.len rows (omega (arith, is, floor)) (omega (arith, is, floor, f)) base reads

pub returns-clause-row : goal.returns-clause-row
returns-clause-row c = λ l floor base.
    let is = c.number-floor.ensures.is in let f = c.if-floor-level.false in let n = c.count.ensures.count in let p = c.if-v-count.false in
    let rows = c.args.base.now.rows in
    place-base l c.args.v c.number-floor.result 0 0 c.args.level c.args.offset c.args.len rows (omega (arith, is, floor)) (omega (arith, is, floor, f)) base
    (ap (λ r. Some (cell_row 0 (length (base_slots (take c.args.v rows))) r)) (sym (get_or_past rows c.args.v [] (omega (arith, n, p)))))
