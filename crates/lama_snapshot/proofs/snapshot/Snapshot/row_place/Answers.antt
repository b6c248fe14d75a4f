use Rattle.std.proofs.Common.{◌≡◌, ◌∙◌, ◌<◌, ◌≤◌, ◌+◌, [], length, get_or, ap, sym, arith, subst, refl, inl, inr}
use Rattle.std.specs.Prelude.{IsSome, unwrap_or, Some}
use Rattle.std.proofs.lemmas.Bool.{cases_lt}
use Rattle.std.proofs.lemmas.List.{get_or_read}
use Rattle.lama_snapshot.specs.Shown.{shown, columns_of}
use Rattle.lama_model.specs.Row.{row_at}
use Rattle.lama_snapshot.specs.Cells.{visible}
use Rattle.lama_snapshot.specs.Chains.{place_row, place_cells, IsPlace}
use Rattle.lama_snapshot.specs.Snap.{Snap, no_record}
use Rattle.lama_snapshot.proofs.ChainLemmas.{length-rows_from, row-visible}
use Rattle.lama_snapshot.proofs.StepLemmas.{record-row}
use Rattle.lama_snapshot.proofs.snapshot.Snapshot.row_place.Goals as goal

pub get-record-requires : goal.get-record-requires
get-record-requires c =
    let n = length-rows_from (shown c.self.inside).layout (columns_of c.self.inside) c.self.inside.vertices in
    let is = ap (λ (s : Snap). length s.rows) c.self.view_is in
    let r = c.requires in
    omega (arith, n, is, r)

pub returns : goal.returns
returns c =
    let l = (shown c.self.inside).layout in
    let cols = columns_of c.self.inside in
    let records = c.self.inside.vertices in
    let n = length-rows_from l cols records in
    let is = ap (λ (s : Snap). length s.rows) c.self.view_is in
    let r = c.requires in
    let lt : c.args.v < length records = omega (arith, n, is, r) in
    let rec = record-row l cols records c.args.v c.get-record.result lt (get_or_read records c.args.v c.get-record.result lt c.get-record.ensures no_record) (c.self.invariant.snap.records_ok c.args.v lt) in
    let p = c.place_of.ensures in
    let at = c.place_of.result in
    let leads : place_row l c.args.v at.level at.offset at.left ≡ Some (get_or (shown c.self.inside).cells c.args.v []) =
    p.row l (sym (ap (λ x. x.number) c.deref.ensures)) (sym (ap (λ x. x.rows) c.deref.ensures)) ∙ rec.leads in
    let same : place_row l at.v at.level at.offset at.left ≡ Some (get_or (shown c.self.inside).cells c.args.v []) = ap (λ k. place_row l k at.level at.offset at.left) p.v ∙ leads in
    let P : Snap → Type 0 = λ s. record { place : IsPlace s.layout (length s.rows) at.v at.level at.offset at.left; cells : place_cells s.layout at.v at.level at.offset at.left ≡ get_or s.cells c.args.v []; row : visible s.columns (get_or s.cells c.args.v []) ≡ row_at s.rows c.args.v } in
    let b = ap (λ x. x.number) c.deref.ensures in
    let lev = rec.level in
    let down : at.level ≤ l.floor + length l.levels = elim (cases_lt l.floor c.get-record.result.level) [ inl h ↦ (let e = p.in_level (omega (arith, b, h)) in omega (arith, e, lev)) | inr h ↦ (let e = p.in_base (omega (arith, b, h)) in omega (arith, e, b)) ] in
    let here : P (shown c.self.inside) = record {
      place = record { vertex = let e = p.v in omega (arith, e, n, lt); within = down; some = subst IsSome (sym same) refl };
      cells = ap (λ x. unwrap_or x []) same;
      row = sym (row-visible cols (shown c.self.inside).cells c.args.v);
    } in
    subst P c.self.view_is here
