use Rattle.std.proofs.Common.{◌≡◌, ◌∙◌, ◌≤◌, ◌++◌, ◌∷◌, [], get_or, map, ap, sym, subst, arith}
use Rattle.std.specs.Prelude.{Some}
use Rattle.std.proofs.lemmas.List.{append_assoc}
use Rattle.lama_edges.specs.declared.records.Slot.TheVariants.{Edge}
use Rattle.lama_snapshot.specs.Chains.{place_cells}
use Rattle.lama_snapshot.specs.History.{targets_then, row_then}
use Rattle.lama_snapshot.specs.Snap.{Snap, floor_of}
use Rattle.lama_snapshot.proofs.Earlier.{then-takes, then-passes}
use Rattle.lama_snapshot.proofs.snapshot.Snapshot.row_as_of.Goals as goal

pub loop-cell-init : goal.loop-cell-init
loop-cell-init c =
    let s = c.args.self.now in
    let i = c.self.inside in
    let P : Snap → Type 0 = λ x. floor_of x ≤ c.args.k → c.args.k ≤ x.number → targets_then (floor_of x) x.columns c.args.k (get_or x.cells c.args.v []) ≡ map (λ p. p.0) (row_then (floor_of x) x.base.rows x.changes c.args.k c.args.v) in
    let is = c.self.invariant.snap.number_is in
    let told : P s = subst P c.self.view_is (λ low high. c.self.invariant.history.before c.args.v c.args.k low (omega (arith, high, is))) in
    record {
      place = c.row_place-at.ensures.place;
      so_far = ap (λ xs. xs ++ targets_then (floor_of s) s.columns c.args.k (place_cells s.layout c.row_place-at.result.v c.row_place-at.result.level c.row_place-at.result.offset c.row_place-at.result.left)) c.new-targets.ensures.items
          ∙ (ap (targets_then (floor_of s) s.columns c.args.k) c.row_place-at.ensures.cells ∙ told c.requires.from_floor c.requires.to_number);
    }

pub loop-cell-preserved-in_ok-push : goal.loop-cell-preserved-in_ok-push
loop-cell-preserved-in_ok-push c =
    let s = c.args.self.now in let cell = c.in-Some.cell in let at = c.in-Some.rest in let f = c.in-Some.ensures in
    let row = place_cells s.layout at.v at.level at.offset at.left in
    let some : Some (Edge f.3.target) ≡ Some (Edge c.target_at.result) = sym f.3.slot_is ∙ c.target_at.ensures in
    let target : f.3.target ≡ c.target_at.result = cc in
    let now = ap (targets_then (floor_of s) s.columns c.args.k) f.3.first ∙ then-takes (floor_of s) s.columns c.args.k (f.3.target, cell) row (sym (c.was_there.ensures f.3.target) ∙ c.if-was_there.true) in
    record {
      place = f.0;
      so_far = ap (λ xs. xs ++ targets_then (floor_of s) s.columns c.args.k row) c.in_ok-push.ensures.items
          ∙ (append_assoc c.loop-cell.targets.items (c.target_at.result ∷ []) (targets_then (floor_of s) s.columns c.args.k row)
          ∙ (ap (λ t. c.loop-cell.targets.items ++ t ∷ targets_then (floor_of s) s.columns c.args.k row) (sym target)
          ∙ (ap (λ xs. c.loop-cell.targets.items ++ xs) (sym now) ∙ c.loop-cell.invariant.so_far)));
    }

pub loop-cell-preserved : goal.loop-cell-preserved
loop-cell-preserved c =
    let s = c.args.self.now in let cell = c.in-Some.cell in let at = c.in-Some.rest in let f = c.in-Some.ensures in
    let row = place_cells s.layout at.v at.level at.offset at.left in
    let now = ap (targets_then (floor_of s) s.columns c.args.k) f.3.first ∙ then-passes (floor_of s) s.columns c.args.k (f.3.target, cell) row (sym (c.was_there.ensures f.3.target) ∙ c.if-was_there.false) in
    record { place = f.0; so_far = ap (λ xs. c.loop-cell.targets.items ++ xs) (sym now) ∙ c.loop-cell.invariant.so_far }
