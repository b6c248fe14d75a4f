use Rattle.std.proofs.Common.{◌≡◌, ◌∙◌, refl, ℕ, ◌+◌, ◌-◌, ◌++◌, List, [], ◌∷◌, length, replicate, map, ap, sym, subst, arith}
use Rattle.std.specs.Prelude.{All}
use Rattle.std.specs.Arc.{arc_value}
use Rattle.lama_model.specs.Row.{edges_in}
use Rattle.lama_model.specs.Change.{RowChange, Change, IsChange}
use Rattle.lama_model.specs.Fits.{HasIndexes}
use Rattle.lama_snapshot.specs.Shown.{shown, columns_of}
use Rattle.lama_snapshot.specs.Snap.{Snap, layout_of}
use Rattle.lama_snapshot.specs.Cells.{Columns}
use Rattle.lama_snapshot.specs.Found.{killed_slots, set_slots, AreHidden, AreSet}
use Rattle.lama_snapshot.specs.Written.{IsWithin}
use Rattle.lama_snapshot.proofs.ChainLemmas.{length-rows_from}
use Rattle.lama_snapshot.proofs.Limits.{edges-records}
use Rattle.lama_snapshot.specs.Levels.{table_of}
use Rattle.lama_snapshot.specs.NewLevel.{IsNewLevel}
use Rattle.lama_snapshot.specs.declared.level.Level.{Level}
use Rattle.lama_array.specs.contracts.version.VArray.{the_view}
use Rattle.lama_edges.specs.contracts.records.VertexRec.{the_row}
use Rattle.lama_snapshot.proofs.SnapAfter.{degrees-grown, within-before, AreAfter}
use Rattle.lama_snapshot.proofs.Change.{stands_of, hidden_by, weighed_by}
use Rattle.lama_snapshot.proofs.HistoryAfter.{IsApplied, applied}
use Rattle.lama_snapshot.proofs.snapshot.Snapshot.apply.Given as given
use Rattle.lama_snapshot.proofs.snapshot.Snapshot.apply.Goals as goal

pub columns_after-requires : goal.columns_after-requires
columns_after-requires g c = subst (All (HasIndexes c.args.self.now.rows)) (sym (c.rows.ensures.rows ∙ ap (λ (x : Change). x.rows) c.deref-wanted.ensures)) c.requires.indexes

pub write_level-requires-clause-grows : goal.write_level-requires-clause-grows
write_level-requires-clause-grows g c =
    let n = length-rows_from (shown c.self.inside).layout (columns_of c.self.inside) c.self.inside.vertices in
    let is = ap (λ (s : Snap). length s.rows) c.self.view_is in
    let m = ap (λ (x : Change). x.count) c.deref-wanted.ensures in
    let r = c.requires.grows in
    omega (arith, n, is, m, r)

pub write_level-requires-clause-within : goal.write_level-requires-clause-within
write_level-requires-clause-within g c =
    let w : Change = arc_value c.args.change in
    let valid : IsChange w = subst IsChange (c.wanted.view_is ∙ c.deref-wanted.ensures) c.wanted.invariant in
    let l = (shown c.self.inside).layout in
    let cols = columns_of c.self.inside in
    let n = length-rows_from l cols c.self.inside.vertices in
    let is = ap (λ (s : Snap). length s.rows) c.self.view_is in
    let r = c.requires.grows in
    let ok = within-before c.self.inside.number c.self.inside.edge_count c.self.inside.vertices (shown c.self.inside).base l.levels cols c.self.invariant.snap w.count (omega (arith, n, is, r)) w.rows valid.rows
    (subst (λ (s : Snap). All (HasIndexes s.rows) w.rows) (sym c.self.view_is) c.requires.indexes) in
    subst (λ (x : Change). All (IsWithin (c.self.inside.vertices ++ replicate (x.count - length c.self.inside.vertices) (record { level = 0; offset = 0; len = 0; degree = 0 }))) x.rows) (sym c.deref-wanted.ensures) ok

pub overflow_sub-result : goal.overflow_sub-result
overflow_sub-result g c =
    let level = c.in_ok-vertices.ensures.level in
    let k = level.killed in let a = level.added in
    let d = level.written.degrees in
    let before = degrees-grown c.self.inside.vertices c.deref-wanted.result.now.count in
    let e = c.self.invariant.snap.edges in
    omega (arith, k, a, d, before, e)

-- the columns of the result are those of the levels before, with what the change hides and weighs, and the new level's
columns-here : (g : given.Over) (c : goal.In_ok-try_clone g) →
    (let s = shown c.self.inside in let w : Change = arc_value c.args.change in let sts = stands_of s.columns s.cells in
    AreAfter w.number (hidden_by sts w.rows) (weighed_by sts w.rows) s.columns (record { marks = c.push.new.self.items; weights = c.push-2.new.self.items }) (length c.in_ok-vertices.field-0.edges) c.in_ok-vertices.field-0.weights)
columns-here g c =
    let w : Change = arc_value c.args.change in
    let s : Snap = shown c.self.inside in
    let rows = c.rows.ensures.rows ∙ ap (λ (x : Change). x.rows) c.deref-wanted.ensures in
    let n : c.wanted.inside.number ≡ w.number = ap (λ (x : Change). x.number) (c.wanted.view_is ∙ c.deref-wanted.ensures) in
    let P : Snap × List RowChange × ℕ → Type 0 = λ p. AreHidden (killed_slots p.0 p.1) p.2 p.0.columns.marks c.in_ok-hidden.hidden.items in
    let Q : Snap × List RowChange → Type 0 = λ p. AreSet (set_slots p.0 p.1) p.0.columns.weights c.in_ok-hidden.marked.items in
    record {
      hidden = c.in_ok-hidden.hidden.items;
      marks = c.in_ok-push.ensures.items ∙ ap (λ x. c.in_ok-hidden.hidden.items ++ x ∷ []) (c.in_ok-standing_above.ensures.marks ∙ ap (λ k. replicate k 0) c.len.ensures);
      are_hidden = subst P (λ j. (sym c.self.view_is j, rows j, n j)) c.in_ok-hidden.ensures.marks;
      weighed = c.in_ok-hidden.marked.items;
      weights_are = c.in_ok-push-2.ensures.items ∙ ap (λ x. c.in_ok-hidden.marked.items ++ x ∷ []) refl;
      are_set = subst Q (λ j. (sym c.self.view_is j, rows j)) c.in_ok-hidden.ensures.weights;
    }

applied-here : (g : given.Over) (c : goal.In_ok-try_clone g) →
    IsApplied c.args.self.now (arc_value c.args.change) c.self.inside.edge_count c.wanted.inside.number (c.self.inside.edge_count + c.in_ok-vertices.field-0.added - c.in_ok-vertices.field-0.killed) (the_view the_row c.vertices.inside) (arc_value c.in_ok-try_clone.field-0) (map arc_value c.in_ok-levels.levels.items)
    (record { marks = c.push.new.self.items; weights = c.push-2.new.self.items })
applied-here g c =
    let w : Change = arc_value c.args.change in
    let now : c.deref-wanted.result.now ≡ w = c.deref-wanted.ensures in
    let valid : IsChange w = subst IsChange (c.wanted.view_is ∙ now) c.wanted.invariant in
    let levels : List Level = map arc_value c.self.inside.levels.items in
    let made : Level = arc_value c.in_ok-new.field-0 in
    let new : IsNewLevel c.self.inside.vertices w c.in_ok-vertices.field-0 = subst (λ x. IsNewLevel c.self.inside.vertices x c.in_ok-vertices.field-0) now c.in_ok-vertices.ensures.level in
    let all : map arc_value c.in_ok-levels.levels.items ≡ levels ++ made ∷ [] = c.in_ok-levels.ensures ∙ ap (λ xs. map arc_value xs ++ made ∷ []) c.deref.ensures.value in
    let n : c.wanted.inside.number ≡ w.number = ap (λ (x : Change). x.number) (c.wanted.view_is ∙ now) in
    let b : arc_value c.in_ok-try_clone.field-0 ≡ arc_value c.self.inside.base = c.in_ok-try_clone.ensures in
    applied c.self.inside.number c.self.inside.edge_count c.self.inside.vertices (arc_value c.self.inside.base) levels (columns_of c.self.inside) c.self.invariant.snap c.self.invariant.history c.args.self.now (ap (λ (s : Snap). s.number) c.self.view_is) (ap (λ (s : Snap). s.rows) c.self.view_is) w valid c.requires
    c.in_ok-vertices.field-0 new made (ap (λ (x : Level). x.edges) c.in_ok-new.ensures.ok) (ap (λ (x : Level). arc_value x.change) c.in_ok-new.ensures.ok) (map arc_value c.in_ok-levels.levels.items) all
    (record { marks = c.push.new.self.items; weights = c.push-2.new.self.items }) (columns-here g c)
    c.wanted.inside.number n (the_view the_row c.vertices.inside) c.vertices.view_is (arc_value c.in_ok-try_clone.field-0) b

pub invariant_of-result-2 : goal.invariant_of-result-2
invariant_of-result-2 g c = record { snap = (applied-here g c).snap; history = (applied-here g c).history }

pub returns-clause-count : goal.returns-clause-count
returns-clause-count g c = (applied-here g c).count

pub returns-clause-rows : goal.returns-clause-rows
returns-clause-rows g c = (applied-here g c).rows

pub returns-clause-edges : goal.returns-clause-edges
returns-clause-edges g c =
    let after = applied-here g c in
    let l' = layout_of (arc_value c.in_ok-try_clone.field-0) (map table_of (map arc_value c.in_ok-levels.levels.items)) in
    let cols' : Columns = record { marks = c.push.new.self.items; weights = c.push-2.new.self.items } in
    let new = edges-records l' cols' (the_view the_row c.vertices.inside) after.snap.records_ok in
    let sum = after.snap.edges in
    let old = edges-records (shown c.self.inside).layout (columns_of c.self.inside) c.self.inside.vertices c.self.invariant.snap.records_ok in
    let before = c.self.invariant.snap.edges in
    let whole = after.whole in
    let is = ap (λ (s : Snap). edges_in s.rows) c.self.view_is in
    omega (arith, new, sum, old, before, whole, is)
