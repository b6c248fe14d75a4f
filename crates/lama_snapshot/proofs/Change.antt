-- The rows of a snapshot after a change.
use Rattle.std.proofs.Common.{◌≡◌, ◌≢◌, ◌∙◌, ℕ, ◌+◌, ◌-◌, ◌<◌, ◌≤◌, List, [], ◌∷◌, ◌++◌, length, get_or, map, refl, sym, ap, subst, arith, inl, inr, ◌⊎◌, true, false, cond, eqb}
use Rattle.std.specs.Prelude.{unwrap_or, All, flat_map}
use Rattle.std.specs.List.{AllByRecursion}
use Rattle.std.proofs.lemmas.Bool.{cases_lt, cases_eq}
use Rattle.std.proofs.lemmas.Bool.Decides.{nat_tests}
use Rattle.std.proofs.lemmas.List.{length-append, length_push, get_or_past}
use Rattle.std.proofs.lemmas.List.Elements.{All-head, All-tail, All-push, All-nil, All-get_or, All-from_get_or, recursion_from_All}
use Rattle.std.proofs.lemmas.List.Sums.{sum_by-cons}
use Rattle.lama_edges.specs.declared.records.VertexRec.{VertexRec}
use Rattle.lama_model.specs.Row.{row_at}
use Rattle.lama_model.specs.Change.{RowChange, Change, IsRowChange, IsChange, surviving, row_after}
use Rattle.lama_model.specs.Bounds.{added_edges, killed_edges}
use Rattle.lama_model.specs.Fits.{Fits, HasIndexes}
use Rattle.lama_delta.proofs.Rising.{Rises, rises-from}
use Rattle.lama_snapshot.specs.declared.level.Cell.{Cell}
use Rattle.lama_snapshot.specs.BaseRows.{Numbered}
use Rattle.lama_snapshot.specs.Cells.{Columns, standing, visible, AreApart}
use Rattle.lama_snapshot.specs.Chains.{Table, Layout, fragment_sources, cells_of, rows_from, AreOwned}
use Rattle.lama_snapshot.specs.Snap.{no_record, layout_of, IsSnap, IsTable}
use Rattle.lama_snapshot.specs.Written.{IsWritten, level_sources, slots_of}
use Rattle.lama_snapshot.proofs.CellsFrom.{length-fragment_sources}
use Rattle.lama_snapshot.specs.History.{targets_then}
use Rattle.lama_snapshot.proofs.ChainLemmas.{length-cells_of, cells_of-at, length-rows_from, row-visible}
use Rattle.lama_snapshot.proofs.Limits.{edges-records}
use Rattle.lama_snapshot.proofs.Standing.{owned-standing, apart-standing, slots_at, values_at}
use Rattle.lama_snapshot.proofs.Surviving.{added_for, killed_for, set_for, row_after-for, length-surviving, old-visible, found-rows, value-rows}
use Rattle.lama_snapshot.proofs.Walks.{length-visible}
use Rattle.lama_snapshot.proofs.Applied.{LeadsNew, leads-after}
use Rattle.lama_snapshot.proofs.Known.{row-owned}
use Rattle.lama_snapshot.proofs.SnapAfter.{grown, length-grown, degrees-grown, leads-before, targets-after, AreAfter, columns-after, mark-after, weight-after, new-marks, new-weights}

-- the edges that stand in the row of each vertex
abbrev pub stands_of : Columns → List (List (ℕ × Cell)) → ℕ → List (ℕ × Cell)
stands_of cols cells u = standing cols (get_or cells u [])

-- the slots that a change hides, and those that it weighs
abbrev pub hidden_by : (ℕ → List (ℕ × Cell)) → List RowChange → List (ℕ × ℕ)
hidden_by sts rows = flat_map (λ r. slots_at (sts r.source) r.killed) rows

abbrev pub weighed_by : (ℕ → List (ℕ × Cell)) → List RowChange → List (ℕ × (ℕ × ℕ))
weighed_by sts rows = flat_map (λ r. values_at (sts r.source) r.set) rows

-- indexes of rows are those of edges that stand
up-to : (m n : ℕ) (ks : List ℕ) → m ≡ n → AllByRecursion (λ k. k < m) ks → AllByRecursion (λ k. k < n) ks
up-to m n [] is h = tt
up-to m n (k ∷ ks) is h = ((let a = h.0 in omega (arith, a, is)), up-to m n ks is h.1)

pairs-up-to : (m n : ℕ) (ps : List (ℕ × ℕ)) → m ≡ n → AllByRecursion (λ (p : ℕ × ℕ). p.0 < m) ps → AllByRecursion (λ (p : ℕ × ℕ). p.0 < n) ps
pairs-up-to m n [] is h = tt
pairs-up-to m n (p ∷ ps) is h = ((let a = h.0 in omega (arith, a, is)), pairs-up-to m n ps is h.1)

pub kills-below : (cols : Columns) (cells : List (List (ℕ × Cell))) (rows : List RowChange) → All (HasIndexes (map (visible cols) cells)) rows → AllByRecursion (λ (r : RowChange). AllByRecursion (λ k. k < length (stands_of cols cells r.source)) r.killed) rows
kills-below cols cells [] ok = tt
kills-below cols cells (c ∷ rows) ok = (
  up-to (length (row_at (map (visible cols) cells) c.source)) (length (stands_of cols cells c.source)) c.killed (ap length (row-visible cols cells c.source) ∙ length-visible cols (get_or cells c.source []))
      (recursion_from_All (λ k. k < length (row_at (map (visible cols) cells) c.source)) c.killed (All-head (HasIndexes (map (visible cols) cells)) c rows ok).killed),
  kills-below cols cells rows (All-tail (HasIndexes (map (visible cols) cells)) c rows ok),
)

sets-below : (cols : Columns) (cells : List (List (ℕ × Cell))) (rows : List RowChange) → All (HasIndexes (map (visible cols) cells)) rows → AllByRecursion (λ (r : RowChange). AllByRecursion (λ (p : ℕ × ℕ). p.0 < length (stands_of cols cells r.source)) r.set) rows
sets-below cols cells [] ok = tt
sets-below cols cells (c ∷ rows) ok = (
  pairs-up-to (length (row_at (map (visible cols) cells) c.source)) (length (stands_of cols cells c.source)) c.set (ap length (row-visible cols cells c.source) ∙ length-visible cols (get_or cells c.source []))
      (recursion_from_All (λ (p : ℕ × ℕ). p.0 < length (row_at (map (visible cols) cells) c.source)) c.set (All-head (HasIndexes (map (visible cols) cells)) c rows ok).set),
  sets-below cols cells rows (All-tail (HasIndexes (map (visible cols) cells)) c rows ok),
)

sets-rise : (count : ℕ) (rows : List RowChange) → All (IsRowChange count) rows → AllByRecursion (λ (r : RowChange). Rises (map (λ (p : ℕ × ℕ). p.0) r.set)) rows
sets-rise count [] valid = tt
sets-rise count (c ∷ rows) valid = (rises-from (map (λ (p : ℕ × ℕ). p.0) c.set) (All-head (IsRowChange count) c rows valid).set, sets-rise count rows (All-tail (IsRowChange count) c rows valid))

-- what is killed in the row of v rises, and is in it
record KillsOk (n : ℕ) (ks : List ℕ) : Type 0 where
  rises : Rises ks
  from : AllByRecursion (λ k. 0 ≤ k) ks
  below : AllByRecursion (λ k. k < 0 + n) ks

kills-ok : (count : ℕ) (given : List (List (ℕ × ℕ))) (rows : List RowChange) (v : ℕ) → All (IsRowChange count) rows → All (HasIndexes given) rows → KillsOk (length (row_at given v)) (killed_for rows v)
kills-ok count given [] v valid ok = record { rises = tt; from = tt; below = tt }
kills-ok count given (c ∷ rows) v valid ok = by (cases_eq c.source v) (kills-ok count given rows v (All-tail (IsRowChange count) c rows valid) (All-tail (HasIndexes given) c rows ok))
  where
    zero-le : (ks : List ℕ) → AllByRecursion (λ k. 0 ≤ k) ks
    zero-le [] = tt
    zero-le (k ∷ ks) = (omega arith, zero-le ks)

    by : (c.source ≡ v) ⊎ (c.source ≢ v) → KillsOk (length (row_at given v)) (killed_for rows v) → KillsOk (length (row_at given v)) (cond (eqb c.source v) c.killed (killed_for rows v))
    by (inl is) rest =
        let here : eqb c.source v ≡ true = grind (arith, nat_tests, is) in
        let n : length (row_at given c.source) ≡ 0 + length (row_at given v) = ap (λ u. length (row_at given u)) is ∙ omega arith in
        subst (λ b. KillsOk (length (row_at given v)) (cond b c.killed (killed_for rows v))) (sym here) (record {
          rises = rises-from c.killed (All-head (IsRowChange count) c rows valid).killed;
          from = zero-le c.killed;
          below = up-to (length (row_at given c.source)) (0 + length (row_at given v)) c.killed n (recursion_from_All (λ k. k < length (row_at given c.source)) c.killed (All-head (HasIndexes given) c rows ok).killed);
        })
    by (inr ne) rest =
        let other : eqb c.source v ≡ false = grind (arith, nat_tests, ne) in
        subst (λ b. KillsOk (length (row_at given v)) (cond b c.killed (killed_for rows v))) (sym other) rest

-- the fields stand for the rows after the change
pub record IsAfter (n e e' : ℕ) (records : List VertexRec) (base : Numbered) (levels : List Table) (cols cols' : Columns) (c : Change) (t : Table) (new : List VertexRec) : Type 0 where
  pub snap : IsSnap c.number e' new base (levels ++ t ∷ []) cols'
  pub count : length (rows_from (layout_of base (levels ++ t ∷ [])) cols' new) ≡ c.count
  pub rows : (v : ℕ) → v < c.count → row_at (rows_from (layout_of base (levels ++ t ∷ [])) cols' new) v ≡ row_after c.rows v (row_at (rows_from (layout_of base levels) cols records) v)
  pub whole : e' + killed_edges c ≡ e + added_edges c
  pub older : (v k : ℕ) → k - base.number < length levels + 1 → targets_then base.number cols' k (get_or (cells_of (layout_of base (levels ++ t ∷ [])) new) v []) ≡ targets_then base.number cols' k (get_or (cells_of (layout_of base levels) records) v [])

pub snap-after : (n e : ℕ) (records : List VertexRec) (base : Numbered) (levels : List Table) (cols : Columns) → IsSnap n e records base levels cols → (c : Change) → IsChange c → Fits n (rows_from (layout_of base levels) cols records) c →
    (t : Table) → IsTable t → t.sources ≡ level_sources c.rows → (weights : List ℕ) → length t.slots ≡ length weights → (new : List VertexRec) → IsWritten c.number (grown records c.count) c.rows t.slots weights new →
    (cols' : Columns) → (let sts = stands_of cols (cells_of (layout_of base levels) records) in AreAfter c.number (hidden_by sts c.rows) (weighed_by sts c.rows) cols cols' (length t.slots) weights) →
    (e' : ℕ) → e' ≡ e + added_edges c - killed_edges c → IsAfter n e e' records base levels cols cols' c t new
snap-after n e records base levels cols h c valid fits t table sources weights wide new w cols' a e' e'-is =
    let len = length-rows_from l cols records in
    let grows = fits.grows in
    let le : length records ≤ c.count = omega (arith, len, grows) in
    let size = length-grown records c.count le in
    let same = w.len in
    let many : length new ≡ c.count = omega (arith, size, same) in
    let next = fits.next in
    let is = h.number_is in
    let up : c.number ≡ base.number + length levels + 1 = omega (arith, next, is) in
    let more : length (levels ++ t ∷ []) ≡ length levels + 1 = length_push levels t in
    let leads : (v : ℕ) → v < c.count → LeadsNew l' cols' v c.number (get_or (grown records c.count) v no_record) (get_or new v no_record) (get_or cells v []) c.rows = λ v lt.
    subst (λ r. LeadsNew l' cols' v c.number (get_or (grown records c.count) v no_record) r (get_or cells v []) c.rows) (sym (w.records_are v (omega (arith, size, lt))))
    (leads-after base levels t cols cols' v c.number (grown records c.count) (get_or cells v []) c.rows [] [] [] up w.slots_are sources (new-weights c.number hidden weighed base levels cols cols' (length t.slots) weights h.columns a ∙ w.weights_are) refl refl
    (new-marks c.number hidden weighed base levels cols cols' (length t.slots) weights h.columns a) (leads-before n e records base levels cols h c.count v le lt)) in
    let old : (v : ℕ) → visible cols' (get_or cells v []) ≡ surviving 0 (killed_for c.rows v) (set_for c.rows v) (visible cols (get_or cells v [])) = λ v.
    old-visible l cols cols' c.number hidden weighed v (get_or cells v []) (row-owned n e records base levels cols h v).0 (λ none. omega (arith, none, next))
    (λ x own. mark-after c.number hidden weighed l cols cols' (length t.slots) weights h.columns a x v own) (λ x own. weight-after c.number hidden weighed l cols cols' (length t.slots) weights h.columns a x v own) (killed_for c.rows v) (set_for c.rows v)
    (λ j lt. found-rows l sts owns aparts v j lt c.rows (rises-from (map (λ (r : RowChange). r.source) c.rows) valid.rising) (kills-below cols cells c.rows fits.indexes))
    (λ j lt x. value-rows l sts owns aparts v j lt c.rows (rises-from (map (λ (r : RowChange). r.source) c.rows) valid.rising) (sets-below cols cells c.rows fits.indexes) (sets-rise c.count c.rows valid.rows) x) in
    let seen : (v : ℕ) (lt : v < c.count) → visible cols' (leads v lt).row ≡ row_after c.rows v (visible cols (get_or cells v [])) = λ v lt.
    (leads v lt).seen ∙ (ap (λ xs. added_for c.rows v ++ xs) (old v) ∙ sym (row_after-for c.rows v (visible cols (get_or cells v [])))) in
    let degree : (v : ℕ) (lt : v < c.count) → (get_or new v no_record).degree ≡ length (visible cols' (leads v lt).row) = λ v lt. (
    let d = (leads v lt).degree in
    let before = (leads-before n e records base levels cols h c.count v le lt).degree in
    let ok = kills-ok c.count (rows_from l cols records) c.rows v valid.rows fits.indexes in
    let m = ap length (row-visible cols cells v) in
    let gone = length-surviving 0 (killed_for c.rows v) (set_for c.rows v) (visible cols (get_or cells v [])) ok.rises ok.from (up-to (0 + length (row_at (rows_from l cols records) v)) (0 + length (visible cols (get_or cells v []))) (killed_for c.rows v) (omega (arith, m)) ok.below) in
    let s = ap length (leads v lt).seen in
    let s' = length-append (added_for c.rows v) (visible cols' (get_or cells v [])) in
    let o = ap length (old v) in
    omega (arith, d, before, gone, s, s', o)) in
    let len' = length-rows_from l' cols' new in
    let row : (v : ℕ) → v < c.count → row_at (rows_from l' cols' new) v ≡ row_after c.rows v (row_at (rows_from l cols records) v) = λ v lt.
    row-visible cols' (cells_of l' new) v
    ∙ (ap (visible cols') (cells_of-at l' new v (omega (arith, many, lt)) ∙ ap (λ o. unwrap_or o []) (leads v lt).leads)
    ∙ (seen v lt ∙ ap (row_after c.rows v) (sym (row-visible cols cells v)))) in
    let sums = w.degrees in
    let before = degrees-grown records c.count in
    let counted = h.edges in
    let known = edges-records l cols records h.records_ok in
    let room = fits.edges in
    let small = fits.vertices in
    let few = h.base_rows in
    record {
      snap = record {
        number_is = omega (arith, up, more);
        number = fits.limit;
        vertices = omega (arith, many, small);
        records_ok = λ v lt. (let b : v < c.count = omega (arith, lt, many) in let d = (leads v b).level in record {
          level = omega (arith, d, up, more);
          row = (leads v b).row;
          leads = (leads v b).leads;
          degree = degree v b;
          own = (leads v b).own;
          apart = (leads v b).apart;
        });
        tables = All-push IsTable levels t h.tables table;
        columns = columns-after c.number hidden weighed base levels t cols cols' weights h.columns table.sources (sym wide) a;
        edges = omega (arith, sums, before, counted, e'-is);
        few = omega (arith, counted, known, room, e'-is);
        targets = All-from_get_or (λ r. All (λ p. p.0 < length new) r) (rows_from l' cols' new) [] (λ v lt. (let b : v < c.count = omega (arith, lt, len', many) in
            subst (All (λ p. p.0 < length new)) (sym (row v b))
            (subst (λ k. All (λ p. p.0 < k) (row_after c.rows v (row_at (rows_from l cols records) v))) (sym many)
            (targets-after (length records) c.count v (row_at (rows_from l cols records) v) le (row-below v) c.rows valid.rows))));
        base_rows = omega (arith, few, le, many);
        base_slots = h.base_slots;
      };
      count = omega (arith, len', many);
      rows = row;
      whole = omega (arith, sums, before, counted, e'-is);
      older = λ v k lt. past v (leads v) k (omega (arith, lt, more)) many le (cases_lt v c.count);
    }
  where
    past : (v : ℕ) → ((v < c.count) → LeadsNew (layout_of base (levels ++ t ∷ [])) cols' v c.number (get_or (grown records c.count) v no_record) (get_or new v no_record) (get_or (cells_of (layout_of base levels) records) v []) c.rows) →
        (k : ℕ) → k - base.number < length (levels ++ t ∷ []) → length new ≡ c.count → length records ≤ c.count → (v < c.count) ⊎ (c.count ≤ v) →
        targets_then base.number cols' k (get_or (cells_of (layout_of base (levels ++ t ∷ [])) new) v []) ≡ targets_then base.number cols' k (get_or (cells_of (layout_of base levels) records) v [])
    past v leads k lt many le (inl b) =
        ap (targets_then base.number cols' k) (cells_of-at (layout_of base (levels ++ t ∷ [])) new v (omega (arith, many, b)) ∙ ap (λ o. unwrap_or o []) (leads b).leads) ∙ (leads b).older k lt
    past v leads k lt many le (inr ge) =
        let m = length-cells_of (layout_of base (levels ++ t ∷ [])) new in
        let m' = length-cells_of (layout_of base levels) records in
        ap (targets_then base.number cols' k) (get_or_past (cells_of (layout_of base (levels ++ t ∷ [])) new) v [] (omega (arith, m, many, ge)) ∙ sym (get_or_past (cells_of (layout_of base levels) records) v [] (omega (arith, m', le, ge))))

    l : Layout
    l = layout_of base levels

    l' : Layout
    l' = layout_of base (levels ++ t ∷ [])

    cells : List (List (ℕ × Cell))
    cells = cells_of (layout_of base levels) records

    sts : ℕ → List (ℕ × Cell)
    sts = stands_of cols (cells_of (layout_of base levels) records)

    hidden : List (ℕ × ℕ)
    hidden = hidden_by (stands_of cols (cells_of (layout_of base levels) records)) c.rows

    weighed : List (ℕ × (ℕ × ℕ))
    weighed = weighed_by (stands_of cols (cells_of (layout_of base levels) records)) c.rows

    owns : (u : ℕ) → AreOwned (layout_of base levels) u (stands_of cols (cells_of (layout_of base levels) records) u)
    owns u = owned-standing (layout_of base levels) cols u (get_or (cells_of (layout_of base levels) records) u []) (row-owned n e records base levels cols h u).0

    aparts : (u : ℕ) → AreApart (stands_of cols (cells_of (layout_of base levels) records) u)
    aparts u = apart-standing cols (get_or (cells_of (layout_of base levels) records) u []) (row-owned n e records base levels cols h u).1

    row-below : (v : ℕ) → All (λ p. p.0 < length records) (row_at (rows_from (layout_of base levels) cols records) v)
    row-below v = by (cases_lt v (length (rows_from (layout_of base levels) cols records)))
      where
        by : (v < length (rows_from (layout_of base levels) cols records)) ⊎ (length (rows_from (layout_of base levels) cols records) ≤ v) → All (λ p. p.0 < length records) (row_at (rows_from (layout_of base levels) cols records) v)
        by (inl lt) = All-get_or (λ r. All (λ p. p.0 < length records) r) (rows_from (layout_of base levels) cols records) v [] lt h.targets
        by (inr ge) = subst (All (λ p. p.0 < length records)) (sym (get_or_past (rows_from (layout_of base levels) cols records) v [] ge)) (All-nil (λ p. p.0 < length records))

-- a level has as many sources as slots
pub length-level_sources : (rows : List RowChange) → length (level_sources rows) ≡ slots_of rows
length-level_sources [] = refl
length-level_sources (c ∷ rows) =
    let a = length-append (fragment_sources c.source c.added) (level_sources rows) in
    let b = length-fragment_sources c.source c.added in
    let d = length-level_sources rows in
    let f = sum_by-cons (λ (c : RowChange). length c.added + 1) c rows in
    omega (arith, a, b, d, f)
