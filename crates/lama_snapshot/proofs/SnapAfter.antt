-- A snapshot after a change.
use Rattle.std.proofs.Common.{◌≡◌, ◌≢◌, ◌∙◌, ℕ, ◌+◌, ◌-◌, ◌<◌, ◌≤◌, List, [], ◌∷◌, ◌++◌, length, get_or, replicate, take, sym, ap, subst, arith, inl, inr, ◌⊎◌, Bool, true, false, cond, eqb, Some}
use Rattle.std.specs.Prelude.{All, sum_by, slice_index}
use Rattle.std.specs.List.{AllByRecursion}
use Rattle.std.proofs.lemmas.Bool.{cases_lt, cases_eq}
use Rattle.std.proofs.lemmas.List.{length-append, length_push, length-replicate, get_or_append_left, get_or-append-add, get_or-replicate, get_or_past, get_or_push}
use Rattle.std.proofs.lemmas.List.Elements.{All-head, All-tail, All-append, All-nil, All-from_recursion, recursion_from_All}
use Rattle.std.proofs.lemmas.List.Sums.{sum_by-append}
use Rattle.std.proofs.lemmas.List.Folds.{sum_by-replicate}
use Rattle.std.proofs.lemmas.Option.{slice_get_within}
use Rattle.lama_edges.specs.declared.records.VertexRec.{VertexRec}
use Rattle.lama_model.specs.Row.{row_at}
use Rattle.lama_model.specs.Change.{RowChange, IsRowChange, has_index, weight_set, surviving, row_after}
use Rattle.lama_model.specs.Fits.{HasIndexes}
use Rattle.lama_snapshot.specs.declared.level.Cell.{Cell}
use Rattle.lama_snapshot.specs.BaseRows.{Numbered, base_slots}
use Rattle.lama_snapshot.specs.Cells.{Columns, mark_at, weight_at, visible, cell_row}
use Rattle.lama_snapshot.specs.Chains.{Table, no_table, base_table, Layout, table_at, owner, chain, record_row, cells_of, rows_from, AreColumns}
use Rattle.lama_snapshot.specs.Snap.{no_record, layout_of, IsSnap}
use Rattle.lama_snapshot.specs.Found.{AreHidden, AreSet}
use Rattle.lama_snapshot.specs.Written.{IsWithin}
use Rattle.lama_snapshot.proofs.CellsFrom.{owner-within, table-old, table-new}
use Rattle.lama_snapshot.proofs.ChainLemmas.{chain-base, length-cells_of, row-visible}
use Rattle.lama_snapshot.proofs.StepLemmas.{record-row}
use Rattle.lama_snapshot.proofs.Limits.{rising-few}
use Rattle.lama_snapshot.proofs.Standing.{is_found, value_found}
use Rattle.lama_snapshot.proofs.Surviving.{added_for, killed_for, set_for, row_after-for}
use Rattle.lama_snapshot.proofs.BaseSnap.{zeros}
use Rattle.lama_snapshot.proofs.Applied.{Leads}
use Rattle.lama_snapshot.proofs.Known.{row-owned}

-- the targets of a row after a change are below its count
surviving-below : (m n i : ℕ) (ks : List ℕ) (ss r : List (ℕ × ℕ)) → m ≤ n → AllByRecursion (λ (p : ℕ × ℕ). p.0 < m) r → AllByRecursion (λ (p : ℕ × ℕ). p.0 < n) (surviving i ks ss r)
surviving-below m n i ks ss [] le below = tt
surviving-below m n i ks ss (p ∷ r) le below = by (has_index i ks) (surviving-below m n (i + 1) ks ss r le below.1)
  where
    by : (b : Bool) → AllByRecursion (λ (p : ℕ × ℕ). p.0 < n) (surviving (i + 1) ks ss r) → AllByRecursion (λ (p : ℕ × ℕ). p.0 < n) (cond b (surviving (i + 1) ks ss r) ((p.0, weight_set i ss p.1) ∷ surviving (i + 1) ks ss r))
    by true rest = rest
    by false rest = ((let a = below.0 in omega (arith, a, le)), rest)

added-below : (n : ℕ) (rows : List RowChange) (v : ℕ) → All (IsRowChange n) rows → All (λ (p : ℕ × ℕ). p.0 < n) (added_for rows v)
added-below n [] v valid = All-nil (λ (p : ℕ × ℕ). p.0 < n)
added-below n (c ∷ rows) v valid = by (eqb c.source v) (added-below n rows v (All-tail (IsRowChange n) c rows valid))
  where
    by : (b : Bool) → All (λ (p : ℕ × ℕ). p.0 < n) (added_for rows v) → All (λ (p : ℕ × ℕ). p.0 < n) (cond b c.added (added_for rows v))
    by true rest = (All-head (IsRowChange n) c rows valid).targets
    by false rest = rest

pub targets-after : (m n v : ℕ) (row : List (ℕ × ℕ)) → m ≤ n → All (λ (p : ℕ × ℕ). p.0 < m) row → (rows : List RowChange) → All (IsRowChange n) rows → All (λ (p : ℕ × ℕ). p.0 < n) (row_after rows v row)
targets-after m n v row le below rows valid =
    subst (All (λ (p : ℕ × ℕ). p.0 < n)) (sym (row_after-for rows v row))
    (All-append (λ (p : ℕ × ℕ). p.0 < n) (added_for rows v) (surviving 0 (killed_for rows v) (set_for rows v) row) (added-below n rows v valid)
    (All-from_recursion (λ (p : ℕ × ℕ). p.0 < n) (surviving 0 (killed_for rows v) (set_for rows v) row) (surviving-below m n 0 (killed_for rows v) (set_for rows v) row le (recursion_from_All (λ (p : ℕ × ℕ). p.0 < m) row below))))

-- the records before a change, and those of its new vertices
abbrev pub grown : List VertexRec → ℕ → List VertexRec
grown records count = records ++ replicate (count - length records) no_record

pub length-grown : (records : List VertexRec) (count : ℕ) → length records ≤ count → length (grown records count) ≡ count
length-grown records count le =
    let a = length-append records (replicate (count - length records) no_record) in
    let b = length-replicate (count - length records) no_record in
    omega (arith, a, b, le)

pub degrees-grown : (records : List VertexRec) (count : ℕ) → sum_by (λ (r : VertexRec). r.degree) (grown records count) ≡ sum_by (λ (r : VertexRec). r.degree) records
degrees-grown records count =
    let a = sum_by-append (λ (r : VertexRec). r.degree) records (replicate (count - length records) no_record) in
    let b = sum_by-replicate (λ (r : VertexRec). r.degree) (count - length records) no_record in
    omega (arith, a, b)

-- what the record of each vertex leads to before the change
pub leads-before : (n e : ℕ) (records : List VertexRec) (base : Numbered) (levels : List Table) (cols : Columns) → IsSnap n e records base levels cols → (count v : ℕ) → length records ≤ count → v < count →
    Leads (layout_of base levels) cols v (base.number + length levels) (get_or (grown records count) v no_record) (get_or (cells_of (layout_of base levels) records) v [])
leads-before n e records base levels cols h count v le lt = by (cases_lt v (length records))
  where
    l : Layout
    l = layout_of base levels

    by : (v < length records) ⊎ (length records ≤ v) → Leads l cols v (base.number + length levels) (get_or (grown records count) v no_record) (get_or (cells_of l records) v [])
    by (inl old) =
        let is : get_or (grown records count) v no_record ≡ get_or records v no_record = get_or_append_left records (replicate (count - length records) no_record) no_record v old in
        let r = record-row l cols records v (get_or (grown records count) v no_record) old is (h.records_ok v old) in
        let o = row-owned n e records base levels cols h v in
        record { leads = r.leads; degree = r.degree ∙ ap length (row-visible cols (cells_of l records) v); level = r.level; own = o.0; apart = o.1 }
    by (inr new) =
        let k = v - length records in
        let at : get_or (grown records count) v no_record ≡ no_record =
        ap (λ i. get_or (grown records count) i no_record) (let s : v ≡ length records + k = omega (arith, new) in s)
        ∙ (get_or-append-add records (replicate (count - length records) no_record) k no_record
        ∙ get_or-replicate (count - length records) k no_record no_record (omega (arith, new, lt))) in
        let len = length-cells_of l records in
        let few = h.base_rows in
        let none : get_or (cells_of l records) v [] ≡ [] = get_or_past (cells_of l records) v [] (omega (arith, new, len)) in
        let none' : row_at base.rows v ≡ [] = get_or_past base.rows v [] (omega (arith, new, few)) in
        let low : 0 - base.number ≡ 0 = omega arith in
        let o = row-owned n e records base levels cols h v in
        record {
          leads = ap (record_row l v) at ∙ (ap (λ r. chain l v (length levels) r 0 0) low ∙ (chain-base l v (length levels) 0 0 ∙ (ap (λ r. Some (cell_row 0 (length (base_slots (take v base.rows))) r)) none' ∙ ap (λ r. Some r) (sym none))));
          degree = ap (λ (r : VertexRec). r.degree) at ∙ sym (ap (λ r. length (visible cols r)) none);
          level = let q = ap (λ (r : VertexRec). r.level) at in omega (arith, q);
          own = o.0;
          apart = o.1;
        }

-- no more edges go from a row than it has
pub within-before : (n e : ℕ) (records : List VertexRec) (base : Numbered) (levels : List Table) (cols : Columns) → IsSnap n e records base levels cols → (count : ℕ) → length records ≤ count → (rows : List RowChange) → All (IsRowChange count) rows →
    All (HasIndexes (rows_from (layout_of base levels) cols records)) rows → All (IsWithin (grown records count)) rows
within-before n e records base levels cols h count le rows valid ok k d lt =
    let c = get_or rows k d in
    let v = valid k d lt in
    let l = layout_of base levels in
    let few = rising-few c.killed (length (row_at (rows_from l cols records) c.source)) v.killed (ok k d lt).killed in
    let deg = (leads-before n e records base levels cols h count c.source le v.source).degree in
    let same = ap length (row-visible cols (cells_of l records) c.source) in
    omega (arith, few, deg, same)

-- the columns after a change: those of the old tables with what it hides and weighs, and those of its own
pub record AreAfter (n : ℕ) (killed : List (ℕ × ℕ)) (set : List (ℕ × (ℕ × ℕ))) (cols cols' : Columns) (size : ℕ) (weights : List ℕ) : Type 0 where
  pub hidden : List (List ℕ)
  pub marks : cols'.marks ≡ hidden ++ replicate size 0 ∷ []
  pub are_hidden : AreHidden killed n cols.marks hidden
  pub weighed : List (List ℕ)
  pub weights_are : cols'.weights ≡ weighed ++ weights ∷ []
  pub are_set : AreSet set cols.weights weighed

pub columns-after : (n : ℕ) (killed : List (ℕ × ℕ)) (set : List (ℕ × (ℕ × ℕ))) (base : Numbered) (levels : List Table) (t : Table) (cols cols' : Columns) (weights : List ℕ) → AreColumns (layout_of base levels) cols → length t.slots ≡ length t.sources → length weights ≡ length t.slots →
    AreAfter n killed set cols cols' (length t.slots) weights → AreColumns (layout_of base (levels ++ t ∷ [])) cols'
columns-after n killed set base levels t cols cols' weights h even wide a = record {
  marks = (let x = ap length a.marks in let y = length_push a.hidden (replicate (length t.slots) 0) in let z = a.are_hidden.len in let m = h.marks in let w = length_push levels t in omega (arith, x, y, z, m, w));
  weights = (let x = ap length a.weights_are in let y = length_push a.weighed weights in let z = a.are_set.len in let m = h.weights in let w = length_push levels t in omega (arith, x, y, z, m, w));
  marks_each = λ r. ap (λ xs. length (get_or xs r [])) a.marks ∙ (let z = a.are_hidden.len in let m = h.marks in
      at a.hidden (replicate (length t.slots) 0) (omega (arith, z, m)) (λ k lt. (a.are_hidden.each k (let z' = z in omega (arith, z', lt))).len ∙ h.marks_each k) (length-replicate (length t.slots) 0 ∙ even) r);
  weights_each = λ r. ap (λ xs. length (get_or xs r [])) a.weights_are ∙ (let z = a.are_set.len in let m = h.weights in
      at a.weighed weights (omega (arith, z, m)) (λ k lt. (a.are_set.each k (let z' = z in omega (arith, z', lt))).len ∙ h.weights_each k) (wide ∙ even) r);
}
  where
    at : (lists : List (List ℕ)) (last : List ℕ) → length lists ≡ length levels + 1 → ((k : ℕ) → k < length lists → length (get_or lists k []) ≡ length (table_at (layout_of base levels) k).sources) → length last ≡ length t.sources →
        (r : ℕ) → length (get_or (lists ++ last ∷ []) r []) ≡ length (table_at (layout_of base (levels ++ t ∷ [])) r).sources
    at lists last many each end r = by (cases_lt r (length levels + 1)) (cases_eq r (length levels + 1))
      where
        by : (r < length levels + 1) ⊎ (length levels + 1 ≤ r) → (r ≡ length levels + 1) ⊎ (r ≢ length levels + 1) → length (get_or (lists ++ last ∷ []) r []) ≡ length (table_at (layout_of base (levels ++ t ∷ [])) r).sources
        by (inl lt) e =
            ap length (get_or_append_left lists (last ∷ []) [] r (omega (arith, many, lt)))
            ∙ (each r (omega (arith, many, lt)) ∙ sym (ap (λ (x : Table). length x.sources) (table-old base levels t r (omega (arith, lt)))))
        by (inr ge) (inl e) =
            ap length (get_or_push lists last [] r (many ∙ sym e))
            ∙ (end ∙ sym (ap (λ k. length (table_at (layout_of base (levels ++ t ∷ [])) k).sources) e ∙ ap (λ (x : Table). length x.sources) (table-new base levels t)))
        by (inr ge) (inr ne) =
            let a = length_push lists last in
            let b = length_push levels t in
            ap length (get_or_past (lists ++ last ∷ []) r [] (omega (arith, a, many, ge, ne)))
            ∙ sym (ap (λ (x : Table). length x.sources) (get_or_past (base_table base.rows ∷ levels ++ t ∷ []) r no_table (omega (arith, b, ge, ne))))

owner-place : (l : Layout) (c : Cell) (v : ℕ) → owner l c ≡ Some v → c.place < length (table_at l c.table).sources
owner-place l c v own = slice_get_within (table_at l c.table).sources c.place v own

-- the mark and the weight of a cell that was there before
pub mark-after : (n : ℕ) (killed : List (ℕ × ℕ)) (set : List (ℕ × (ℕ × ℕ))) (l : Layout) (cols cols' : Columns) (size : ℕ) (weights : List ℕ) → AreColumns l cols → AreAfter n killed set cols cols' size weights → (c : Cell) (v : ℕ) → owner l c ≡ Some v →
    mark_at cols' c ≡ cond (is_found c killed) n (mark_at cols c)
mark-after n killed set l cols cols' size weights h a c v own =
    let within = owner-within l c v own in
    let z = a.are_hidden.len in let m = h.marks in
    let lt : c.table < length cols.marks = omega (arith, m, within) in
    let place = owner-place l c v own in
    let each = h.marks_each c.table in
    ap (λ xs. slice_index (get_or xs c.table []) c.place) a.marks
    ∙ (ap (λ xs. slice_index xs c.place) (get_or_append_left a.hidden (replicate size 0 ∷ []) [] c.table (omega (arith, z, lt)))
    ∙ (a.are_hidden.each c.table lt).each c.place (omega (arith, each, place)))

pub weight-after : (n : ℕ) (killed : List (ℕ × ℕ)) (set : List (ℕ × (ℕ × ℕ))) (l : Layout) (cols cols' : Columns) (size : ℕ) (weights : List ℕ) → AreColumns l cols → AreAfter n killed set cols cols' size weights → (c : Cell) (v : ℕ) → owner l c ≡ Some v →
    weight_at cols' c ≡ value_found c set (weight_at cols c)
weight-after n killed set l cols cols' size weights h a c v own =
    let within = owner-within l c v own in
    let z = a.are_set.len in let m = h.weights in
    let lt : c.table < length cols.weights = omega (arith, m, within) in
    let place = owner-place l c v own in
    let each = h.weights_each c.table in
    ap (λ xs. slice_index (get_or xs c.table []) c.place) a.weights_are
    ∙ (ap (λ xs. slice_index xs c.place) (get_or_append_left a.weighed (weights ∷ []) [] c.table (omega (arith, z, lt)))
    ∙ (a.are_set.each c.table lt).each c.place (omega (arith, each, place)))

-- the marks and the weights of the new table
pub new-marks : (n : ℕ) (killed : List (ℕ × ℕ)) (set : List (ℕ × (ℕ × ℕ))) (base : Numbered) (levels : List Table) (cols cols' : Columns) (size : ℕ) (weights : List ℕ) → AreColumns (layout_of base levels) cols → AreAfter n killed set cols cols' size weights →
    (k : ℕ) → mark_at cols' (record { table = length levels + 1; place = k }) ≡ 0
new-marks n killed set base levels cols cols' size weights h a k =
    let z = a.are_hidden.len in let m = h.marks in
    ap (λ xs. slice_index (get_or xs (length levels + 1) []) k) a.marks
    ∙ (ap (λ xs. slice_index xs k) (get_or_push a.hidden (replicate size 0) [] (length levels + 1) (omega (arith, z, m))) ∙ zeros size k)

pub new-weights : (n : ℕ) (killed : List (ℕ × ℕ)) (set : List (ℕ × (ℕ × ℕ))) (base : Numbered) (levels : List Table) (cols cols' : Columns) (size : ℕ) (weights : List ℕ) → AreColumns (layout_of base levels) cols → AreAfter n killed set cols cols' size weights →
    get_or cols'.weights (length levels + 1) [] ≡ weights
new-weights n killed set base levels cols cols' size weights h a =
    let z = a.are_set.len in let m = h.weights in
    ap (λ xs. get_or xs (length levels + 1) []) a.weights_are ∙ get_or_push a.weighed weights [] (length levels + 1) (omega (arith, z, m))
