-- What a snapshot tells of the graphs before it, after a change.
use Rattle.std.proofs.Common.{◌≡◌, ◌∙◌, ℕ, zero, suc, ◌+◌, ◌-◌, ◌<◌, ◌≤◌, List, [], ◌∷◌, ◌++◌, length, get_or, map, take, refl, sym, ap, subst, arith, inl, inr, ◌⊎◌, Bool, true, false, cond, Some}
use Rattle.std.specs.Prelude.{slice_index, slice_get}
use Rattle.std.proofs.lemmas.Bool.{cases_lt}
use Rattle.std.proofs.lemmas.List.{map-append, length_push, get_or_past, take_all, take-append-le}
use Rattle.std.proofs.lemmas.List.Sums.{fold-append}
use Rattle.lama_edges.specs.declared.records.VertexRec.{VertexRec}
use Rattle.lama_model.specs.Row.{row_at}
use Rattle.lama_model.specs.Change.{Change, IsChange, row_after, row_through}
use Rattle.lama_model.specs.Fits.{Fits}
use Rattle.lama_model.proofs.GraphSteps.{row_after-none}
use Rattle.lama_snapshot.specs.declared.level.Cell.{Cell}
use Rattle.lama_snapshot.specs.BaseRows.{Numbered, base_slots}
use Rattle.lama_snapshot.specs.Cells.{Columns, mark_at}
use Rattle.lama_snapshot.specs.Chains.{Table, Layout, owner, cells_of, rows_from}
use Rattle.std.specs.Arc.{arc_value}
use Rattle.lama_model.specs.Bounds.{added_edges, killed_edges}
use Rattle.lama_snapshot.specs.Levels.{table_of, change_of}
use Rattle.lama_snapshot.specs.NewLevel.{IsNewLevel}
use Rattle.lama_snapshot.specs.Written.{level_sources}
use Rattle.lama_snapshot.specs.declared.level.Level.{Level}
use Rattle.lama_snapshot.specs.declared.apply.NewLevel.{NewLevel}
use Rattle.lama_snapshot.proofs.WriteLemmas.{written-slots}
use Rattle.lama_snapshot.specs.Snap.{Snap, layout_of, IsSnap}
use Rattle.lama_snapshot.specs.History.{IsHistory, targets_then, row_then}
use Rattle.lama_snapshot.proofs.BaseSnap.{base_columns, zeros}
use Rattle.lama_snapshot.proofs.CellsFrom.{owner-within, table-old}
use Rattle.lama_snapshot.proofs.ChainLemmas.{length-rows_from, row-visible}
use Rattle.lama_snapshot.proofs.Standing.{is_found}
use Rattle.lama_snapshot.proofs.Known.{row-owned}
use Rattle.lama_snapshot.proofs.Earlier.{then-now, then-kept, found-stood}
use Rattle.lama_snapshot.proofs.SnapAfter.{grown, AreAfter, mark-after, new-marks}
use Rattle.lama_snapshot.proofs.Change.{stands_of, hidden_by, weighed_by, IsAfter, kills-below, snap-after, length-level_sources}

-- at the newest number the targets are those of the rows
newest : (n e : ℕ) (records : List VertexRec) (base : Numbered) (levels : List Table) (cols : Columns) → IsSnap n e records base levels cols →
    ((c : Cell) (v : ℕ) → owner (layout_of base levels) c ≡ Some v → mark_at cols c ≤ base.number + length levels) → (changes : List Change) → length changes ≡ length levels →
    ((v : ℕ) → row_at (rows_from (layout_of base levels) cols records) v ≡ row_through changes v (row_at base.rows v)) → (v k : ℕ) → k ≡ base.number + length levels →
    targets_then base.number cols k (get_or (cells_of (layout_of base levels) records) v []) ≡ map (λ p. p.0) (row_then base.number base.rows changes k v)
newest n e records base levels cols h marks changes size rows v k is =
    let l = layout_of base levels in
    let all : take (k - base.number) changes ≡ changes = take_all (k - base.number) changes (omega (arith, is, size)) in
    ap (λ i. targets_then base.number cols i (get_or (cells_of l records) v [])) is
    ∙ (then-now l cols v (get_or (cells_of l records) v []) (row-owned n e records base levels cols h v).0 (λ c. marks c v)
    ∙ (ap (map (λ p. p.0)) (sym (row-visible cols (cells_of l records) v) ∙ rows v)
    ∙ ap (λ cs. map (λ p. p.0) (row_through cs v (row_at base.rows v))) (sym all)))

-- a base tells of itself alone
pub base-history : (b : Numbered) (records : List VertexRec) (e : ℕ) → IsSnap b.number e records b [] (base_columns b.rows) → rows_from (layout_of b []) (base_columns b.rows) records ≡ b.rows → IsHistory (layout_of b []) (base_columns b.rows) records []
base-history b records e h rows = record {
  size = refl;
  marks = marks;
  rows = here;
  before = λ v k low high. newest b.number e records b [] (base_columns b.rows) h marks [] refl here v k (omega (arith, low, high));
}
  where
    here : (v : ℕ) → row_at (rows_from (layout_of b []) (base_columns b.rows) records) v ≡ row_at b.rows v
    here v = ap (λ rs. row_at rs v) rows

    none : (t o : ℕ) → slice_index (get_or (base_columns b.rows).marks t []) o ≡ 0
    none zero o = zeros (length (base_slots b.rows)) o
    none (suc t) o = refl

    marks : (c : Cell) (v : ℕ) → owner (layout_of b []) c ≡ Some v → mark_at (base_columns b.rows) c ≤ b.number + 0
    marks c v own = let z = none c.table c.place in omega (arith, z)

-- and after a change
pub history-after : (n e e' : ℕ) (records : List VertexRec) (base : Numbered) (levels : List Table) (cols cols' : Columns) → IsSnap n e records base levels cols → (changes : List Change) → IsHistory (layout_of base levels) cols records changes →
    (c : Change) → IsChange c → Fits n (rows_from (layout_of base levels) cols records) c → (t : Table) (size : ℕ) (weights : List ℕ) (new : List VertexRec) →
    (let sts = stands_of cols (cells_of (layout_of base levels) records) in AreAfter c.number (hidden_by sts c.rows) (weighed_by sts c.rows) cols cols' size weights) →
    IsAfter n e e' records base levels cols cols' c t new → IsHistory (layout_of base (levels ++ t ∷ [])) cols' new (changes ++ c ∷ [])
history-after n e e' records base levels cols cols' h changes old c valid fits t size weights new a after = record {
  size = (let x = length_push changes c in let y = length_push levels t in let z = old.size in omega (arith, x, y, z));
  marks = marks;
  rows = rows;
  before = λ v k low high. at v k low high (cases_lt k c.number);
}
  where
    l : Layout
    l = layout_of base levels

    l' : Layout
    l' = layout_of base (levels ++ t ∷ [])

    cells : List (List (ℕ × Cell))
    cells = cells_of (layout_of base levels) records

    killed : List (ℕ × ℕ)
    killed = hidden_by (stands_of cols (cells_of (layout_of base levels) records)) c.rows

    weighed : List (ℕ × (ℕ × ℕ))
    weighed = weighed_by (stands_of cols (cells_of (layout_of base levels) records)) c.rows

    up : c.number ≡ base.number + length levels + 1
    up = let next = fits.next in let is = h.number_is in omega (arith, next, is)

    marked : (x : Cell) (v : ℕ) → owner (layout_of base levels) x ≡ Some v → mark_at cols' x ≡ cond (is_found x killed) c.number (mark_at cols x)
    marked x v own = mark-after c.number killed weighed (layout_of base levels) cols cols' size weights h.columns a x v own

    least : (b : Bool) (m : ℕ) → m ≤ base.number + length levels → cond b c.number m ≤ base.number + length levels + 1
    least true m le = omega (arith, up)
    least false m le = omega (arith, le)

    marks : (x : Cell) (v : ℕ) → owner (layout_of base (levels ++ t ∷ [])) x ≡ Some v → mark_at cols' x ≤ base.number + length (levels ++ t ∷ [])
    marks x v own = let more = length_push levels t in let within = owner-within (layout_of base (levels ++ t ∷ [])) x v own in by more (omega (arith, within, more)) (cases_lt x.table (length levels + 1))
      where
        by : length (levels ++ t ∷ []) ≡ length levels + 1 → x.table ≤ length levels + 1 → (x.table < length levels + 1) ⊎ (length levels + 1 ≤ x.table) → mark_at cols' x ≤ base.number + length (levels ++ t ∷ [])
        by more le (inl lt) =
            let own' : owner (layout_of base levels) x ≡ Some v = ap (λ (y : Table). slice_get y.sources x.place) (sym (table-old base levels t x.table (omega (arith, lt)))) ∙ own in
            let is = marked x v own' in
            let low = least (is_found x killed) (mark_at cols x) (old.marks x v own') in
            omega (arith, is, low, more)
        by more le (inr ge) =
            let this : x.table ≡ length levels + 1 = omega (arith, le, ge) in
            let none = new-marks c.number killed weighed base levels cols cols' size weights h.columns a x.place in
            let is : mark_at cols' x ≡ 0 = ap (λ r. slice_index (get_or cols'.marks r []) x.place) this ∙ none in
            omega (arith, is)

    rows : (v : ℕ) → row_at (rows_from (layout_of base (levels ++ t ∷ [])) cols' new) v ≡ row_through (changes ++ c ∷ []) v (row_at base.rows v)
    rows v = by (cases_lt v c.count) ∙ sym (fold-append (λ (r : List (ℕ × ℕ)) (x : Change). row_after x.rows v r) (row_at base.rows v) changes (c ∷ []))
      where
        by : (v < c.count) ⊎ (c.count ≤ v) → row_at (rows_from (layout_of base (levels ++ t ∷ [])) cols' new) v ≡ row_after c.rows v (row_through changes v (row_at base.rows v))
        by (inl lt) = after.rows v lt ∙ ap (row_after c.rows v) (old.rows v)
        by (inr ge) =
            let many = after.count in
            let few = length-rows_from (layout_of base levels) cols records in
            let grows = fits.grows in
            let none : row_at (rows_from (layout_of base levels) cols records) v ≡ [] = get_or_past (rows_from (layout_of base levels) cols records) v [] (omega (arith, grows, ge)) in
            get_or_past (rows_from (layout_of base (levels ++ t ∷ [])) cols' new) v [] (omega (arith, many, ge))
            ∙ (sym none ∙ (old.rows v ∙ sym (row_after-none c.count v c.rows (row_through changes v (row_at base.rows v)) ge valid.rows)))

    at : (v k : ℕ) → base.number ≤ k → k ≤ base.number + length (levels ++ t ∷ []) → (k < c.number) ⊎ (c.number ≤ k) →
        targets_then base.number cols' k (get_or (cells_of (layout_of base (levels ++ t ∷ [])) new) v []) ≡ map (λ p. p.0) (row_then base.number base.rows (changes ++ c ∷ []) k v)
    at v k low high (inl lt) =
        let many = old.size in
        after.older v k (omega (arith, low, lt, up))
        ∙ (then-kept (layout_of base levels) cols cols' c.number k killed v (get_or (cells_of (layout_of base levels) records) v []) (row-owned n e records base levels cols h v).0 lt (λ x own. marked x v own)
        (λ x found. found-stood cols (λ u. get_or (cells_of (layout_of base levels) records) u []) x c.rows (kills-below cols cells c.rows fits.indexes) found)
        ∙ (old.before v k low (omega (arith, lt, up))
        ∙ ap (λ cs. map (λ p. p.0) (row_through cs v (row_at base.rows v))) (sym (take-append-le (k - base.number) changes (c ∷ []) (omega (arith, lt, up, many))))))
    at v k low high (inr ge) =
        let more = length_push levels t in
        let x = length_push changes c in
        let z = old.size in
        newest c.number e' new base (levels ++ t ∷ []) cols' after.snap marks (changes ++ c ∷ []) (omega (arith, x, more, z)) rows v k (omega (arith, high, ge, up, more))

-- the fields that a change makes stand for a snapshot with the rows after it, and tell of those before
pub record IsApplied (self : Snap) (c : Change) (e n e' : ℕ) (records : List VertexRec) (base : Numbered) (levels : List Level) (cols : Columns) : Type 0 where
  pub snap : IsSnap n e' records base (map table_of levels) cols
  pub history : IsHistory (layout_of base (map table_of levels)) cols records (map change_of levels)
  pub count : length (rows_from (layout_of base (map table_of levels)) cols records) ≡ c.count
  pub rows : (v : ℕ) → v < c.count → row_at (rows_from (layout_of base (map table_of levels)) cols records) v ≡ row_after c.rows v (row_at self.rows v)
  pub whole : e' + killed_edges c ≡ e + added_edges c

pub applied : (n e : ℕ) (records : List VertexRec) (base : Numbered) (levels : List Level) (cols : Columns) → IsSnap n e records base (map table_of levels) cols → IsHistory (layout_of base (map table_of levels)) cols records (map change_of levels) →
    (self : Snap) → n ≡ self.number → rows_from (layout_of base (map table_of levels)) cols records ≡ self.rows →
    (c : Change) → IsChange c → Fits self.number self.rows c →
    (l : NewLevel) → IsNewLevel records c l → (made : Level) → made.edges ≡ l.edges → arc_value made.change ≡ c → (levels' : List Level) → levels' ≡ levels ++ made ∷ [] →
    (cols' : Columns) → (let sts = stands_of cols (cells_of (layout_of base (map table_of levels)) records) in AreAfter c.number (hidden_by sts c.rows) (weighed_by sts c.rows) cols cols' (length l.edges) l.weights) →
    (n' : ℕ) → n' ≡ c.number → (records' : List VertexRec) → records' ≡ l.vertices → (base' : Numbered) → base' ≡ base →
    IsApplied self c e n' (e + l.added - l.killed) records' base' levels' cols'
applied n e records base levels cols h old self number rows c valid fits l new made edges change levels' is cols' a n' n'-is records' records-is base' base-is =
    let t : Table = record { slots = l.edges; sources = level_sources c.rows } in
    let fits' : Fits n (rows_from (layout_of base (map table_of levels)) cols records) c = subst (λ k. Fits k (rows_from (layout_of base (map table_of levels)) cols records) c) (sym number) (subst (λ rs. Fits self.number rs c) (sym rows) fits) in
    let size = written-slots c.number (grown records c.count) c.rows l.edges l.weights l.vertices new.written in
    let e'-is : e + l.added - l.killed ≡ e + added_edges c - killed_edges c = (let x = new.added in let y = new.killed in omega (arith, x, y)) in
    let b = snap-after n e records base (map table_of levels) cols h c valid fits' t (record { sources = size ∙ sym (length-level_sources c.rows); few = new.few }) refl l.weights new.weights l.vertices new.written cols' a (e + l.added - l.killed) e'-is in
    let past = history-after n e (e + l.added - l.killed) records base (map table_of levels) cols cols' h (map change_of levels) old c valid fits' t (length l.edges) l.weights l.vertices a b in
    let table : table_of made ≡ t = ap (λ es. record { slots = es; sources = level_sources (arc_value made.change).rows }) edges ∙ ap (λ (x : Change). record { slots = l.edges; sources = level_sources x.rows }) change in
    let tables : map table_of levels ++ t ∷ [] ≡ map table_of levels' =
    sym (ap (map table_of) is ∙ (map-append table_of levels (made ∷ []) ∙ ap (λ x. map table_of levels ++ x ∷ []) table)) in
    let changes : map change_of levels ++ c ∷ [] ≡ map change_of levels' = sym (ap (map change_of) is ∙ (map-append change_of levels (made ∷ []) ∙ ap (λ x. map change_of levels ++ x ∷ []) change)) in
    let P : ℕ × List VertexRec × Numbered × List Table × List Change → Type 0 = λ p.
    IsSnap p.0 (e + l.added - l.killed) p.1 p.2 p.3 cols'
    × IsHistory (layout_of p.2 p.3) cols' p.1 p.4
    × (length (rows_from (layout_of p.2 p.3) cols' p.1) ≡ c.count)
    × ((v : ℕ) → v < c.count → row_at (rows_from (layout_of p.2 p.3) cols' p.1) v ≡ row_after c.rows v (row_at self.rows v)) in
    let all = subst P (λ j. (sym n'-is j, sym records-is j, sym base-is j, tables j, changes j)) (b.snap, past, b.count, λ v lt. b.rows v lt ∙ ap (λ rs. row_after c.rows v (row_at rs v)) rows) in
    record { snap = all.0; history = all.1; count = all.2; rows = all.3; whole = b.whole }
