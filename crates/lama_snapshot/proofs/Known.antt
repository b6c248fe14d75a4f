-- What is known of the cells of a snapshot's rows.
use Rattle.std.proofs.Common.{◌≡◌, ◌∙◌, ℕ, ◌+◌, ◌<◌, ◌≤◌, List, [], ◌∷◌, ◌++◌, length, get_or, map, refl, sym, ap, subst, arith, inl, inr, ◌⊎◌, Bool, true, false, cond, eqb, Some}
use Rattle.std.specs.Prelude.{All, sum_by, unwrap_or}
use Rattle.std.specs.List.{AllByRecursion}
use Rattle.std.proofs.lemmas.Bool.{cases_lt}
use Rattle.std.proofs.lemmas.Bool.Decides.{nat_tests}
use Rattle.std.proofs.lemmas.List.{get_or_past, length-map, length-append}
use Rattle.std.proofs.lemmas.List.Elements.{recursion_from_All, All-head, All-tail}
use Rattle.std.proofs.lemmas.List.Sums.{sum_by-cons}
use Rattle.std.proofs.lemmas.Option.{slice_get_within}
use Rattle.lama_edges.specs.declared.records.VertexRec.{VertexRec}
use Rattle.lama_model.specs.Row.{row_at}
use Rattle.lama_model.specs.Change.{RowChange}
use Rattle.lama_model.specs.Fits.{HasIndexes}
use Rattle.lama_snapshot.specs.declared.level.Cell.{Cell}
use Rattle.lama_snapshot.specs.declared.snapshot.Snapshot.TheInside.{Inside}
use Rattle.lama_snapshot.specs.BaseRows.{Numbered}
use Rattle.lama_snapshot.specs.Cells.{Columns, standing, visible, AreApart}
use Rattle.lama_snapshot.specs.Chains.{Table, Layout, table_at, owner, AreOwned, AreColumns, cells_of}
use Rattle.lama_snapshot.specs.Snap.{Snap, layout_of, IsSnap, edge_cell}
use Rattle.lama_snapshot.specs.Shown.{shown, HasRows, columns_of}
use Rattle.lama_snapshot.specs.Found.{killed_slot, set_slot, killed_slots, set_slots, in_table}
use Rattle.lama_snapshot.proofs.CellsFrom.{owner-within}
use Rattle.lama_snapshot.proofs.ChainLemmas.{length-cells_of, cells_of-at, row-visible}
use Rattle.lama_snapshot.proofs.Standing.{owned-standing, apart-standing, owner-at, in_table-cons}
use Rattle.lama_snapshot.proofs.Walks.{length-visible}

-- the rows and their cells belong together
pub record Known (s : Snap) : Type 0 where
  pub own : (u : ℕ) → AreOwned s.layout u (standing s.columns (get_or s.cells u []))
  pub apart : (u : ℕ) → AreApart (standing s.columns (get_or s.cells u []))
  pub columns : AreColumns s.layout s.columns
  pub rows : (u : ℕ) → row_at s.rows u ≡ visible s.columns (get_or s.cells u [])

-- the cells of each row are its vertex's own, each once
pub row-owned : (n e : ℕ) (records : List VertexRec) (base : Numbered) (levels : List Table) (cols : Columns) → IsSnap n e records base levels cols → (u : ℕ) →
    AreOwned (layout_of base levels) u (get_or (cells_of (layout_of base levels) records) u []) × AreApart (get_or (cells_of (layout_of base levels) records) u [])
row-owned n e records base levels cols h u = by (cases_lt u (length records))
  where
    l : Layout
    l = layout_of base levels

    by : (u < length records) ⊎ (length records ≤ u) → AreOwned l u (get_or (cells_of l records) u []) × AreApart (get_or (cells_of l records) u [])
    by (inl lt) =
        let ok = h.records_ok u lt in
        let is : ok.row ≡ get_or (cells_of l records) u [] = sym (cells_of-at l records u lt ∙ ap (λ o. unwrap_or o []) ok.leads) in
        subst (λ row. AreOwned l u row × AreApart row) is (ok.own, ok.apart)
    by (inr ge) =
        let m = length-cells_of l records in
        let none : [] ≡ get_or (cells_of l records) u [] = sym (get_or_past (cells_of l records) u [] (omega (arith, m, ge))) in
        subst (λ row. AreOwned l u row × AreApart row) none (tt, tt)

pub known : (i : Inside) → HasRows i → Known (shown i)
known i h =
    let l = (shown i).layout in
    let cols = columns_of i in
    record {
      own = λ u. owned-standing l cols u (get_or (shown i).cells u []) (row-owned i.number i.edge_count i.vertices (shown i).base l.levels cols h u).0;
      apart = λ u. apart-standing cols (get_or (shown i).cells u []) (row-owned i.number i.edge_count i.vertices (shown i).base l.levels cols h u).1;
      columns = h.columns;
      rows = λ u. row-visible cols (shown i).cells u;
    }

-- the cell of an edge that is read is its vertex's own
pub edge-owner : (s : Snap) → Known s → (v k : ℕ) → k < length (row_at s.rows v) → owner s.layout (edge_cell s v k) ≡ Some v
edge-owner s h v k lt =
    let n = ap length (h.rows v) ∙ length-visible s.columns (get_or s.cells v []) in
    owner-at s.layout v (standing s.columns (get_or s.cells v [])) k (h.own v) (omega (arith, n, lt))

-- a slot has a place in each of the lists that has as many as its table has sources
abbrev pub IsIn : List (List ℕ) → ℕ → ℕ → Type 0
IsIn lists t o = (t < length lists) × (o < length (get_or lists t []))

owner-in : (l : Layout) (lists : List (List ℕ)) → length lists ≡ length l.levels + 1 → ((r : ℕ) → length (get_or lists r []) ≡ length (table_at l r).sources) → (c : Cell) (v : ℕ) → owner l c ≡ Some v → IsIn lists c.table c.place
owner-in l lists many each c v own = (
  (let within = owner-within l c v own in omega (arith, within, many)),
  (let lt = slice_get_within (table_at l c.table).sources c.place v own in let n = each c.table in omega (arith, lt, n)),
)

-- what is found in a table, of what was found
pub in_table-all : {A : Type 0} (P : ℕ → A → Type 0) (t : ℕ) (found : List (ℕ × A)) → AllByRecursion (λ p. P p.0 p.1) found → AllByRecursion (P t) (in_table t found)
in_table-all P t [] h = tt
in_table-all {A = A} P t (p ∷ found) h = subst (AllByRecursion (P t)) (sym (in_table-cons t p found)) (by (eqb p.0 t) refl (in_table-all P t found h.1))
  where
    by : (b : Bool) → eqb p.0 t ≡ b → AllByRecursion (P t) (in_table t found) → AllByRecursion (P t) (cond b (p.1 ∷ in_table t found) (in_table t found))
    by true is rest = (subst (λ k. P k p.1) (let e : p.0 ≡ t = grind (arith, nat_tests, is) in e) h.0, rest)
    by false is rest = rest

all-append : {A : Type 0} (P : A → Type 0) (xs ys : List A) → AllByRecursion P xs → AllByRecursion P ys → AllByRecursion P (xs ++ ys)
all-append P [] ys a b = b
all-append P (x ∷ xs) ys a b = (a.0, all-append P xs ys a.1 b)

-- the slots that are killed are in the lists
pub killed-in : (s : Snap) → Known s → (rows : List RowChange) → All (HasIndexes s.rows) rows → AllByRecursion (λ (p : ℕ × ℕ). IsIn s.columns.marks p.0 p.1) (killed_slots s rows)
killed-in s h [] ok = tt
killed-in s h (c ∷ rows) ok =
    all-append (λ (p : ℕ × ℕ). IsIn s.columns.marks p.0 p.1) (map (killed_slot s c.source) c.killed) (killed_slots s rows)
    (by c.killed (recursion_from_All (λ k. k < length (row_at s.rows c.source)) c.killed (All-head (HasIndexes s.rows) c rows ok).killed))
    (killed-in s h rows (All-tail (HasIndexes s.rows) c rows ok))
  where
    by : (ks : List ℕ) → AllByRecursion (λ k. k < length (row_at s.rows c.source)) ks → AllByRecursion (λ (p : ℕ × ℕ). IsIn s.columns.marks p.0 p.1) (map (killed_slot s c.source) ks)
    by [] below = tt
    by (k ∷ ks) below = (owner-in s.layout s.columns.marks h.columns.marks h.columns.marks_each (edge_cell s c.source k) c.source (edge-owner s h c.source k below.0), by ks below.1)

pub set-in : (s : Snap) → Known s → (rows : List RowChange) → All (HasIndexes s.rows) rows → AllByRecursion (λ (p : ℕ × (ℕ × ℕ)). IsIn s.columns.weights p.0 p.1.0) (set_slots s rows)
set-in s h [] ok = tt
set-in s h (c ∷ rows) ok =
    all-append (λ (p : ℕ × (ℕ × ℕ)). IsIn s.columns.weights p.0 p.1.0) (map (set_slot s c.source) c.set) (set_slots s rows)
    (by c.set (recursion_from_All (λ (q : ℕ × ℕ). q.0 < length (row_at s.rows c.source)) c.set (All-head (HasIndexes s.rows) c rows ok).set))
    (set-in s h rows (All-tail (HasIndexes s.rows) c rows ok))
  where
    by : (ps : List (ℕ × ℕ)) → AllByRecursion (λ (q : ℕ × ℕ). q.0 < length (row_at s.rows c.source)) ps → AllByRecursion (λ (p : ℕ × (ℕ × ℕ)). IsIn s.columns.weights p.0 p.1.0) (map (set_slot s c.source) ps)
    by [] below = tt
    by (p ∷ ps) below = (owner-in s.layout s.columns.weights h.columns.weights h.columns.weights_each (edge_cell s c.source p.0) c.source (edge-owner s h c.source p.0 below.0), by ps below.1)

-- how many there are
pub length-killed : (s : Snap) (rows : List RowChange) → length (killed_slots s rows) ≡ sum_by (λ (r : RowChange). length r.killed) rows
length-killed s [] = refl
length-killed s (c ∷ rows) =
    let a = length-append (map (killed_slot s c.source) c.killed) (killed_slots s rows) in
    let b = length-map c.killed (killed_slot s c.source) in
    let d = sum_by-cons (λ (r : RowChange). length r.killed) c rows in
    let rest = length-killed s rows in
    omega (arith, a, b, d, rest)

pub length-set_slots : (s : Snap) (rows : List RowChange) → length (set_slots s rows) ≡ sum_by (λ (r : RowChange). length r.set) rows
length-set_slots s [] = refl
length-set_slots s (c ∷ rows) =
    let a = length-append (map (set_slot s c.source) c.set) (set_slots s rows) in
    let b = length-map c.set (set_slot s c.source) in
    let d = sum_by-cons (λ (r : RowChange). length r.set) c rows in
    let rest = length-set_slots s rows in
    omega (arith, a, b, d, rest)

-- what the tables ask of a found list
pub tables-below : {A : Type 0} (P : ℕ → A → Type 0) (n : ℕ) (found : List (ℕ × A)) → AllByRecursion (λ p. (p.0 < n) × P p.0 p.1) found → AllByRecursion (λ p. p.0 < n) found
tables-below P n [] h = tt
tables-below P n (p ∷ found) h = (h.0.0, tables-below P n found h.1)
