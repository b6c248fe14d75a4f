-- What the steps of a walk over a snapshot's chains say, by its fields.
use Rattle.std.proofs.Common.{◌≡◌, ◌∙◌, ℕ, suc, ◌+◌, ◌-◌, ◌<◌, ◌≤◌, List, [], ◌∷◌, length, get_or, map, sym, ap, subst, arith, inl, inr, ◌⊎◌, Option, Some}
use Rattle.std.specs.Prelude.{slice_get, unwrap_or, IsSome, All}
use Rattle.std.specs.Arc.{arc_value}
use Rattle.std.specs.declared.sync.Arc.{Arc}
use Rattle.std.specs.declared.alloc.Global.{Global}
use Rattle.std.proofs.lemmas.Bool.{cases_lt}
use Rattle.std.proofs.lemmas.List.{get_or_past, length-map}
use Rattle.std.proofs.lemmas.Option.{slice_get_within}
use Rattle.lama_edges.specs.declared.records.Slot.{Slot}
use Rattle.lama_edges.specs.declared.records.Slot.TheVariants.{Edge, Next}
use Rattle.lama_snapshot.specs.declared.level.Level.{Level}
use Rattle.lama_snapshot.specs.declared.level.Cell.{Cell}
use Rattle.lama_snapshot.specs.declared.snapshot.Snapshot.TheInside.{Inside}
use Rattle.lama_snapshot.specs.Levels.{table_of}
use Rattle.lama_snapshot.specs.BaseRows.{Numbered, base_slots}
use Rattle.lama_snapshot.specs.Cells.{Columns}
use Rattle.lama_snapshot.specs.Chains.{Table, no_table, Layout, table_at, chain, place_row, IsPlace, slot_at, base_table, AreColumns}
use Rattle.lama_snapshot.specs.Snap.{Snap, IsTable, IsCell}
use Rattle.lama_snapshot.specs.Shown.{shown}
use Rattle.lama_snapshot.proofs.CellsFrom.{length-base_sources}
use Rattle.lama_snapshot.proofs.ChainLemmas.{get-map-map}
use Rattle.lama_snapshot.proofs.StepLemmas.{level_table, tail-within, next-step, end-step}

pub floor-is : (s : Inside) (snap : Snap) (b : Numbered) (n : ℕ) → shown s ≡ snap → b ≡ arc_value s.base → n ≡ b.number → n ≡ snap.layout.floor
floor-is s snap b n is base number = number ∙ (ap (λ (x : Numbered). x.number) base ∙ ap (λ (x : Snap). x.layout.floor) is)

pub table-is : (s : Inside) (snap : Snap) (levels : List (Arc Level Global)) (n level : ℕ) (t : Table) → shown s ≡ snap → levels ≡ s.levels.items → n ≡ snap.layout.floor → t ≡ get_or (map table_of (map arc_value levels)) (level - n - 1) no_table → t ≡ level_table snap.layout level
table-is s snap levels n level t is items floor h =
    h ∙ (ap (λ (xs : List (Arc Level Global)). get_or (map table_of (map arc_value xs)) (level - n - 1) no_table) items
    ∙ (ap (λ (x : Snap). get_or x.layout.levels (level - n - 1) no_table) is
    ∙ ap (λ k. get_or snap.layout.levels (level - k - 1) no_table) floor))

-- a table of the snapshot is not too long, and has a source for each slot
pub table-ok : (levels : List Table) (l : Layout) (level : ℕ) → levels ≡ l.levels → All IsTable levels → l.floor < level → level ≤ l.floor + length l.levels → IsTable (level_table l level)
table-ok levels l level is all above within = subst (All IsTable) is all (level - l.floor - 1) no_table (omega (arith, above, within))

-- a slot of a table has a mark and a weight
pub cell-in : (l : Layout) (cols : Columns) (r o : ℕ) → AreColumns l cols → r ≤ length l.levels → o < length (table_at l r).sources → IsCell cols (record { table = r; place = o })
cell-in l cols r o h le lt =
    let m = h.marks in let w = h.weights in let me = h.marks_each r in let we = h.weights_each r in
    record { marked = omega (arith, m, le); mark = omega (arith, me, lt); weighed = omega (arith, w, le); weight = omega (arith, we, lt) }

pub cell-above : (l : Layout) (cols : Columns) (level o t : ℕ) → AreColumns l cols → IsTable (level_table l level) → l.floor < level → level ≤ l.floor + length l.levels → slice_get (level_table l level).slots o ≡ Some (Edge t) → IsCell cols (record { table = level - l.floor; place = o })
cell-above l cols level o t h ok above within is =
    let lt = slice_get_within (level_table l level).slots o (Edge t) is in
    let s = ok.sources in
    let r : suc (level - l.floor - 1) ≡ level - l.floor = omega arith in
    subst (λ k. IsCell cols (record { table = k; place = o })) r (cell-in l cols (suc (level - l.floor - 1)) o h (omega (arith, above, within)) (omega (arith, lt, s)))

pub cell-below : (l : Layout) (cols : Columns) (o t : ℕ) → AreColumns l cols → slice_get (base_slots l.base) o ≡ Some (Edge t) → IsCell cols (record { table = 0; place = o })
cell-below l cols o t h is =
    let lt = slice_get_within (base_slots l.base) o (Edge t) is in
    let s = length-base_sources 0 l.base in
    cell-in l cols 0 o h (omega arith) (omega (arith, lt, s))

-- a slot that is there is in one of the tables
pub cell-within : (l : Layout) (c : Cell) (s : Slot) → slot_at l c ≡ Some s → c.table ≤ length l.levels
cell-within l c s is = by (cases_lt (length l.levels) c.table)
  where
    by : (length l.levels < c.table) ⊎ (c.table ≤ length l.levels) → c.table ≤ length l.levels
    by (inr le) = le
    by (inl past) =
        let none = ap (λ (t : Table). t.slots) (get_or_past (base_table l.base ∷ l.levels) c.table no_table (omega (arith, past))) in
        absurd (let lt = slice_get_within [] c.place s (ap (λ (xs : List Slot). slice_get xs c.place) (sym none) ∙ is) in omega (arith, lt))

-- a level is the one above it, counted from the base, whose table is asked for
pub level-is : (l : Layout) (items : List (Arc Level Global)) (r k : ℕ) (x : Arc Level Global) → map table_of (map arc_value items) ≡ l.levels → suc k ≡ r → k < length items → x ≡ get_or items k x → table_of (arc_value x) ≡ table_at l r
level-is l items r k x levels up lt is =
    ap (λ (y : Arc Level Global). table_of (arc_value y)) is
    ∙ (sym (get-map-map arc_value table_of items k x no_table lt)
    ∙ (ap (λ (xs : List Table). get_or xs k no_table) levels ∙ ap (table_at l) up))

-- a cell that has a slot is in the base or in one of the levels
pub cell-level : (l : Layout) (items : List (Arc Level Global)) (c : Cell) (s : Slot) → map table_of (map arc_value items) ≡ l.levels → slot_at l c ≡ Some s → c.table ≤ length items
cell-level l items c s levels is =
    let within = cell-within l c s is in
    let size : length (map table_of (map arc_value items)) ≡ length items = length-map (map arc_value items) table_of ∙ length-map items arc_value in
    let many = ap length levels in
    omega (arith, within, size, many)

-- the slots of a level are those of its table
pub slots-above : (l : Layout) (level : ℕ) → l.floor < level → (level_table l level).slots ≡ (table_at l (level - l.floor)).slots
slots-above l level above =
    let r : suc (level - l.floor - 1) ≡ level - l.floor = omega (arith, above) in
    ap (λ k. (table_at l k).slots) r

-- where the row goes on
pub next-returns : (l : Layout) (count : ℕ) (start : Option (List (ℕ × Cell))) (v level o left : ℕ) (level' o' len' v'' level'' o'' left'' : ℕ) → IsPlace l count v level o left → place_row l v level o left ≡ start → l.floor < level → left ≤ 0 →
    slice_get (level_table l level).slots o ≡ Some (Next level' o' len') → v'' ≡ v → (level' ≤ l.floor → level'' ≡ l.floor) → (l.floor < level' → level'' ≡ level') →
    place_row l v level'' o'' left'' ≡ chain l v (length l.levels) (level' - l.floor) o' len' →
    (level'' < level) × IsPlace l count v'' level'' o'' left'' × (place_row l v'' level'' o'' left'' ≡ start)
next-returns l count start v level o left level' o' len' v'' level'' o'' left'' place same above none slot ev low high leads =
    let zero_left : left ≡ 0 = omega arith in
    let at : place_row l v level o 0 ≡ start = ap (λ k. place_row l v level o k) (sym zero_left) ∙ same in
    let some : IsSome (place_row l v level o 0) = subst (λ k. IsSome (place_row l v level o k)) zero_left place.some in
    let s = next-step l v level o level' o' len' above place.within some slot in
    let older = s.older in
    let down : level'' < level = bound (cases_lt l.floor level') older in
    let reads : place_row l v level'' o'' left'' ≡ start = leads ∙ (sym s.leads ∙ at) in
    let within = place.within in
    (down, record { vertex = subst (λ k. k < count) (sym ev) place.vertex; within = omega (arith, down, within); some = subst IsSome (sym (ap (λ k. place_row l k level'' o'' left'') ev ∙ (reads ∙ sym same))) place.some }, ap (λ k. place_row l k level'' o'' left'') ev ∙ reads)
  where
    bound : (l.floor < level') ⊎ (level' ≤ l.floor) → level' < level → level'' < level
    bound (inl h) older = let e = high h in omega (arith, e, older)
    bound (inr h) older = let e = low h in omega (arith, e, above)

pub tail-requires : (l : Layout) (count v level o left : ℕ) → IsPlace l count v level o left → l.floor < level → left ≤ 0 → o < length (level_table l level).slots
tail-requires l count v level o left place above none =
    let zero_left : left ≡ 0 = omega arith in
    tail-within l v level o above place.within (subst (λ k. IsSome (place_row l v level o k)) zero_left place.some)

pub end-returns : (l : Layout) (count : ℕ) (start : Option (List (ℕ × Cell))) (v level o left : ℕ) (s : Slot) → IsPlace l count v level o left → place_row l v level o left ≡ start → l.floor < level → left ≤ 0 →
    slice_get (level_table l level).slots o ≡ Some s → ((a b c : ℕ) → s ≡ Next a b c → ⊥) → unwrap_or start [] ≡ []
end-returns l count start v level o left s place same above none slot other =
    let zero_left : left ≡ 0 = omega arith in
    let some : IsSome (place_row l v level o 0) = subst (λ k. IsSome (place_row l v level o k)) zero_left place.some in
    sym (ap (λ x. unwrap_or x []) (ap (λ k. place_row l v level o k) (sym zero_left) ∙ same)) ∙ end-step l v level o s above place.within some slot other
