-- Fragments read cell by cell.
use Rattle.std.proofs.Common.{◌≡◌, ◌∙◌, ℕ, zero, suc, ◌+◌, ◌-◌, ◌<◌, ◌≤◌, List, [], ◌∷◌, ◌++◌, length, take, drop, map, refl, sym, ap, subst, arith, inl, inr, ◌⊎◌, Bool, true, false, eqb, ◌&&◌, Option, Some, None}
use Rattle.std.specs.Prelude.{slice_get, unwrap_or, IsSome}
use Rattle.std.proofs.lemmas.Bool.{false≢true, cases_lt}
use Rattle.std.proofs.lemmas.Bool.Decides.{nat_tests}
use Rattle.std.proofs.lemmas.List.{append-nil, append_assoc, length_push, length-append, length-map, take-append-drop, drop_more, length-take-le, get_or_append_left, get_or_past, get_or_push}
use Rattle.lama_edges.specs.declared.records.Slot.{Slot}
use Rattle.lama_edges.specs.declared.records.Slot.TheVariants.{Edge, Next, End}
use Rattle.lama_model.specs.Row.{row_at}
use Rattle.lama_snapshot.specs.declared.level.Cell.{Cell}
use Rattle.lama_snapshot.specs.Fragments.{fragment_slots}
use Rattle.lama_snapshot.specs.BaseRows.{Numbered, base_slots}
use Rattle.lama_snapshot.specs.Cells.{cell_then, cells_from, cell_row, IsOther, AreApart}
use Rattle.lama_snapshot.specs.Chains.{Table, no_table, Layout, fragment_sources, base_sources, base_table, table_at, owner, base_places, base_cells, AreOwned}
use Rattle.lama_snapshot.specs.Snap.{layout_of}
use Rattle.lama_snapshot.proofs.RowFrom.{get-behind, flat_map-append, length-fragment}

-- a fragment is read where it stands
pub cells_from-at : (r : ℕ) (pre : List Slot) (added : List (ℕ × ℕ)) (tail : Slot) (post : List Slot) (after : Option Slot → Option (List (ℕ × Cell))) (rest : List (ℕ × Cell)) → after (Some tail) ≡ Some rest →
    cells_from r (pre ++ (fragment_slots added tail ++ post)) after (length pre) (length added) ≡ Some (cell_row r (length pre) added ++ rest)
cells_from-at r pre [] tail post after rest is = ap after (get-behind pre tail post) ∙ is
cells_from-at r pre (p ∷ ps) tail post after rest is =
    let slots = fragment_slots ps tail ++ post in
    let l : length (pre ++ Edge p.0 ∷ []) ≡ length pre + 1 = length_push pre (Edge p.0) in
    let moved : pre ++ Edge p.0 ∷ slots ≡ (pre ++ Edge p.0 ∷ []) ++ slots = sym (append_assoc pre (Edge p.0 ∷ []) slots) in
    let tails : cells_from r (pre ++ Edge p.0 ∷ slots) after (length pre + 1) (length ps) ≡ Some (cell_row r (length pre + 1) ps ++ rest) =
    ap (λ xs. cells_from r xs after (length pre + 1) (length ps)) moved
    ∙ (ap (λ n. cells_from r ((pre ++ Edge p.0 ∷ []) ++ slots) after n (length ps)) (sym l)
    ∙ (cells_from-at r (pre ++ Edge p.0 ∷ []) ps tail post after rest is ∙ ap (λ n. Some (cell_row r n ps ++ rest)) l)) in
    ap (λ s. cell_then r (length pre) s (cells_from r (pre ++ Edge p.0 ∷ slots) after (length pre + 1) (length ps))) (get-behind pre (Edge p.0) slots)
    ∙ ap (cell_then r (length pre) (Some (Edge p.0))) tails

-- the row of v in a base is read where its record says
pub base_cells-at : (rows : List (List (ℕ × ℕ))) (v : ℕ) → v < length rows → base_cells rows (length (base_slots (take v rows))) (length (row_at rows v)) ≡ Some (base_places rows v)
base_cells-at rows v lt =
    let r = row_at rows v in
    let split : rows ≡ take v rows ++ r ∷ drop (v + 1) rows = sym (take-append-drop v rows) ∙ ap (λ xs. take v rows ++ xs) (drop_more rows v [] lt) in
    let slots : base_slots rows ≡ base_slots (take v rows) ++ (fragment_slots r End ++ base_slots (drop (v + 1) rows)) = ap base_slots split ∙ flat_map-append (λ r. fragment_slots r End) (take v rows) (r ∷ drop (v + 1) rows) in
    ap (λ xs. cells_from 0 xs (λ s. Some []) (length (base_slots (take v rows))) (length r)) slots
    ∙ (cells_from-at 0 (base_slots (take v rows)) r End (base_slots (drop (v + 1) rows)) (λ s. Some []) [] refl
    ∙ ap (λ (xs : List (ℕ × Cell)). Some xs) (append-nil (base_places rows v)))

-- the first edge of what is read, and the rest
pub record Stepped (r : ℕ) (slots : List Slot) (after : Option Slot → Option (List (ℕ × Cell))) (o n : ℕ) (whole : Option (List (ℕ × Cell))) : Type 0 where
  pub target : ℕ
  pub slot_is : slice_get slots o ≡ Some (Edge target)
  pub some : IsSome (cells_from r slots after (o + 1) n)
  pub reads : whole ≡ Some ((target, record { table = r; place = o }) ∷ unwrap_or (cells_from r slots after (o + 1) n) [])

cells_from-suc : (r : ℕ) (slots : List Slot) (after : Option Slot → Option (List (ℕ × Cell))) (o n : ℕ) → IsSome (cells_from r slots after o (suc n)) → Stepped r slots after o n (cells_from r slots after o (suc n))
cells_from-suc r slots after o n h = by (slice_get slots o) (cells_from r slots after (o + 1) n) refl refl h
  where
    by : (s : Option Slot) (x : Option (List (ℕ × Cell))) → slice_get slots o ≡ s → cells_from r slots after (o + 1) n ≡ x → IsSome (cell_then r o s x) → Stepped r slots after o n (cell_then r o s x)
    by None x p e h = absurd (false≢true h)
    by (Some End) x p e h = absurd (false≢true h)
    by (Some (Next l k m)) x p e h = absurd (false≢true h)
    by (Some (Edge t)) None p e h = absurd (false≢true h)
    by (Some (Edge t)) (Some rest) p e h = record {
      target = t;
      slot_is = p;
      some = subst IsSome (sym e) refl;
      reads = ap (λ (x : Option (List (ℕ × Cell))). Some ((t, record { table = r; place = o }) ∷ unwrap_or x [])) (sym e);
    }

pub cells_from-step : (r : ℕ) (slots : List Slot) (after : Option Slot → Option (List (ℕ × Cell))) (o left : ℕ) → 0 < left → IsSome (cells_from r slots after o left) → Stepped r slots after o (left - 1) (cells_from r slots after o left)
cells_from-step r slots after o zero some h = absurd (omega arith)
cells_from-step r slots after o (suc n) some h =
    let is : n ≡ suc n - 1 = omega arith in
    subst (λ m. Stepped r slots after o m (cells_from r slots after o (suc n))) is (cells_from-suc r slots after o n h)

-- the cells of a fragment are those of its vertex
pub owned-row : (l : Layout) (r v o : ℕ) (added : List (ℕ × ℕ)) (pre post : List ℕ) → (table_at l r).sources ≡ pre ++ (fragment_sources v added ++ post) → length pre ≡ o → AreOwned l v (cell_row r o added)
owned-row l r v o [] pre post is at = tt
owned-row l r v o (p ∷ ps) pre post is at = (
  ap (λ k. slice_get (table_at l r).sources k) (sym at) ∙ (ap (λ xs. slice_get xs (length pre)) is ∙ get-behind pre v (fragment_sources v ps ++ post)),
  owned-row l r v (o + 1) ps (pre ++ v ∷ []) post (is ∙ sym (append_assoc pre (v ∷ []) (fragment_sources v ps ++ post))) (length_push pre v ∙ ap (λ n. n + 1) at),
)

-- no cell of a fragment is another one's
other-row : (r o k : ℕ) (added : List (ℕ × ℕ)) → o < k → IsOther (record { table = r; place = o }) (cell_row r k added)
other-row r o k [] lt = tt
other-row r o k (p ∷ ps) lt = (
  (let here : eqb r r ≡ true = grind (arith, nat_tests) in let other : eqb o k ≡ false = grind (arith, nat_tests) in ap (λ b. b && eqb o k) here ∙ other),
  other-row r o (k + 1) ps (omega arith),
)

-- a cell of a vertex is in one of the tables
pub owner-within : (l : Layout) (c : Cell) (v : ℕ) → owner l c ≡ Some v → c.table ≤ length l.levels
owner-within l c v is = by (cases_lt (length l.levels) c.table)
  where
    by : (length l.levels < c.table) ⊎ (c.table ≤ length l.levels) → c.table ≤ length l.levels
    by (inr le) = le
    by (inl past) =
        let none : table_at l c.table ≡ no_table = get_or_past (base_table l.base ∷ l.levels) c.table no_table (omega (arith, past)) in
        let nowhere : None ≡ Some v = ap (λ (t : Table). slice_get t.sources c.place) (sym none) ∙ is in
        absurd (false≢true (ap (λ (x : Option ℕ). is-some x) nowhere))
      where
        is-some : Option ℕ → Bool
        is-some None = false
        is-some (Some x) = true

other-old : (l : Layout) (v r o : ℕ) (row : List (ℕ × Cell)) → AreOwned l v row → length l.levels < r → IsOther (record { table = r; place = o }) row
other-old l v r o [] own lt = tt
other-old l v r o (p ∷ row) own lt = (
  (let below = owner-within l p.1 v own.0 in let other : eqb r p.1.table ≡ false = grind (arith, nat_tests, below) in ap (λ b. b && eqb o p.1.place) other),
  other-old l v r o row own.1 lt,
)

other-append : (c : Cell) (xs ys : List (ℕ × Cell)) → IsOther c xs → IsOther c ys → IsOther c (xs ++ ys)
other-append c [] ys a b = b
other-append c (x ∷ xs) ys a b = (a.0, other-append c xs ys a.1 b)

pub apart-row : (l : Layout) (v r o : ℕ) (added : List (ℕ × ℕ)) (row : List (ℕ × Cell)) → AreOwned l v row → AreApart row → length l.levels < r → AreApart (cell_row r o added ++ row)
apart-row l v r o [] row own apart lt = apart
apart-row l v r o (p ∷ ps) row own apart lt = (
  other-append (record { table = r; place = o }) (cell_row r (o + 1) ps) row (other-row r o (o + 1) ps (omega arith)) (other-old l v r o row own lt),
  apart-row l v r (o + 1) ps row own apart lt,
)

pub apart-base : (r o : ℕ) (added : List (ℕ × ℕ)) → AreApart (cell_row r o added)
apart-base r o [] = tt
apart-base r o (p ∷ ps) = (other-row r o (o + 1) ps (omega arith), apart-base r (o + 1) ps)

pub owned-append : (l : Layout) (v : ℕ) (xs ys : List (ℕ × Cell)) → AreOwned l v xs → AreOwned l v ys → AreOwned l v (xs ++ ys)
owned-append l v [] ys a b = b
owned-append l v (x ∷ xs) ys a b = (a.0, owned-append l v xs ys a.1 b)

-- one table more above the others
pub table-old : (base : Numbered) (levels : List Table) (t : Table) (r : ℕ) → r ≤ length levels → table_at (layout_of base (levels ++ t ∷ [])) r ≡ table_at (layout_of base levels) r
table-old base levels t r le = get_or_append_left (base_table base.rows ∷ levels) (t ∷ []) no_table r (omega arith)

pub table-new : (base : Numbered) (levels : List Table) (t : Table) → table_at (layout_of base (levels ++ t ∷ [])) (length levels + 1) ≡ t
table-new base levels t = get_or_push (base_table base.rows ∷ levels) t no_table (length levels + 1) (omega arith)

pub owned-old : (base : Numbered) (levels : List Table) (t : Table) (v : ℕ) (row : List (ℕ × Cell)) → AreOwned (layout_of base levels) v row → AreOwned (layout_of base (levels ++ t ∷ [])) v row
owned-old base levels t v [] own = tt
owned-old base levels t v (p ∷ row) own = (
  ap (λ (x : Table). slice_get x.sources p.1.place) (table-old base levels t p.1.table (owner-within (layout_of base levels) p.1 v own.0)) ∙ own.0,
  owned-old base levels t v row own.1,
)

-- the sources of a base
pub length-fragment_sources : (v : ℕ) (r : List (ℕ × ℕ)) → length (fragment_sources v r) ≡ length r + 1
length-fragment_sources v r = length_push (map (λ (p : ℕ × ℕ). v) r) v ∙ ap (λ n. n + 1) (length-map r (λ (p : ℕ × ℕ). v))

pub length-base_sources : (v : ℕ) (rows : List (List (ℕ × ℕ))) → length (base_sources v rows) ≡ length (base_slots rows)
length-base_sources v [] = refl
length-base_sources v (r ∷ rows) =
    let a = length-append (fragment_slots r End) (base_slots rows) in
    let a' = length-append (fragment_sources v r) (base_sources (suc v) rows) in
    let b = length-fragment r End in
    let b' = length-fragment_sources v r in
    let c = length-base_sources (suc v) rows in
    omega (arith, a, a', b, b', c)

base_sources-append : (v : ℕ) (xs ys : List (List (ℕ × ℕ))) → base_sources v (xs ++ ys) ≡ base_sources v xs ++ base_sources (v + length xs) ys
base_sources-append v [] ys = ap (λ k. base_sources k ys) (omega arith)
base_sources-append v (x ∷ xs) ys =
    ap (λ zs. fragment_sources v x ++ zs) (base_sources-append (suc v) xs ys ∙ ap (λ k. base_sources (suc v) xs ++ base_sources k ys) (omega arith))
    ∙ sym (append_assoc (fragment_sources v x) (base_sources (suc v) xs) (base_sources (v + length (x ∷ xs)) ys))

-- the row of v in the base is its own
pub owned-base : (l : Layout) (v : ℕ) → AreOwned l v (base_places l.base v)
owned-base l v = by (cases_lt v (length l.base))
  where
    by : (v < length l.base) ⊎ (length l.base ≤ v) → AreOwned l v (base_places l.base v)
    by (inr ge) = subst (λ (r : List (ℕ × ℕ)). AreOwned l v (cell_row 0 (length (base_slots (take v l.base))) r)) (sym (get_or_past l.base v [] ge)) tt
    by (inl lt) =
        let r = row_at l.base v in
        let split : l.base ≡ take v l.base ++ r ∷ drop (v + 1) l.base = sym (take-append-drop v l.base) ∙ ap (λ xs. take v l.base ++ xs) (drop_more l.base v [] lt) in
        let many = length-take-le v l.base (omega (arith, lt)) in
        let sources : base_sources 0 l.base ≡ base_sources 0 (take v l.base) ++ (fragment_sources v r ++ base_sources (suc v) (drop (v + 1) l.base)) =
        ap (base_sources 0) split ∙ (base_sources-append 0 (take v l.base) (r ∷ drop (v + 1) l.base) ∙ ap (λ k. base_sources 0 (take v l.base) ++ base_sources k (r ∷ drop (v + 1) l.base)) (omega (arith, many))) in
        owned-row l 0 v (length (base_slots (take v l.base))) r (base_sources 0 (take v l.base)) (base_sources (suc v) (drop (v + 1) l.base)) sources (length-base_sources 0 (take v l.base))
