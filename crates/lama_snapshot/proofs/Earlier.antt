-- The edges of a row that were there at an earlier number, before and after a change.
use Rattle.std.proofs.Common.{◌≡◌, ◌∙◌, ℕ, ◌+◌, ◌-◌, ◌<◌, ◌≤◌, List, [], ◌∷◌, ◌++◌, length, get_or, map, refl, sym, ap, arith, Bool, true, false, cond, eqb, leb, ltb, ◌&&◌, Some}
use Rattle.std.specs.Prelude.{◌||◌, filter, flat_map}
use Rattle.std.specs.List.{AllByRecursion}
use Rattle.std.proofs.lemmas.Bool.{false≢true}
use Rattle.std.proofs.lemmas.Bool.Decides.{nat_tests}
use Rattle.lama_model.specs.Change.{RowChange}
use Rattle.lama_snapshot.specs.declared.level.Cell.{Cell}
use Rattle.lama_snapshot.specs.Cells.{Columns, mark_at, stands, standing, visible, pair_at, cell_row}
use Rattle.lama_snapshot.specs.Chains.{Layout, owner, AreOwned}
use Rattle.lama_snapshot.specs.History.{was_there, targets_then}
use Rattle.lama_snapshot.proofs.CellsFrom.{owner-within}
use Rattle.lama_snapshot.proofs.Standing.{no_edge, is_found, found-append, found-cons, same-is, slots_at}
use Rattle.lama_snapshot.proofs.Surviving.{stands-at}

-- two tests that agree on a row leave the same edges of it
agree : (p q : ℕ × Cell → Bool) (row : List (ℕ × Cell)) → AllByRecursion (λ e. p e ≡ q e) row → filter p row ≡ filter q row
agree p q [] same = refl
agree p q (e ∷ row) same = (λ j. cond (same.0 j) (e ∷ agree p q row same.1 j) (agree p q row same.1 j))

-- what holds of all cells of v holds of a row of them
each : (l : Layout) (v : ℕ) (P : ℕ × Cell → Type 0) (row : List (ℕ × Cell)) → AreOwned l v row → ((p : ℕ × Cell) → owner l p.1 ≡ Some v → P p) → AllByRecursion P row
each l v P [] own h = tt
each l v P (p ∷ row) own h = (h p own.0, each l v P row own.1 h)

targets-visible : (cols : Columns) (row : List (ℕ × Cell)) → map (λ (p : ℕ × ℕ). p.0) (map (pair_at cols) row) ≡ map (λ p. p.0) row
targets-visible cols [] = refl
targets-visible cols (p ∷ row) = ap (λ xs. p.0 ∷ xs) (targets-visible cols row)

-- at the newest number those are there that stand
pub then-now : (l : Layout) (cols : Columns) (v : ℕ) (row : List (ℕ × Cell)) → AreOwned l v row → ((c : Cell) → owner l c ≡ Some v → mark_at cols c ≤ l.floor + length l.levels) →
    targets_then l.floor cols (l.floor + length l.levels) row ≡ map (λ p. p.0) (visible cols row)
then-now l cols v row own marks =
    ap (map (λ p. p.0)) (agree (was_there l.floor cols (l.floor + length l.levels)) (stands cols) row (each l v (λ p. was_there l.floor cols (l.floor + length l.levels) p ≡ stands cols p) row own one))
    ∙ sym (targets-visible cols (standing cols row))
  where
    one : (p : ℕ × Cell) → owner l p.1 ≡ Some v → was_there l.floor cols (l.floor + length l.levels) p ≡ stands cols p
    one p owns =
        let within = owner-within l p.1 v owns in
        let low = marks p.1 owns in
        let table : leb p.1.table (l.floor + length l.levels - l.floor) ≡ true = grind (arith, nat_tests, within) in
        let late : ltb (l.floor + length l.levels) (mark_at cols p.1) ≡ false = grind (arith, nat_tests, low) in
        ap (λ b. b && (eqb (mark_at cols p.1) 0 || ltb (l.floor + length l.levels) (mark_at cols p.1))) table
        ∙ (ap (λ b. eqb (mark_at cols p.1) 0 || b) late ∙ plain (eqb (mark_at cols p.1) 0))
      where
        plain : (b : Bool) → (b || false) ≡ b
        plain true = refl
        plain false = refl

-- edges of a later table were not there yet
pub then-new : (floor : ℕ) (cols : Columns) (k r o : ℕ) (added : List (ℕ × ℕ)) (row : List (ℕ × Cell)) → k - floor < r → targets_then floor cols k (cell_row r o added ++ row) ≡ targets_then floor cols k row
then-new floor cols k r o [] row lt = refl
then-new floor cols k r o (p ∷ added) row lt =
    let c : Cell = record { table = r; place = o } in
    let table : leb r (k - floor) ≡ false = grind (arith, nat_tests, lt) in
    let rest = filter (was_there floor cols k) (cell_row r (o + 1) added ++ row) in
    ap (λ b. map (λ q. q.0) (cond (b && (eqb (mark_at cols c) 0 || ltb k (mark_at cols c))) ((p.0, c) ∷ rest) rest)) table
    ∙ then-new floor cols k r (o + 1) added row lt

-- what a change of the number n hides was there before it
pub then-kept : (l : Layout) (cols cols' : Columns) (n k : ℕ) (killed : List (ℕ × ℕ)) (v : ℕ) (row : List (ℕ × Cell)) → AreOwned l v row → k < n →
    ((c : Cell) → owner l c ≡ Some v → mark_at cols' c ≡ cond (is_found c killed) n (mark_at cols c)) →
    ((c : Cell) → is_found c killed ≡ true → mark_at cols c ≡ 0) →
    targets_then l.floor cols' k row ≡ targets_then l.floor cols k row
then-kept l cols cols' n k killed v row own lt marks stood =
    ap (map (λ p. p.0)) (agree (was_there l.floor cols' k) (was_there l.floor cols k) row (each l v (λ p. was_there l.floor cols' k p ≡ was_there l.floor cols k p) row own (λ p owns. one p.1 (marks p.1 owns) (is_found p.1 killed) refl)))
  where
    true-or : (b : Bool) → (b || true) ≡ true
    true-or true = refl
    true-or false = refl

    one : (c : Cell) → mark_at cols' c ≡ cond (is_found c killed) n (mark_at cols c) → (b : Bool) → is_found c killed ≡ b →
        (leb c.table (k - l.floor) && (eqb (mark_at cols' c) 0 || ltb k (mark_at cols' c))) ≡ (leb c.table (k - l.floor) && (eqb (mark_at cols c) 0 || ltb k (mark_at cols c)))
    one c is false found =
        let same : mark_at cols' c ≡ mark_at cols c = is ∙ ap (λ b. cond b n (mark_at cols c)) found in
        ap (λ m. leb c.table (k - l.floor) && (eqb m 0 || ltb k m)) same
    one c is true found =
        let now : mark_at cols' c ≡ n = is ∙ ap (λ b. cond b n (mark_at cols c)) found in
        let late : ltb k n ≡ true = grind (arith, nat_tests, lt) in
        ap (λ m. leb c.table (k - l.floor) && (eqb m 0 || ltb k m)) now
        ∙ (ap (λ b. leb c.table (k - l.floor) && (eqb n 0 || b)) late
        ∙ (ap (λ b. leb c.table (k - l.floor) && b) (true-or (eqb n 0)) ∙ sym (ap (λ m. leb c.table (k - l.floor) && (eqb m 0 || ltb k m)) (stood c found))))

-- what a change hides stood until then
pub found-stood : (cols : Columns) (cells : ℕ → List (ℕ × Cell)) (c : Cell) (rows : List RowChange) →
    AllByRecursion (λ (r : RowChange). AllByRecursion (λ k. k < length (standing cols (cells r.source))) r.killed) rows →
    is_found c (flat_map (λ (r : RowChange). slots_at (standing cols (cells r.source)) r.killed) rows) ≡ true → mark_at cols c ≡ 0
found-stood cols cells c [] below found = absurd (false≢true found)
found-stood cols cells c (r ∷ rows) below found =
    let front = slots_at (standing cols (cells r.source)) r.killed in
    let rest = flat_map (λ (r : RowChange). slots_at (standing cols (cells r.source)) r.killed) rows in
    by (is_found c front) refl (sym (found-append c front rest) ∙ found) (found-stood cols cells c rows below.1)
  where
    rest : List (ℕ × ℕ)
    rest = flat_map (λ (r : RowChange). slots_at (standing cols (cells r.source)) r.killed) rows

    among : (ks : List ℕ) → AllByRecursion (λ k. k < length (standing cols (cells r.source))) ks → is_found c (slots_at (standing cols (cells r.source)) ks) ≡ true → mark_at cols c ≡ 0
    among [] below found = absurd (false≢true found)
    among (k ∷ ks) below found =
        let d = (get_or (standing cols (cells r.source)) k no_edge).1 in
        here (eqb d.table c.table && eqb d.place c.place) refl (sym (found-cons c d (slots_at (standing cols (cells r.source)) ks)) ∙ found) (among ks below.1) (stands-at cols (cells r.source) k below.0)
      where
        d : Cell
        d = (get_or (standing cols (cells r.source)) k no_edge).1

        here : (b : Bool) → (eqb d.table c.table && eqb d.place c.place) ≡ b → (b || is_found c (slots_at (standing cols (cells r.source)) ks)) ≡ true → (is_found c (slots_at (standing cols (cells r.source)) ks) ≡ true → mark_at cols c ≡ 0) → eqb (mark_at cols d) 0 ≡ true → mark_at cols c ≡ 0
        here true same found more stood = ap (mark_at cols) (sym (same-is d c same)) ∙ (let z : mark_at cols d ≡ 0 = grind (arith, nat_tests, stood) in z)
        here false same found more stood = more found

    by : (b : Bool) → is_found c (slots_at (standing cols (cells r.source)) r.killed) ≡ b → (b || is_found c rest) ≡ true → (is_found c rest ≡ true → mark_at cols c ≡ 0) → mark_at cols c ≡ 0
    by true is found later = among r.killed below.0 is
    by false is found later = later found

-- an edge at the front of a row
pub then-takes : (floor : ℕ) (cols : Columns) (k : ℕ) (p : ℕ × Cell) (row : List (ℕ × Cell)) → was_there floor cols k p ≡ true → targets_then floor cols k (p ∷ row) ≡ p.0 ∷ targets_then floor cols k row
then-takes floor cols k p row is = ap (λ b. map (λ q. q.0) (cond b (p ∷ filter (was_there floor cols k) row) (filter (was_there floor cols k) row))) is

pub then-passes : (floor : ℕ) (cols : Columns) (k : ℕ) (p : ℕ × Cell) (row : List (ℕ × Cell)) → was_there floor cols k p ≡ false → targets_then floor cols k (p ∷ row) ≡ targets_then floor cols k row
then-passes floor cols k p row is = ap (λ b. map (λ q. q.0) (cond b (p ∷ filter (was_there floor cols k) row) (filter (was_there floor cols k) row))) is
