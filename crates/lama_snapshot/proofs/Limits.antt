-- Numbers of edges and slots, by changes and by rows.
use Rattle.std.proofs.Common.{◌≡◌, ◌∙◌, ℕ, zero, suc, ◌+◌, ◌-◌, ◌<◌, ◌≤◌, List, [], ◌∷◌, length, get_or, map, refl, sym, ap, subst, arith, inl, inr, ◌⊎◌, Bool, true, false, eqb, ◌&&◌}
use Rattle.std.specs.Prelude.{All, sum_by, IsTrue, ◌↔◌}
use Rattle.std.specs.List.Sorted.{IsStrictlyIncreasing}
use Rattle.std.proofs.lemmas.Bool.{false≢true, cases_lt}
use Rattle.std.proofs.lemmas.List.{length-map, get_or_default}
use Rattle.std.proofs.lemmas.List.Elements.{All-head, All-tail}
use Rattle.std.proofs.lemmas.List.Sums.{sum_by-cons}
use Rattle.std.proofs.lemmas.List.Kept.{AllPairs-from_increasing}
use Rattle.lama_edges.specs.declared.records.VertexRec.{VertexRec}
use Rattle.lama_model.specs.Row.{edges_in}
use Rattle.lama_model.specs.Change.{RowChange, Change, IsRowChange, is_empty_change}
use Rattle.lama_model.specs.Bounds.{touched, added_edges, killed_edges, set_edges}
use Rattle.lama_model.specs.Fits.{Fits, HasIndexes}
use Rattle.lama_snapshot.specs.Cells.{Columns}
use Rattle.lama_snapshot.specs.Chains.{Layout, IsRecord, rows_from}
use Rattle.lama_snapshot.specs.Snap.{no_record}
use Rattle.lama_snapshot.specs.Written.{slots_of, pages_for}
use Rattle.lama_snapshot.proofs.ChainLemmas.{length-rows_from, get-map}
use Rattle.lama_snapshot.proofs.StepLemmas.{record-row}

-- a slot for each edge and one for each tail
pub slots-sum : (rows : List RowChange) → slots_of rows ≡ sum_by (λ (c : RowChange). length c.added) rows + length rows
slots-sum [] = refl
slots-sum (c ∷ rows) =
    let a = sum_by-cons (λ (c : RowChange). length c.added + 1) c rows in
    let b = sum_by-cons (λ (c : RowChange). length c.added) c rows in
    let d = slots-sum rows in
    omega (arith, a, b, d)

-- a row change names one edge at least
says-some : (c : RowChange) → is_empty_change c ≡ false → 0 < length c.added + length c.killed + length c.set
says-some c some = by (length c.added) (length c.killed) (length c.set) refl refl refl
  where
    by : (a k s : ℕ) → length c.added ≡ a → length c.killed ≡ k → length c.set ≡ s → 0 < length c.added + length c.killed + length c.set
    by zero zero zero ea ek es = absurd (false≢true (sym some ∙ (ap (λ n. (eqb n 0 && eqb (length c.killed) 0) && eqb (length c.set) 0) ea ∙ (ap (λ n. (true && eqb n 0) && eqb (length c.set) 0) ek ∙ ap (λ n. eqb n 0) es))))
    by (suc a) k s ea ek es = omega (arith, ea)
    by zero (suc k) s ea ek es = omega (arith, ek)
    by zero zero (suc s) ea ek es = omega (arith, es)

pub rows-said : (count : ℕ) (rows : List RowChange) → All (IsRowChange count) rows → length rows ≤ sum_by (λ (c : RowChange). length c.added) rows + sum_by (λ (c : RowChange). length c.killed) rows + sum_by (λ (c : RowChange). length c.set) rows
rows-said count [] valid = omega arith
rows-said count (c ∷ rows) valid =
    let a = sum_by-cons (λ (c : RowChange). length c.added) c rows in
    let k = sum_by-cons (λ (c : RowChange). length c.killed) c rows in
    let s = sum_by-cons (λ (c : RowChange). length c.set) c rows in
    let some = says-some c (All-head (IsRowChange count) c rows valid).some in
    let rest = rows-said count rows (All-tail (IsRowChange count) c rows valid) in
    omega (arith, a, k, s, some, rest)

-- the three sums are one
pub three-sums : (rows : List RowChange) → sum_by (λ (c : RowChange). length c.added + length c.killed + length c.set) rows ≡ sum_by (λ (c : RowChange). length c.added) rows + sum_by (λ (c : RowChange). length c.killed) rows + sum_by (λ (c : RowChange). length c.set) rows
three-sums [] = refl
three-sums (c ∷ rows) =
    let all = sum_by-cons (λ (c : RowChange). length c.added + length c.killed + length c.set) c rows in
    let a = sum_by-cons (λ (c : RowChange). length c.added) c rows in
    let k = sum_by-cons (λ (c : RowChange). length c.killed) c rows in
    let s = sum_by-cons (λ (c : RowChange). length c.set) c rows in
    let rest = three-sums rows in
    omega (arith, all, a, k, s, rest)

-- two sums that agree place by place
sum-pointwise : {A B : Type 0} (f : A → ℕ) (g : B → ℕ) (d : A) (e : B) (xs : List A) (ys : List B) → length xs ≡ length ys → ((k : ℕ) → k < length xs → f (get_or xs k d) ≡ g (get_or ys k e)) → sum_by f xs ≡ sum_by g ys
sum-pointwise f g d e [] [] same each = refl
sum-pointwise f g d e [] (y ∷ ys) same each = absurd (omega (arith, same))
sum-pointwise f g d e (x ∷ xs) [] same each = absurd (omega (arith, same))
sum-pointwise f g d e (x ∷ xs) (y ∷ ys) same each =
    let a = sum_by-cons f x xs in
    let b = sum_by-cons g y ys in
    let first = each 0 (omega arith) in
    let rest = sum-pointwise f g d e xs ys (omega (arith, same)) (λ k lt. each (suc k) (omega arith)) in
    omega (arith, a, b, first, rest)

-- the rows have as many edges as the records say
pub edges-records : (l : Layout) (cols : Columns) (records : List VertexRec) → ((v : ℕ) → v < length records → IsRecord l cols v (get_or records v no_record)) → edges_in (rows_from l cols records) ≡ sum_by (λ (r : VertexRec). r.degree) records
edges-records l cols records ok =
    let n = length-rows_from l cols records in
    sum-pointwise (λ (r : List (ℕ × ℕ)). length r) (λ (r : VertexRec). r.degree) [] no_record (rows_from l cols records) records n
    (λ v lt. let lt' : v < length records = omega (arith, lt, n) in sym (record-row l cols records v (get_or records v no_record) lt' refl (ok v lt')).degree)

-- indexes that rise below n are n at most
rise-index : (ks : List ℕ) → IsStrictlyIncreasing ks → (k : ℕ) → k < length ks → k ≤ get_or ks k 0
rise-index ks rises zero lt = omega arith
rise-index ks rises (suc k) lt =
    let before = rise-index ks rises k (omega arith) in
    let step = AllPairs-from_increasing ks rises k (suc k) 0 (omega arith) lt in
    omega (arith, before, step)

pub rising-few : (ks : List ℕ) (n : ℕ) → IsStrictlyIncreasing ks → All (λ k. k < n) ks → length ks ≤ n
rising-few ks n rises below = by (length ks) refl
  where
    by : (m : ℕ) → length ks ≡ m → length ks ≤ n
    by zero is = omega (arith, is)
    by (suc m) is =
        let lt : m < length ks = omega (arith, is) in
        let at = rise-index ks rises m lt in
        let top = below m 0 lt in
        omega (arith, is, at, top)

-- pages of a level
pub level-le : (p p' p0 : ℕ) (c : Change) → p ≤ p0 + 2 → p' ≤ p + length c.rows + pages_for (slots_of c.rows) → p' ≤ p0 + touched c + pages_for (added_edges c + touched c) + 2
level-le p p' p0 c extended written =
    let w = subst (λ z. p' ≤ p + length c.rows + pages_for z) (slots-sum c.rows) written in
    by (pages_for (added_edges c + length c.rows)) w
  where
    by : (z : ℕ) → p' ≤ p + length c.rows + z → p' ≤ p0 + length c.rows + z + 2
    by z w = omega (arith, extended, w)

-- where the last of rising indexes is below n, all are
pub last-below : (ks : List ℕ) (n : ℕ) → IsStrictlyIncreasing ks → 0 < length ks → get_or ks (length ks - 1) 0 < n → (k : ℕ) → k < length ks → get_or ks k 0 < n
last-below ks n rises some last k lt = by (cases_lt k (length ks - 1))
  where
    by : (k < length ks - 1) ⊎ (length ks - 1 ≤ k) → get_or ks k 0 < n
    by (inl below) = let pair = AllPairs-from_increasing ks rises k (length ks - 1) 0 below (omega arith) in omega (arith, pair, last)
    by (inr ge) = let e : k ≡ length ks - 1 = omega (arith, ge, lt) in subst (λ i. get_or ks i 0 < n) (sym e) last

pub all-below : (ks : List ℕ) (n last : ℕ) → IsStrictlyIncreasing ks → 0 < length ks → last ≡ get_or ks (length ks - 1) last → (last < n → All (λ k. k < n) ks) × (All (λ k. k < n) ks → last < n)
all-below ks n last rises some is = (
  λ lt k d l. subst (λ x. x < n) (get_or_default ks k 0 d l) (last-below ks n rises some (subst (λ x. x < n) (is ∙ get_or_default ks (length ks - 1) last 0 (omega arith)) lt) k l),
  λ all. subst (λ x. x < n) (sym is) (all (length ks - 1) last (omega arith)),
)

pub all-set-below : (ps : List (ℕ × ℕ)) (n : ℕ) (last : ℕ × ℕ) → IsStrictlyIncreasing (map (λ (p : ℕ × ℕ). p.0) ps) → 0 < length ps → last ≡ get_or ps (length ps - 1) last → (last.0 < n → All (λ (p : ℕ × ℕ). p.0 < n) ps) × (All (λ (p : ℕ × ℕ). p.0 < n) ps → last.0 < n)
all-set-below ps n last rises some is =
    let ks = map (λ (p : ℕ × ℕ). p.0) ps in
    let m : length ks ≡ length ps = length-map ps (λ (p : ℕ × ℕ). p.0) in
    let at : (k : ℕ) (d : ℕ × ℕ) → k < length ps → get_or ks k 0 ≡ (get_or ps k d).0 = λ k d l. get-map (λ (p : ℕ × ℕ). p.0) ps k d 0 l in
    let last-is : last.0 ≡ get_or ks (length ks - 1) 0 = ap (λ (p : ℕ × ℕ). p.0) is ∙ (sym (at (length ps - 1) last (omega arith)) ∙ ap (λ k. get_or ks (k - 1) 0) (sym m)) in (
      λ lt k d l. subst (λ x. x < n) (at k d l) (last-below ks n rises (omega (arith, m, some)) (subst (λ x. x < n) last-is lt) k (omega (arith, m, l))),
      λ all. subst (λ (p : ℕ × ℕ). p.0 < n) (sym is) (all (length ps - 1) last (omega arith)),
    )

-- a change fits where its numbers and its indexes do
pub fits-iff : (number e : ℕ) (b : Bool) (rows : List (List (ℕ × ℕ))) (c : Change) → c.number ≡ number + 1 → c.number ≤ 100000000 → length rows ≤ c.count → c.count ≤ 4194304 → e ≡ edges_in rows → e + added_edges c ≤ 33554432 + killed_edges c →
    added_edges c + killed_edges c + set_edges c ≤ 33554432 → (IsTrue b ↔ All (HasIndexes rows) c.rows) → (IsTrue b → Fits number rows c) × (Fits number rows c → IsTrue b)
fits-iff number e b rows c next limit grows vertices is edges said tells = (
  λ t. record { next = next; limit = limit; grows = grows; vertices = vertices; indexes = tells.0 t; edges = omega (arith, is, edges); touched = said },
  λ f. tells.1 f.indexes,
)
