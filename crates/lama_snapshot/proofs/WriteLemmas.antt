-- A level that is written row by row.
use Rattle.std.proofs.Common.{◌≡◌, ◌≢◌, ◌∙◌, ℕ, ◌+◌, ◌<◌, ◌≤◌, List, [], ◌∷◌, ◌++◌, length, get_or, set, take, map, refl, sym, ap, arith, inl, inr, ◌⊎◌, true, false, cond, eqb}
use Rattle.std.specs.Prelude.{All, sum_by}
use Rattle.std.specs.List.Sorted.{IsStrictlyIncreasing}
use Rattle.std.proofs.lemmas.Bool.{cases_eq}
use Rattle.std.proofs.lemmas.Bool.Decides.{nat_tests}
use Rattle.std.proofs.lemmas.List.{append-nil, length-append, length-set, get_or-set_same, get_or-set_other, length-take-le, length-map, get_or-take}
use Rattle.std.proofs.lemmas.List.Elements.{All-head, All-tail}
use Rattle.std.proofs.lemmas.List.Kept.{AllPairs-from_increasing}
use Rattle.std.proofs.lemmas.List.Sums.{sum_by-cons, sum_by_push, sum_by-set, sum_by_more_le}
use Rattle.lama_edges.specs.declared.records.Slot.{Slot}
use Rattle.lama_edges.specs.declared.records.VertexRec.{VertexRec}
use Rattle.lama_model.specs.Change.{RowChange}
use Rattle.lama_snapshot.specs.Fragments.{fragment_slots, fragment_weights}
use Rattle.lama_snapshot.specs.Snap.{no_record}
use Rattle.lama_snapshot.specs.Written.{next_of, level_slots, level_weights, record_with, record_after, IsWritten, slots_of, pages_for}
use Rattle.lama_snapshot.proofs.RowFrom.{length-fragment, flat_map-append}
use Rattle.lama_snapshot.proofs.ChainLemmas.{get-map}

pub length-level_slots : (before : List VertexRec) (rows : List RowChange) → length (level_slots before rows) ≡ slots_of rows
length-level_slots before [] = refl
length-level_slots before (c ∷ rows) =
    let a = length-append (fragment_slots c.added (next_of (get_or before c.source no_record))) (level_slots before rows) in
    let b = length-fragment c.added (next_of (get_or before c.source no_record)) in
    let d = length-level_slots before rows in
    let e = sum_by-cons (λ (c : RowChange). length c.added + 1) c rows in
    omega (arith, a, b, d, e)

-- a vertex that no row names keeps its record
record_after-none : (n : ℕ) (before : List VertexRec) (o : ℕ) (rows : List RowChange) (v : ℕ) → All (λ (c : RowChange). c.source ≢ v) rows → record_after n before o rows v ≡ get_or before v no_record
record_after-none n before o [] v h = refl
record_after-none n before o (c ∷ rows) v h =
    let first = All-head (λ (c : RowChange). c.source ≢ v) c rows h in
    let other : eqb c.source v ≡ false = grind (arith, nat_tests, first) in
    ap (λ b. cond b (record_with n o (length c.added) (length c.killed) (get_or before v no_record)) (record_after n before (o + length c.added + 1) rows v)) other
    ∙ record_after-none n before (o + length c.added + 1) rows v (All-tail (λ (c : RowChange). c.source ≢ v) c rows h)

-- one row more
record_after-push : (n : ℕ) (before : List VertexRec) (o : ℕ) (rows : List RowChange) (c : RowChange) (v : ℕ) → All (λ (r : RowChange). r.source < c.source) rows →
    record_after n before o (rows ++ c ∷ []) v ≡ cond (eqb c.source v) (record_with n (o + slots_of rows) (length c.added) (length c.killed) (get_or before v no_record)) (record_after n before o rows v)
record_after-push n before o [] c v h = ap (λ k. cond (eqb c.source v) (record_with n k (length c.added) (length c.killed) (get_or before v no_record)) (get_or before v no_record)) (omega arith)
record_after-push n before o (r ∷ rows) c v h = by (cases_eq r.source v) (record_after-push n before (o + length r.added + 1) rows c v (All-tail (λ (r : RowChange). r.source < c.source) r rows h))
  where
    by : (r.source ≡ v) ⊎ (r.source ≢ v) →
        record_after n before (o + length r.added + 1) (rows ++ c ∷ []) v ≡ cond (eqb c.source v) (record_with n (o + length r.added + 1 + slots_of rows) (length c.added) (length c.killed) (get_or before v no_record)) (record_after n before (o + length r.added + 1) rows v) →
        record_after n before o (r ∷ (rows ++ c ∷ [])) v ≡ cond (eqb c.source v) (record_with n (o + slots_of (r ∷ rows)) (length c.added) (length c.killed) (get_or before v no_record)) (record_after n before o (r ∷ rows) v)
    by (inl is) rest =
        let below = All-head (λ (r : RowChange). r.source < c.source) r rows h in
        let here : eqb r.source v ≡ true = grind (arith, nat_tests, is) in
        let other : eqb c.source v ≡ false = grind (arith, nat_tests, is, below) in
        ap (λ b. cond b (record_with n o (length r.added) (length r.killed) (get_or before v no_record)) (record_after n before (o + length r.added + 1) (rows ++ c ∷ []) v)) here
        ∙ sym (ap (λ b. cond b (record_with n (o + slots_of (r ∷ rows)) (length c.added) (length c.killed) (get_or before v no_record)) (record_after n before o (r ∷ rows) v)) other
        ∙ ap (λ b. cond b (record_with n o (length r.added) (length r.killed) (get_or before v no_record)) (record_after n before (o + length r.added + 1) rows v)) here)
    by (inr ne) rest =
        let other : eqb r.source v ≡ false = grind (arith, nat_tests, ne) in
        let e = sum_by-cons (λ (c : RowChange). length c.added + 1) r rows in
        let k : o + length r.added + 1 + slots_of rows ≡ o + slots_of (r ∷ rows) = omega (arith, e) in
        ap (λ b. cond b (record_with n o (length r.added) (length r.killed) (get_or before v no_record)) (record_after n before (o + length r.added + 1) (rows ++ c ∷ []) v)) other
        ∙ (rest
        ∙ (ap (λ m. cond (eqb c.source v) (record_with n m (length c.added) (length c.killed) (get_or before v no_record)) (record_after n before (o + length r.added + 1) rows v)) k
        ∙ sym (ap (λ b. cond (eqb c.source v) (record_with n (o + slots_of (r ∷ rows)) (length c.added) (length c.killed) (get_or before v no_record)) (cond b (record_with n o (length r.added) (length r.killed) (get_or before v no_record)) (record_after n before (o + length r.added + 1) rows v))) other)))

-- a row that comes after the others still has its record
pub record-before : (n : ℕ) (before : List VertexRec) (rows : List RowChange) (c : RowChange) (slots : List Slot) (weights : List ℕ) (records : List VertexRec) → IsWritten n before rows slots weights records → c.source < length before → All (λ (r : RowChange). r.source < c.source) rows →
    get_or records c.source no_record ≡ get_or before c.source no_record
record-before n before rows c slots weights records h lt below = h.records_are c.source lt ∙ record_after-none n before 0 rows c.source (λ k d l is. let b = below k d l in omega (arith, b, is))

pub written-more : (n : ℕ) (before : List VertexRec) (rows : List RowChange) (c : RowChange) (slots slots' : List Slot) (weights weights' : List ℕ) (records records' : List VertexRec) →
    IsWritten n before rows slots weights records → c.source < length before → All (λ (r : RowChange). r.source < c.source) rows → length c.killed ≤ (get_or records c.source no_record).degree →
    slots' ≡ slots ++ fragment_slots c.added (next_of (get_or records c.source no_record)) → weights' ≡ weights ++ fragment_weights c.added →
    records' ≡ set records c.source (record_with n (length slots) (length c.added) (length c.killed) (get_or records c.source no_record)) →
    IsWritten n before (rows ++ c ∷ []) slots' weights' records'
written-more n before rows c slots slots' weights weights' records records' h lt below within s w r =
    let old = record-before n before rows c slots weights records h lt below in
    let size : length slots ≡ 0 + slots_of rows = ap length h.slots_are ∙ (length-level_slots before rows ∙ omega arith) in
    let len = h.len in
    let lt' : c.source < length records = omega (arith, len, lt) in
    let rec = record_with n (length slots) (length c.added) (length c.killed) (get_or records c.source no_record) in
    let total = sum_by-set (λ (x : VertexRec). x.degree) records c.source rec no_record lt' in
    let more = sum_by_push (λ (x : RowChange). length x.added) rows c in
    let gone = sum_by_push (λ (x : RowChange). length x.killed) rows c in
    let degrees = h.degrees in
    let is = ap (sum_by (λ (x : VertexRec). x.degree)) r in
    record {
      slots_are = s ∙ (ap (λ xs. xs ++ fragment_slots c.added (next_of (get_or records c.source no_record))) h.slots_are
          ∙ (ap (λ x. level_slots before rows ++ fragment_slots c.added (next_of x)) old
          ∙ (ap (λ xs. level_slots before rows ++ xs) (sym (append-nil (fragment_slots c.added (next_of (get_or before c.source no_record)))))
          ∙ sym (flat_map-append (λ (c : RowChange). fragment_slots c.added (next_of (get_or before c.source no_record))) rows (c ∷ [])))));
      weights_are = w ∙ (ap (λ xs. xs ++ fragment_weights c.added) h.weights_are
          ∙ (ap (λ xs. level_weights rows ++ xs) (sym (append-nil (fragment_weights c.added))) ∙ sym (flat_map-append (λ (c : RowChange). fragment_weights c.added) rows (c ∷ []))));
      len = ap length r ∙ (length-set records c.source rec ∙ h.len);
      records_are = λ v l. ap (λ xs. get_or xs v no_record) r ∙ (by old size lt' v l (cases_eq c.source v) ∙ sym (record_after-push n before 0 rows c v below));
      degrees = omega (arith, is, total, more, gone, degrees, within);
    }
  where
    by : get_or records c.source no_record ≡ get_or before c.source no_record → length slots ≡ 0 + slots_of rows → c.source < length records → (v : ℕ) → v < length before → (c.source ≡ v) ⊎ (c.source ≢ v) →
        get_or (set records c.source (record_with n (length slots) (length c.added) (length c.killed) (get_or records c.source no_record))) v no_record
        ≡ cond (eqb c.source v) (record_with n (0 + slots_of rows) (length c.added) (length c.killed) (get_or before v no_record)) (record_after n before 0 rows v)
    by old size lt' v l (inl is) =
        let here : eqb c.source v ≡ true = grind (arith, nat_tests, is) in
        ap (λ k. get_or (set records c.source (record_with n (length slots) (length c.added) (length c.killed) (get_or records c.source no_record))) k no_record) (sym is)
        ∙ (get_or-set_same records c.source (record_with n (length slots) (length c.added) (length c.killed) (get_or records c.source no_record)) no_record lt'
        ∙ (ap (λ x. record_with n (length slots) (length c.added) (length c.killed) x) (old ∙ ap (λ k. get_or before k no_record) is)
        ∙ (ap (λ k. record_with n k (length c.added) (length c.killed) (get_or before v no_record)) size
        ∙ sym (ap (λ b. cond b (record_with n (0 + slots_of rows) (length c.added) (length c.killed) (get_or before v no_record)) (record_after n before 0 rows v)) here))))
    by old size lt' v l (inr ne) =
        let other : eqb c.source v ≡ false = grind (arith, nat_tests, ne) in
        get_or-set_other records c.source v (record_with n (length slots) (length c.added) (length c.killed) (get_or records c.source no_record)) no_record (λ e. ne (sym e))
        ∙ (h.records_are v l ∙ sym (ap (λ b. cond b (record_with n (0 + slots_of rows) (length c.added) (length c.killed) (get_or before v no_record)) (record_after n before 0 rows v)) other))

-- what is known of the i-th row
pub rising-below : (rows : List RowChange) (i : ℕ) (c : RowChange) → IsStrictlyIncreasing (map (λ (r : RowChange). r.source) rows) → i < length rows → get_or rows i c ≡ c → All (λ (r : RowChange). r.source < c.source) (take i rows)
rising-below rows i c rising lt is k d l =
    let taken = length-take-le i rows (omega arith) in
    let k_lt : k < i = omega (arith, taken, l) in
    let pairs = AllPairs-from_increasing (map (λ (r : RowChange). r.source) rows) rising k i 0 k_lt (let n = length-map rows (λ (r : RowChange). r.source) in omega (arith, n, lt)) in
    let a = get-map (λ (r : RowChange). r.source) rows k d 0 (omega arith) in
    let b = get-map (λ (r : RowChange). r.source) rows i c 0 lt in
    let e = ap (λ (r : RowChange). r.source) is in
    let t = ap (λ (r : RowChange). r.source) (get_or-take i rows k d k_lt) in
    omega (arith, pairs, a, b, e, t)

pub room-at : (rows : List RowChange) (i : ℕ) (c : RowChange) → i < length rows → get_or rows i c ≡ c → slots_of (take i rows) + (length c.added + 1) ≤ slots_of rows
room-at rows i c lt is =
    let a = sum_by_more_le (λ (x : RowChange). length x.added + 1) rows i c lt in
    let b = ap (λ (x : RowChange). length x.added + 1) is in
    omega (arith, a, b)

pub added-at : (rows : List RowChange) (i : ℕ) (c : RowChange) → i < length rows → get_or rows i c ≡ c → sum_by (λ (x : RowChange). length x.added) (take i rows) + length c.added ≤ sum_by (λ (x : RowChange). length x.added) rows
added-at rows i c lt is =
    let a = sum_by_more_le (λ (x : RowChange). length x.added) rows i c lt in
    let b = ap (λ (x : RowChange). length x.added) is in
    omega (arith, a, b)

pub written-slots : (n : ℕ) (before : List VertexRec) (rows : List RowChange) (slots : List Slot) (weights : List ℕ) (records : List VertexRec) → IsWritten n before rows slots weights records → length slots ≡ slots_of rows
written-slots n before rows slots weights records h = ap length h.slots_are ∙ length-level_slots before rows

pub pages-le : (p p' p0 a b z i n : ℕ) → p' + pages_for a ≤ p + pages_for b + 1 → p ≤ p0 + i + pages_for a → b ≤ z → i < n → p' ≤ p0 + n + pages_for z
pages-le p p' p0 a b z i n made inv le lt = omega arith
