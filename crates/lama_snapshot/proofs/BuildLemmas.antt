-- Numbers that come up where a base is built.
use Rattle.std.proofs.Common.{◌≡◌, ◌≢◌, ◌∙◌, ℕ, ◌+◌, ◌*◌, ◌/◌, ◌%◌, ◌<◌, ◌≤◌, List, length, take, replicate, ap, sym, arith, subst, Bool, true, false, cond, eqb}
use Rattle.std.proofs.lemmas.Bool.{false≢true}
use Rattle.std.proofs.lemmas.Bool.Decides.{nat_tests}
use Rattle.std.proofs.lemmas.List.{length-take-le, length-take}
use Rattle.lama_edges.specs.declared.records.Slot.{Slot}
use Rattle.lama_edges.specs.declared.records.VertexRec.{VertexRec}
use Rattle.lama_model.specs.Row.{row_at, edges_in, AreTargetsBelow}
use Rattle.lama_snapshot.specs.BaseRows.{base_slots, base_weights, base_records, base_rows, IsBase}
use Rattle.lama_snapshot.proofs.RowFrom.{length-base_slots, edges-up-to, edges-taken, base_rows-are}

-- the slots before a row, and its edges
pub slots-up-to : (slots : List Slot) (rows : List (List (ℕ × ℕ))) (v : ℕ) → slots ≡ base_slots (take v rows) → v < length rows → length slots + length (row_at rows v) ≤ edges_in rows + v
slots-up-to slots rows v is lt =
    let a = ap length is ∙ length-base_slots (take v rows) in
    let b = length-take-le v rows (omega arith) in
    let c = edges-up-to rows v lt in
    omega (arith, a, b, c)

-- pages where a row is written
pub pages-row : (p p' p0 a b v n m : ℕ) → p' + 2 * ((a + 255) / 256) ≤ p + 2 * ((b + 256) / 256) → p ≡ p0 + 2 * ((a + 255) / 256) + (v + 255) / 256 → b ≤ m + v → v < n → p' ≤ p0 + (n / 256 + 2 * ((m + n) / 256) + 8)
pages-row p p' p0 a b v n m made inv le lt = omega arith

-- where its record is written as well
pub pages-record : (p p' p'' p0 a b v n m : ℕ) → p' + 2 * ((a + 255) / 256) ≤ p + 2 * ((b + 256) / 256) → p ≡ p0 + 2 * ((a + 255) / 256) + (v + 255) / 256 → b ≤ m + v → v < n → p'' ≤ p' + 1 → p'' ≤ p0 + (n / 256 + 2 * ((m + n) / 256) + 8)
pages-record p p' p'' p0 a b v n m made inv le lt one = omega arith

-- and at the end
pub pages-all : (p p0 z n m : ℕ) → p ≡ p0 + 2 * ((z + 255) / 256) + (n + 255) / 256 → z ≤ m + n → p ≤ p0 + (n / 256 + 2 * ((m + n) / 256) + 8)
pages-all p p0 z n m inv le = omega arith

-- and with the page of the marks
pub pages-marked : (p p' p0 z n m : ℕ) → p' ≤ p + 1 → p ≡ p0 + 2 * ((z + 255) / 256) + (n + 255) / 256 → z ≤ m + n → p' ≤ p0 + (n / 256 + 2 * ((m + n) / 256) + 8)
pages-marked p p' p0 z n m one inv le = omega arith

-- one page at each 256th record
pub pages-step : (v : ℕ) (b : Bool) → eqb (v % 256) 0 ≡ b → (v + 1 + 255) / 256 ≡ (v + 255) / 256 + cond b 1 0
pages-step v true h = let is : v % 256 ≡ 0 = grind (arith, nat_tests, h) in omega arith
pages-step v false h = let is : v % 256 ≢ 0 = (λ e. let t : eqb (v % 256) 0 ≡ true = grind (arith, nat_tests, e) in false≢true (sym h ∙ t)) in omega arith

-- pages after a row and its record
pub pages-next : (q p' p p0 a b v e z : ℕ) → p' + 2 * ((a + 255) / 256) ≡ p + 2 * ((b + 256) / 256) → p ≡ p0 + 2 * ((a + 255) / 256) + (v + 255) / 256 → q ≡ p' + e → (v + 1 + 255) / 256 ≡ (v + 255) / 256 + e → z ≡ b + 1 → q ≡ p0 + 2 * ((z + 255) / 256) + (v + 1 + 255) / 256
pages-next q p' p p0 a b v e z made inv one step wide =
    let w : (z + 255) / 256 ≡ (b + 256) / 256 = ap (λ n. n / 256) (omega (arith, wide)) in
    omega (arith, made, inv, one, step, w)

pub slots-at-most : (slots : List Slot) (rows : List (List (ℕ × ℕ))) (v : ℕ) → slots ≡ base_slots (take v rows) → length slots ≤ edges_in rows + length rows
slots-at-most slots rows v is =
    let a = ap length is ∙ length-base_slots (take v rows) in
    let b = length-take v rows in
    let c = edges-taken rows v in
    omega (arith, a, b, c)

pub built : (n : ℕ) (records : List VertexRec) (slots : List Slot) (weights : List ℕ) (rows : List (List (ℕ × ℕ))) → records ≡ base_records n 0 rows → slots ≡ base_slots rows → weights ≡ base_weights rows → base_rows records slots weights ≡ rows
built n records slots weights rows r s w =
    ap (λ rs. base_rows rs slots weights) r ∙ (ap (λ ss. base_rows (base_records n 0 rows) ss weights) s ∙ (ap (base_rows (base_records n 0 rows) (base_slots rows)) w ∙ base_rows-are n rows))

-- the fields of a base that was built
pub is-base : (n : ℕ) (records : List VertexRec) (slots : List Slot) (marks weights : List ℕ) (rows : List (List (ℕ × ℕ))) → records ≡ base_records n 0 rows → slots ≡ base_slots rows → marks ≡ replicate (length slots) 0 → weights ≡ base_weights rows →
    AreTargetsBelow (length rows) rows → edges_in rows ≤ 33554432 → length rows ≤ 4194304 → n ≤ 100000000 → IsBase n records slots marks weights (base_rows records slots weights)
is-base n records slots marks weights rows r s m w targets few vertices number =
    subst (IsBase n records slots marks weights) (sym (built n records slots weights rows r s w))
    (record { records_are = r; slots_are = s; marks_are = m ∙ ap (λ (xs : List Slot). replicate (length xs) 0) s; weights_are = w; targets = targets; few = few; vertices = vertices; number = number })
