-- Chains, level by level.
use Rattle.std.proofs.Common.{◌≡◌, ◌≢◌, ◌∙◌, ℕ, zero, suc, ◌+◌, ◌-◌, ◌<◌, ◌≤◌, List, [], ◌∷◌, length, get_or, map, refl, sym, ap, arith, inl, inr, ◌⊎◌, true, false, cond, eqb, leb, Some}
use Rattle.std.specs.Prelude.{unwrap_or}
use Rattle.std.specs.List.{range_with_len}
use Rattle.std.proofs.lemmas.Bool.{cases_eq}
use Rattle.std.proofs.lemmas.Bool.Decides.{nat_tests}
use Rattle.lama_edges.specs.declared.records.VertexRec.{VertexRec}
use Rattle.lama_model.specs.Row.{row_at}
use Rattle.lama_snapshot.specs.declared.level.Cell.{Cell}
use Rattle.lama_snapshot.specs.Cells.{Columns, cells_from, visible}
use Rattle.lama_snapshot.specs.Chains.{no_table, Layout, after_fragment, chain, record_row, place_row, base_places, base_cells, cells_of, rows_from}
use Rattle.lama_snapshot.specs.Snap.{no_record}

-- the floor is the whole row in the base
pub chain-base : (l : Layout) (v n o len : ℕ) → chain l v n 0 o len ≡ Some (base_places l.base v)
chain-base l v zero o len = refl
chain-base l v (suc n) o len =
    let other : eqb 0 (suc n) ≡ false = grind (arith, nat_tests) in
    ap (λ b. cond b (cells_from (suc n) (get_or l.levels n no_table).slots (after_fragment l.floor n (chain l v n)) o len) (chain l v n 0 o len)) other ∙ chain-base l v n o len

-- a level above it is read where it stands
pub chain-at : (l : Layout) (v n r o len : ℕ) → r < n → chain l v n (r + 1) o len ≡ cells_from (r + 1) (get_or l.levels r no_table).slots (after_fragment l.floor r (chain l v r)) o len
chain-at l v zero r o len lt = absurd (omega arith)
chain-at l v (suc n) r o len lt = by (cases_eq r n) (λ (ne : r ≢ n). chain-at l v n r o len (omega arith))
  where
    by : (r ≡ n) ⊎ (r ≢ n) → (r ≢ n → chain l v n (r + 1) o len ≡ cells_from (r + 1) (get_or l.levels r no_table).slots (after_fragment l.floor r (chain l v r)) o len) →
        chain l v (suc n) (r + 1) o len ≡ cells_from (r + 1) (get_or l.levels r no_table).slots (after_fragment l.floor r (chain l v r)) o len
    by (inl is) rest =
        let here : eqb (r + 1) (suc n) ≡ true = grind (arith, nat_tests) in
        let one : suc n ≡ n + 1 = omega arith in
        ap (λ b. cond b (cells_from (suc n) (get_or l.levels n no_table).slots (after_fragment l.floor n (chain l v n)) o len) (chain l v n (r + 1) o len)) here
        ∙ (ap (λ k. cells_from k (get_or l.levels n no_table).slots (after_fragment l.floor n (chain l v n)) o len) one
        ∙ ap (λ k. cells_from (k + 1) (get_or l.levels k no_table).slots (after_fragment l.floor k (chain l v k)) o len) (sym is))
    by (inr ne) rest =
        let other : eqb (r + 1) (suc n) ≡ false = grind (arith, nat_tests) in
        ap (λ b. cond b (cells_from (suc n) (get_or l.levels n no_table).slots (after_fragment l.floor n (chain l v n)) o len) (chain l v n (r + 1) o len)) other ∙ rest ne

-- the levels above the ones that are looked at don't matter
pub chain-levels : (l : Layout) (v n m r o len : ℕ) → r ≤ n → n ≤ m → chain l v m r o len ≡ chain l v n r o len
chain-levels l v n m zero o len le up = chain-base l v m o len ∙ sym (chain-base l v n o len)
chain-levels l v n m (suc r) o len le up =
    let is : suc r ≡ r + 1 = omega arith in
    ap (λ k. chain l v m k o len) is ∙ (chain-at l v m r o len (omega arith) ∙ (sym (chain-at l v n r o len (omega arith)) ∙ ap (λ k. chain l v n k o len) (sym is)))

-- at a place up to the floor, and above it
pub place-low : (l : Layout) (v level o left : ℕ) → level ≤ l.floor → place_row l v level o left ≡ base_cells l.base o left
place-low l v level o left le =
    let t : leb level l.floor ≡ true = grind (arith, nat_tests) in
    ap (λ b. cond b (base_cells l.base o left) (chain l v (length l.levels) (level - l.floor) o left)) t

pub place-high : (l : Layout) (v level o left : ℕ) → l.floor < level → place_row l v level o left ≡ chain l v (length l.levels) (level - l.floor) o left
place-high l v level o left lt =
    let t : leb level l.floor ≡ false = grind (arith, nat_tests) in
    ap (λ b. cond b (base_cells l.base o left) (chain l v (length l.levels) (level - l.floor) o left)) t

-- the fragment at a place above the floor
pub place-at : (l : Layout) (v level o left : ℕ) → l.floor < level → level ≤ l.floor + length l.levels → (let r = level - l.floor - 1 in
    place_row l v level o left ≡ cells_from (r + 1) (get_or l.levels r no_table).slots (after_fragment l.floor r (chain l v r)) o left)
place-at l v level o left lt within =
    let r = level - l.floor - 1 in
    let is : level - l.floor ≡ r + 1 = omega arith in
    place-high l v level o left lt ∙ (ap (λ k. chain l v (length l.levels) k o left) is ∙ chain-at l v (length l.levels) r o left (omega arith))

pub get-map : {A B : Type 0} (f : A → B) (xs : List A) (i : ℕ) (a : A) (b : B) → i < length xs → get_or (map f xs) i b ≡ f (get_or xs i a)
get-map f [] i a b lt = absurd (omega arith)
get-map f (x ∷ xs) zero a b lt = refl
get-map f (x ∷ xs) (suc i) a b lt = get-map f xs i a b (omega arith)

pub get-map-map : {A B C : Type 0} (f : A → B) (h : B → C) (xs : List A) (i : ℕ) (a : A) (d : C) → i < length xs → get_or (map h (map f xs)) i d ≡ h (f (get_or xs i a))
get-map-map f h [] i a d lt = absurd (omega arith)
get-map-map f h (x ∷ xs) zero a d lt = refl
get-map-map f h (x ∷ xs) (suc i) a d lt = get-map-map f h xs i a d (omega arith)

-- the rows that records lead to
range-get : (a n k d : ℕ) → k < n → get_or (range_with_len a n) k d ≡ a + k
range-get a zero k d lt = absurd (omega arith)
range-get a (suc n) zero d lt = omega arith
range-get a (suc n) (suc k) d lt = range-get (a + 1) n k d (omega arith) ∙ omega arith

range-length : (a n : ℕ) → length (range_with_len a n) ≡ n
range-length a zero = refl
range-length a (suc n) = ap (λ m. suc m) (range-length (a + 1) n)

length-map' : {A B : Type 0} (f : A → B) (xs : List A) → length (map f xs) ≡ length xs
length-map' f [] = refl
length-map' f (x ∷ xs) = ap (λ m. suc m) (length-map' f xs)

pub length-cells_of : (l : Layout) (records : List VertexRec) → length (cells_of l records) ≡ length records
length-cells_of l records = length-map' (λ v. unwrap_or (record_row l v (get_or records v no_record)) []) (range_with_len 0 (length records)) ∙ range-length 0 (length records)

pub cells_of-at : (l : Layout) (records : List VertexRec) (v : ℕ) → v < length records → get_or (cells_of l records) v [] ≡ unwrap_or (record_row l v (get_or records v no_record)) []
cells_of-at l records v lt =
    let n = range-length 0 (length records) in
    get-map (λ v. unwrap_or (record_row l v (get_or records v no_record)) []) (range_with_len 0 (length records)) v 0 [] (omega (arith, n))
    ∙ ap (λ k. unwrap_or (record_row l k (get_or records k no_record)) []) (range-get 0 (length records) v 0 lt ∙ omega arith)

pub length-rows_from : (l : Layout) (cols : Columns) (records : List VertexRec) → length (rows_from l cols records) ≡ length records
length-rows_from l cols records = length-map' (visible cols) (cells_of l records) ∙ length-cells_of l records

-- a row as it is read, also past the last one
pub row-visible : (cols : Columns) (cells : List (List (ℕ × Cell))) (v : ℕ) → row_at (map (visible cols) cells) v ≡ visible cols (get_or cells v [])
row-visible cols [] v = refl
row-visible cols (x ∷ xs) zero = refl
row-visible cols (x ∷ xs) (suc v) = row-visible cols xs v

-- a place in the base for a record that leads there
pub place-base : (l : Layout) (v level o left lv o' len : ℕ) (rows : List (List (ℕ × ℕ))) → level ≤ l.floor → lv ≤ l.floor → l.base ≡ rows → base_cells rows o left ≡ Some (base_places rows v) →
    place_row l v level o left ≡ chain l v (length l.levels) (lv - l.floor) o' len
place-base l v level o left lv o' len rows le le' is reads =
    let none : lv - l.floor ≡ 0 = omega arith in
    place-low l v level o left le
    ∙ (ap (λ rs. base_cells rs o left) is ∙ (reads ∙ (ap (λ rs. Some (base_places rs v)) (sym is) ∙ sym (ap (λ k. chain l v (length l.levels) k o' len) none ∙ chain-base l v (length l.levels) o' len))))
