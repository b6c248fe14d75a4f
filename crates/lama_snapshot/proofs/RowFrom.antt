-- Fragments read from where they were written.
use Rattle.std.proofs.Common.{◌≡◌, ◌∙◌, ℕ, zero, suc, ◌+◌, ◌-◌, ◌<◌, ◌≤◌, List, [], ◌∷◌, ◌++◌, length, get_or, take, drop, map, refl, sym, ap, subst, arith, Option, Some, None}
use Rattle.std.specs.Prelude.{slice_get, flat_map, unwrap_or, IsSome}
use Rattle.std.proofs.lemmas.List.{append_assoc, length-append, length-map, length_push, take_more, take-append-drop, drop_more, append-nil}
use Rattle.std.proofs.lemmas.List.Sums.{sum_by-cons, sum_by_more, sum_by-take-le}
use Rattle.std.proofs.lemmas.Bool.{false≢true}
use Rattle.lama_edges.specs.declared.records.Slot.{Slot}
use Rattle.lama_edges.specs.declared.records.Slot.TheVariants.{Edge, Next, End}
use Rattle.lama_edges.specs.declared.records.VertexRec.{VertexRec}
use Rattle.lama_model.specs.Row.{row_at, edges_in}
use Rattle.lama_snapshot.specs.Fragments.{edge_then, row_from, fragment_slots, fragment_weights}
use Rattle.lama_snapshot.specs.BaseRows.{base_slots, base_weights, base_records, base_suffix, base_rows}

-- the element behind a front
pub get-behind : {A : Type 0} (pre : List A) (x : A) (post : List A) → slice_get (pre ++ x ∷ post) (length pre) ≡ Some x
get-behind [] x post = refl
get-behind (y ∷ pre) x post = get-behind pre x post

-- a fragment is read where it stands
pub row_from-at : (pre : List Slot) (pre' : List ℕ) → length pre ≡ length pre' → (r : List (ℕ × ℕ)) (tail : Slot) (post : List Slot) (post' : List ℕ) (after : Option Slot → Option (List (ℕ × ℕ))) (rest : List (ℕ × ℕ)) → after (Some tail) ≡ Some rest →
    row_from (pre ++ (fragment_slots r tail ++ post)) (pre' ++ (fragment_weights r ++ post')) after (length pre) (length r) ≡ Some (r ++ rest)
row_from-at pre pre' same [] tail post post' after rest is = ap after (get-behind pre tail post) ∙ is
row_from-at pre pre' same (p ∷ r) tail post post' after rest is =
    let slots = fragment_slots r tail ++ post in
    let weights = fragment_weights r ++ post' in
    let l : length (pre ++ Edge p.0 ∷ []) ≡ length pre + 1 = length_push pre (Edge p.0) in
    let l' : length (pre' ++ p.1 ∷ []) ≡ length pre' + 1 = length_push pre' p.1 in
    let moved : pre ++ Edge p.0 ∷ slots ≡ (pre ++ Edge p.0 ∷ []) ++ slots = sym (append_assoc pre (Edge p.0 ∷ []) slots) in
    let moved' : pre' ++ p.1 ∷ weights ≡ (pre' ++ p.1 ∷ []) ++ weights = sym (append_assoc pre' (p.1 ∷ []) weights) in
    let tails : row_from (pre ++ Edge p.0 ∷ slots) (pre' ++ p.1 ∷ weights) after (length pre + 1) (length r) ≡ Some (r ++ rest) =
    ap (λ xs. row_from xs (pre' ++ p.1 ∷ weights) after (length pre + 1) (length r)) moved
    ∙ (ap (λ xs. row_from ((pre ++ Edge p.0 ∷ []) ++ slots) xs after (length pre + 1) (length r)) moved'
    ∙ (ap (λ n. row_from ((pre ++ Edge p.0 ∷ []) ++ slots) ((pre' ++ p.1 ∷ []) ++ weights) after n (length r)) (sym l)
    ∙ row_from-at (pre ++ Edge p.0 ∷ []) (pre' ++ p.1 ∷ []) (l ∙ (ap (λ n. n + 1) same ∙ sym l')) r tail post post' after rest is)) in
    ap (λ s. edge_then s (slice_get (pre' ++ p.1 ∷ weights) (length pre)) (row_from (pre ++ Edge p.0 ∷ slots) (pre' ++ p.1 ∷ weights) after (length pre + 1) (length r))) (get-behind pre (Edge p.0) slots)
    ∙ (ap (λ w. edge_then (Some (Edge p.0)) w (row_from (pre ++ Edge p.0 ∷ slots) (pre' ++ p.1 ∷ weights) after (length pre + 1) (length r))) (ap (slice_get (pre' ++ p.1 ∷ weights)) same ∙ get-behind pre' p.1 weights)
    ∙ ap (edge_then (Some (Edge p.0)) (Some p.1)) tails)

-- how long a fragment is
pub length-fragment : (r : List (ℕ × ℕ)) (tail : Slot) → length (fragment_slots r tail) ≡ length r + 1
length-fragment r tail = length_push (map (λ (p : ℕ × ℕ). Edge p.0) r) tail ∙ ap (λ n. n + 1) (length-map r (λ (p : ℕ × ℕ). Edge p.0))

pub length-fragment_weights : (r : List (ℕ × ℕ)) → length (fragment_weights r) ≡ length r + 1
length-fragment_weights r = length_push (map (λ (p : ℕ × ℕ). p.1) r) 0 ∙ ap (λ n. n + 1) (length-map r (λ (p : ℕ × ℕ). p.1))

pub flat_map-append : {X A : Type 0} (f : X → List A) (xs ys : List X) → flat_map f (xs ++ ys) ≡ flat_map f xs ++ flat_map f ys
flat_map-append f [] ys = refl
flat_map-append f (x ∷ xs) ys = ap (λ zs. f x ++ zs) (flat_map-append f xs ys) ∙ sym (append_assoc (f x) (flat_map f xs) (flat_map f ys))

-- how long the slots and weights of rows are
pub length-base_slots : (rows : List (List (ℕ × ℕ))) → length (base_slots rows) ≡ edges_in rows + length rows
length-base_slots [] = refl
length-base_slots (r ∷ rows) =
    let a = length-append (fragment_slots r End) (base_slots rows) in
    let b = length-fragment r End in
    let c = length-base_slots rows in
    let d = sum_by-cons (λ (r : List (ℕ × ℕ)). length r) r rows in
    omega (arith, a, b, c, d)

pub length-base_weights : (rows : List (List (ℕ × ℕ))) → length (base_weights rows) ≡ length (base_slots rows)
length-base_weights [] = refl
length-base_weights (r ∷ rows) =
    let a = length-append (fragment_slots r End) (base_slots rows) in
    let a' = length-append (fragment_weights r) (base_weights rows) in
    let b = length-fragment r End in
    let b' = length-fragment_weights r in
    let c = length-base_weights rows in
    omega (arith, a, a', b, b', c)

-- one row more
pub base_slots-more : (rows : List (List (ℕ × ℕ))) (v : ℕ) → v < length rows → base_slots (take (v + 1) rows) ≡ base_slots (take v rows) ++ fragment_slots (row_at rows v) End
base_slots-more rows v lt = ap base_slots (take_more rows v [] lt) ∙ (flat_map-append (λ r. fragment_slots r End) (take v rows) (row_at rows v ∷ []) ∙ ap (λ xs. base_slots (take v rows) ++ xs) (append-nil (fragment_slots (row_at rows v) End)))

pub base_weights-more : (rows : List (List (ℕ × ℕ))) (v : ℕ) → v < length rows → base_weights (take (v + 1) rows) ≡ base_weights (take v rows) ++ fragment_weights (row_at rows v)
base_weights-more rows v lt = ap base_weights (take_more rows v [] lt) ∙ (flat_map-append fragment_weights (take v rows) (row_at rows v ∷ []) ∙ ap (λ xs. base_weights (take v rows) ++ xs) (append-nil (fragment_weights (row_at rows v))))

abbrev base_record : ℕ → ℕ → List (ℕ × ℕ) → VertexRec
base_record n o r = record { level = n; offset = o; len = length r; degree = length r }

base_records-push : (n o : ℕ) (rows : List (List (ℕ × ℕ))) (r : List (ℕ × ℕ)) → base_records n o (rows ++ r ∷ []) ≡ base_records n o rows ++ base_record n (o + length (base_slots rows)) r ∷ []
base_records-push n o [] r = ap (λ k. base_record n k r ∷ []) (omega arith)
base_records-push n o (q ∷ rows) r =
    let a = length-append (fragment_slots q End) (base_slots rows) in
    let b = length-fragment q End in
    ap (λ xs. base_record n o q ∷ xs) (base_records-push n (o + length q + 1) rows r ∙ ap (λ k. base_records n (o + length q + 1) rows ++ base_record n k r ∷ []) (omega (arith, a, b)))

pub base_records-more : (n : ℕ) (rows : List (List (ℕ × ℕ))) (v : ℕ) → v < length rows → base_records n 0 (take (v + 1) rows) ≡ base_records n 0 (take v rows) ++ base_record n (length (base_slots (take v rows))) (row_at rows v) ∷ []
base_records-more n rows v lt = ap (base_records n 0) (take_more rows v [] lt) ∙ (base_records-push n 0 (take v rows) (row_at rows v) ∙ ap (λ k. base_records n 0 (take v rows) ++ base_record n k (row_at rows v) ∷ []) (omega arith))

pub length-base_records : (n o : ℕ) (rows : List (List (ℕ × ℕ))) → length (base_records n o rows) ≡ length rows
length-base_records n o [] = refl
length-base_records n o (r ∷ rows) = ap (λ k. suc k) (length-base_records n (o + length r + 1) rows)

-- the record of v
pub base_records-at : (n o : ℕ) (rows : List (List (ℕ × ℕ))) (v : ℕ) (d : VertexRec) → v < length rows → get_or (base_records n o rows) v d ≡ base_record n (o + length (base_slots (take v rows))) (row_at rows v)
base_records-at n o [] v d lt = absurd (omega arith)
base_records-at n o (r ∷ rows) zero d lt = ap (λ k. base_record n k r) (omega arith)
base_records-at n o (r ∷ rows) (suc v) d lt =
    let a = length-append (fragment_slots r End) (base_slots (take v rows)) in
    let b = length-fragment r End in
    base_records-at n (o + length r + 1) rows v d (omega arith) ∙ ap (λ k. base_record n k (row_at rows v)) (omega (arith, a, b))

-- the edges up to a row and its own are no more than all
pub edges-up-to : (rows : List (List (ℕ × ℕ))) (v : ℕ) → v < length rows → edges_in (take v rows) + length (row_at rows v) ≤ edges_in rows
edges-up-to rows v lt =
    let a = sum_by_more (λ (r : List (ℕ × ℕ)). length r) rows v [] lt in
    let b = sum_by-take-le (λ (r : List (ℕ × ℕ)). length r) rows (v + 1) in
    omega (arith, a, b)

pub edges-taken : (rows : List (List (ℕ × ℕ))) (v : ℕ) → edges_in (take v rows) ≤ edges_in rows
edges-taken rows v = sum_by-take-le (λ (r : List (ℕ × ℕ)). length r) rows v

-- the row of v is read where its record says
pub base_suffix-at : (rows : List (List (ℕ × ℕ))) (v : ℕ) → v < length rows → base_suffix rows (length (base_slots (take v rows))) (length (row_at rows v)) ≡ Some (row_at rows v)
base_suffix-at rows v lt =
    let r = row_at rows v in
    let split : rows ≡ take v rows ++ r ∷ drop (v + 1) rows = sym (take-append-drop v rows) ∙ ap (λ xs. take v rows ++ xs) (drop_more rows v [] lt) in
    let slots : base_slots rows ≡ base_slots (take v rows) ++ (fragment_slots r End ++ base_slots (drop (v + 1) rows)) = ap base_slots split ∙ flat_map-append (λ r. fragment_slots r End) (take v rows) (r ∷ drop (v + 1) rows) in
    let weights : base_weights rows ≡ base_weights (take v rows) ++ (fragment_weights r ++ base_weights (drop (v + 1) rows)) = ap base_weights split ∙ flat_map-append fragment_weights (take v rows) (r ∷ drop (v + 1) rows) in
    ap (λ xs. row_from xs (base_weights rows) (λ s. Some []) (length (base_slots (take v rows))) (length r)) slots
    ∙ (ap (λ xs. row_from (base_slots (take v rows) ++ (fragment_slots r End ++ base_slots (drop (v + 1) rows))) xs (λ s. Some []) (length (base_slots (take v rows))) (length r)) weights
    ∙ (row_from-at (base_slots (take v rows)) (base_weights (take v rows)) (sym (length-base_weights (take v rows))) r End (base_slots (drop (v + 1) rows)) (base_weights (drop (v + 1) rows)) (λ s. Some []) [] refl
    ∙ ap (λ (xs : List (ℕ × ℕ)). Some xs) (append-nil r)))

-- the rows that the records lead to are the rows
rows-behind : (n : ℕ) (pre rows : List (List (ℕ × ℕ))) → base_rows (base_records n (length (base_slots pre)) rows) (base_slots (pre ++ rows)) (base_weights (pre ++ rows)) ≡ rows
rows-behind n pre [] = refl
rows-behind n pre (r ∷ rows) =
    let slots = flat_map-append (λ r. fragment_slots r End) pre (r ∷ rows) in
    let weights = flat_map-append fragment_weights pre (r ∷ rows) in
    let a = length-append (base_slots pre) (fragment_slots r End ++ []) in
    let a' = append-nil (fragment_slots r End) in
    let b = length-fragment r End in
    let grown : pre ++ r ∷ rows ≡ (pre ++ r ∷ []) ++ rows = sym (append_assoc pre (r ∷ []) rows) in
    let more : length (base_slots (pre ++ r ∷ [])) ≡ length (base_slots pre) + length r + 1 =
    ap length (flat_map-append (λ r. fragment_slots r End) pre (r ∷ [])) ∙ (a ∙ (ap (λ (xs : List Slot). length (base_slots pre) + length xs) a' ∙ (ap (λ k. length (base_slots pre) + k) b ∙ omega arith))) in
    let first : row_from (base_slots (pre ++ r ∷ rows)) (base_weights (pre ++ r ∷ rows)) (λ s. Some []) (length (base_slots pre)) (length r) ≡ Some r =
    ap (λ xs. row_from xs (base_weights (pre ++ r ∷ rows)) (λ s. Some []) (length (base_slots pre)) (length r)) slots
    ∙ (ap (λ xs. row_from (base_slots pre ++ (fragment_slots r End ++ base_slots rows)) xs (λ s. Some []) (length (base_slots pre)) (length r)) weights
    ∙ (row_from-at (base_slots pre) (base_weights pre) (sym (length-base_weights pre)) r End (base_slots rows) (base_weights rows) (λ s. Some []) [] refl
    ∙ ap (λ (xs : List (ℕ × ℕ)). Some xs) (append-nil r))) in
    ap (λ o. unwrap_or o [] ∷ base_rows (base_records n (length (base_slots pre) + length r + 1) rows) (base_slots (pre ++ r ∷ rows)) (base_weights (pre ++ r ∷ rows))) first
    ∙ ap (λ xs. r ∷ xs)
    (ap (λ k. base_rows (base_records n k rows) (base_slots (pre ++ r ∷ rows)) (base_weights (pre ++ r ∷ rows))) (sym more)
    ∙ (ap (λ (rs : List (List (ℕ × ℕ))). base_rows (base_records n (length (base_slots (pre ++ r ∷ []))) rows) (base_slots rs) (base_weights rs)) grown
    ∙ rows-behind n (pre ++ r ∷ []) rows))

pub base_rows-are : (n : ℕ) (rows : List (List (ℕ × ℕ))) → base_rows (base_records n 0 rows) (base_slots rows) (base_weights rows) ≡ rows
base_rows-are n rows = rows-behind n [] rows

-- the first edge of what is read, and the rest
pub record Stepped (slots : List Slot) (weights : List ℕ) (after : Option Slot → Option (List (ℕ × ℕ))) (o n : ℕ) (whole : Option (List (ℕ × ℕ))) : Type 0 where
  pub target : ℕ
  pub weight : ℕ
  pub slot_is : slice_get slots o ≡ Some (Edge target)
  pub weight_is : slice_get weights o ≡ Some weight
  pub some : IsSome (row_from slots weights after (o + 1) n)
  pub reads : whole ≡ Some ((target, weight) ∷ unwrap_or (row_from slots weights after (o + 1) n) [])

row_from-suc : (slots : List Slot) (weights : List ℕ) (after : Option Slot → Option (List (ℕ × ℕ))) (o n : ℕ) → IsSome (row_from slots weights after o (suc n)) → Stepped slots weights after o n (row_from slots weights after o (suc n))
row_from-suc slots weights after o n h = by (slice_get slots o) (slice_get weights o) (row_from slots weights after (o + 1) n) refl refl refl h
  where
    by : (s : Option Slot) (w : Option ℕ) (r : Option (List (ℕ × ℕ))) → slice_get slots o ≡ s → slice_get weights o ≡ w → row_from slots weights after (o + 1) n ≡ r → IsSome (edge_then s w r) → Stepped slots weights after o n (edge_then s w r)
    by None w r p q x h = absurd (false≢true h)
    by (Some End) w r p q x h = absurd (false≢true h)
    by (Some (Next l k m)) w r p q x h = absurd (false≢true h)
    by (Some (Edge t)) None r p q x h = absurd (false≢true h)
    by (Some (Edge t)) (Some w) None p q x h = absurd (false≢true h)
    by (Some (Edge t)) (Some w) (Some rest) p q x h = record {
      target = t;
      weight = w;
      slot_is = p;
      weight_is = q;
      some = subst IsSome (sym x) refl;
      reads = ap (λ (r : Option (List (ℕ × ℕ))). Some ((t, w) ∷ unwrap_or r [])) (sym x);
    }

pub row_from-step : (slots : List Slot) (weights : List ℕ) (after : Option Slot → Option (List (ℕ × ℕ))) (o left : ℕ) → 0 < left → IsSome (row_from slots weights after o left) → Stepped slots weights after o (left - 1) (row_from slots weights after o left)
row_from-step slots weights after o zero some h = absurd (omega arith)
row_from-step slots weights after o (suc n) some h =
    let is : n ≡ suc n - 1 = omega arith in
    subst (λ m. Stepped slots weights after o m (row_from slots weights after o (suc n))) is (row_from-suc slots weights after o n h)

-- a record of a base, read at v
pub base-record : (n v : ℕ) (records : List VertexRec) (rows : List (List (ℕ × ℕ))) (x : VertexRec) → records ≡ base_records n 0 rows → v < length rows → x ≡ get_or records v x →
    (x.offset ≡ length (base_slots (take v rows))) × (x.len ≡ length (row_at rows v)) × (x.degree ≡ length (row_at rows v))
base-record n v records rows x is lt read =
    let at : x ≡ base_record n (0 + length (base_slots (take v rows))) (row_at rows v) = read ∙ (ap (λ rs. get_or rs v x) is ∙ base_records-at n 0 rows v x lt) in
    (ap (λ (r : VertexRec). r.offset) at ∙ omega arith, ap (λ (r : VertexRec). r.len) at, ap (λ (r : VertexRec). r.degree) at)

pub base-length : (rows : List (List (ℕ × ℕ))) → edges_in rows ≤ 33554432 → length rows ≤ 4194304 → length (base_slots rows) ≤ 37748736
base-length rows few vertices = let l = length-base_slots rows in omega (arith, l)
