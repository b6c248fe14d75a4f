-- How many edges changes name.
use Rattle.std.proofs.Common.{◌≡◌, ◌∙◌, ℕ, zero, suc, ◌+◌, ◌<◌, ◌≤◌, List, [], ◌∷◌, ◌++◌, length, map, Bool, true, false, not, cond, eqb, refl, ap, arith, Option, Some, None}
use Rattle.std.specs.Prelude.{sum_by, All, filter}
use Rattle.std.specs.List.{range_with_len, AllByRecursion}
use Rattle.std.proofs.lemmas.Bool.Decides.{nat_tests}
use Rattle.std.proofs.lemmas.List.{length-append}
use Rattle.std.proofs.lemmas.List.Elements.{All-from_recursion}
use Rattle.std.proofs.lemmas.List.Sums.{sum_by-cons}
use Rattle.lama_model.specs.declared.calls.Write.{Write}
use Rattle.lama_model.specs.declared.calls.Write.TheVariants.{Vertices, Add as Adds, Remove as Removes, Weigh as Weighs}
use Rattle.lama_model.specs.Journal.{edges_added}
use Rattle.lama_model.specs.Row.{row_at, edges_in}
use Rattle.lama_model.specs.Change.{RowChange, is_empty_change}
use Rattle.lama_model.specs.Fits.{HasIndexes}
use Rattle.lama_delta.specs.declared.edge_writes.EdgeWrite.{EdgeWrite}
use Rattle.lama_delta.specs.declared.edge_writes.Act.{Act}
use Rattle.lama_delta.specs.declared.edge_writes.Act.TheVariants.{Add, Remove, Weigh}
use Rattle.lama_delta.specs.declared.row_writes.Fate.{Fate}
use Rattle.lama_delta.specs.declared.row_writes.Fate.TheVariants.{Gone, Weight}
use Rattle.lama_delta.specs.EdgeWrites.{edge_writes, is_from}
use Rattle.lama_delta.specs.RowWrites.{fate_of, new_pair, left_of, gone_here, set_here, gone_from, set_from, change_at, changes_below}

-- the sum over n sources from a on
abbrev over : (ℕ → ℕ) → ℕ → ℕ → ℕ
over h a zero = 0
over h a (suc n) = h a + over h (a + 1) n

-- a sum over the changes that say something is no more than the one over all sources
sum-over : (size : RowChange → ℕ) (f : ℕ → RowChange) (h : ℕ → ℕ) → ((u : ℕ) → size (f u) ≤ h u) → (a n : ℕ) → sum_by size (filter (λ (c : RowChange). not (is_empty_change c)) (map f (range_with_len a n))) ≤ over h a n
sum-over size f h each a zero = omega arith
sum-over size f h each a (suc n) = by (is_empty_change (f a)) (sum-over size f h each (a + 1) n)
  where
    rest : List RowChange
    rest = filter (λ (c : RowChange). not (is_empty_change c)) (map f (range_with_len (a + 1) n))

    by : (b : Bool) → sum_by size rest ≤ over h (a + 1) n → sum_by size (cond (not b) (f a ∷ rest) rest) ≤ h a + over h (a + 1) n
    by true le = omega (arith, le)
    by false le = let first = each a in let s = sum_by-cons size (f a) rest in omega (arith, le, first, s)

over-shift : (h : ℕ → ℕ) (a n : ℕ) → over h (suc a) n ≡ over (λ u. h (suc u)) a n
over-shift h a zero = refl
over-shift h a (suc n) = ap (λ k. h (suc a) + over h k n) (let e : suc a + 1 ≡ suc (a + 1) = omega arith in e) ∙ ap (λ k. h (suc a) + k) (over-shift h (a + 1) n)

-- the rows have as many edges as all of them together
over-rows : (rows : List (List (ℕ × ℕ))) (n : ℕ) → over (λ u. length (row_at rows u)) 0 n ≤ edges_in rows
over-rows [] n = none 0 n
  where
    none : (a n : ℕ) → over (λ u. length (row_at [] u)) a n ≤ 0
    none a zero = omega arith
    none a (suc n) = let rest = none (a + 1) n in omega (arith, rest)
over-rows (r ∷ rows) zero = omega arith
over-rows (r ∷ rows) (suc n) =
    let one = ap (λ k. over (λ u. length (row_at (r ∷ rows) u)) k n) (let e : 0 + 1 ≡ suc 0 = omega arith in e) ∙ over-shift (λ u. length (row_at (r ∷ rows) u)) 0 n in
    let rest = over-rows rows n in
    let s = sum_by-cons (λ (r : List (ℕ × ℕ)). length r) r rows in
    omega (arith, one, rest, s)

-- each old edge is gone or weighed anew at most once
old-few : (i : ℕ) (f : ℕ → Option Fate) (row : List (ℕ × ℕ)) → length (gone_from i f row) + length (set_from i f row) ≤ length row
old-few i f [] = omega arith
old-few i f (p ∷ row) = by (f p.0) (old-few (i + 1) f row)
  where
    pick : (b : Bool) (w : ℕ) → length (gone_from (i + 1) f row) + length (set_from (i + 1) f row) ≤ length row → length (gone_from (i + 1) f row) + length (cond b [] ((i, w) ∷ []) ++ set_from (i + 1) f row) ≤ length (p ∷ row)
    pick true w le = omega (arith, le)
    pick false w le = omega (arith, le)

    by : (x : Option Fate) → length (gone_from (i + 1) f row) + length (set_from (i + 1) f row) ≤ length row → length (gone_here i x ++ gone_from (i + 1) f row) + length (set_here i p.1 x ++ set_from (i + 1) f row) ≤ length (p ∷ row)
    by None le = omega (arith, le)
    by (Some Gone) le = omega (arith, le)
    by (Some (Weight w)) le = pick (eqb w p.1) w le

two-sums : (cs : List RowChange) → sum_by (λ (c : RowChange). length c.killed + length c.set) cs ≡ sum_by (λ (c : RowChange). length c.killed) cs + sum_by (λ (c : RowChange). length c.set) cs
two-sums [] = refl
two-sums (c ∷ cs) =
    let a = sum_by-cons (λ (c : RowChange). length c.killed + length c.set) c cs in
    let k = sum_by-cons (λ (c : RowChange). length c.killed) c cs in
    let s = sum_by-cons (λ (c : RowChange). length c.set) c cs in
    let rest = two-sums cs in
    omega (arith, a, k, s, rest)

pub old-counted : (rows : List (List (ℕ × ℕ))) (es : List EdgeWrite) (n : ℕ) → sum_by (λ (c : RowChange). length c.killed) (changes_below rows es n) + sum_by (λ (c : RowChange). length c.set) (changes_below rows es n) ≤ edges_in rows
old-counted rows es n =
    let a = sum-over (λ (c : RowChange). length c.killed + length c.set) (change_at rows es) (λ u. length (row_at rows u)) (λ u. old-few 0 (fate_of (filter (is_from u) es)) (row_at rows u)) 0 n in
    let b = over-rows rows n in
    let s = two-sums (changes_below rows es n) in
    omega (arith, a, b, s)

-- how many edges writes add at most
abbrev adds_of : Act → ℕ
adds_of (Add w) = 1
adds_of Remove = 0
adds_of (Weigh w) = 0

abbrev adds : List EdgeWrite → ℕ
adds [] = 0
adds (e ∷ es) = adds_of e.act + adds es

new-few : (act : Act) (v : ℕ) (later : Option Fate) → length (new_pair act v later) ≤ adds_of act
new-few (Add w) v None = omega arith
new-few (Add w) v (Some Gone) = omega arith
new-few (Add w) v (Some (Weight x)) = omega arith
new-few Remove v later = omega arith
new-few (Weigh w) v later = omega arith

left-few : (es : List EdgeWrite) → length (left_of es) ≤ adds es
left-few [] = omega arith
left-few (e ∷ es) =
    let a = length-append (left_of es) (new_pair e.act e.target (fate_of es e.target)) in
    let b = new-few e.act e.target (fate_of es e.target) in
    let rest = left-few es in
    omega (arith, a, b, rest)

-- the writes of all sources are the writes
over-after : (k c : ℕ) (h : ℕ → ℕ) (a n : ℕ) → k < a → over (λ u. cond (eqb k u) c 0 + h u) a n ≡ over h a n
over-after k c h a zero lt = refl
over-after k c h a (suc n) lt =
    let other : eqb k a ≡ false = grind (arith, nat_tests, lt) in
    let here : cond (eqb k a) c 0 + h a ≡ h a = ap (λ b. cond b c 0 + h a) other ∙ omega arith in
    let rest = over-after k c h (a + 1) n (omega (arith, lt)) in
    omega (arith, here, rest)

over-one : (k c : ℕ) (h : ℕ → ℕ) (a n : ℕ) → over (λ u. cond (eqb k u) c 0 + h u) a n ≤ c + over h a n
over-one k c h a zero = omega arith
over-one k c h a (suc n) = by (eqb k a) refl (over-one k c h (a + 1) n)
  where
    by : (b : Bool) → eqb k a ≡ b → over (λ u. cond (eqb k u) c 0 + h u) (a + 1) n ≤ c + over h (a + 1) n → cond b c 0 + h a + over (λ u. cond (eqb k u) c 0 + h u) (a + 1) n ≤ c + (h a + over h (a + 1) n)
    by true is rest = (let e : k ≡ a = grind (arith, nat_tests, is) in let same = over-after k c h (a + 1) n (omega (arith, e)) in omega (arith, same))
    by false is rest = omega (arith, rest)

over-same : (h h' : ℕ → ℕ) → ((u : ℕ) → h u ≡ h' u) → (a n : ℕ) → over h a n ≡ over h' a n
over-same h h' same a zero = refl
over-same h h' same a (suc n) = let first = same a in let rest = over-same h h' same (a + 1) n in omega (arith, first, rest)

adds-filter : (u : ℕ) (e : EdgeWrite) (es : List EdgeWrite) → adds (filter (is_from u) (e ∷ es)) ≡ cond (eqb e.source u) (adds_of e.act) 0 + adds (filter (is_from u) es)
adds-filter u e es = by (eqb e.source u)
  where
    by : (b : Bool) → adds (cond b (e ∷ filter (is_from u) es) (filter (is_from u) es)) ≡ cond b (adds_of e.act) 0 + adds (filter (is_from u) es)
    by true = refl
    by false = omega arith

over-adds : (es : List EdgeWrite) (n : ℕ) → over (λ u. adds (filter (is_from u) es)) 0 n ≤ adds es
over-adds [] n = none 0 n
  where
    none : (a n : ℕ) → over (λ u. adds (filter (is_from u) [])) a n ≤ 0
    none a zero = omega arith
    none a (suc n) = let rest = none (a + 1) n in omega (arith, rest)
over-adds (e ∷ es) n =
    let a = over-same (λ u. adds (filter (is_from u) (e ∷ es))) (λ u. cond (eqb e.source u) (adds_of e.act) 0 + adds (filter (is_from u) es)) (λ u. adds-filter u e es) 0 n in
    let b = over-one e.source (adds_of e.act) (λ u. adds (filter (is_from u) es)) 0 n in
    let rest = over-adds es n in
    omega (arith, a, b, rest)

adds-writes : (writes : List Write) → adds (edge_writes writes) ≡ sum_by edges_added writes
adds-writes [] = refl
adds-writes (Vertices n ∷ writes) = let a = sum_by-cons edges_added (Vertices n) writes in let rest = adds-writes writes in omega (arith, a, rest)
adds-writes (Adds u v w ∷ writes) = let a = sum_by-cons edges_added (Adds u v w) writes in let rest = adds-writes writes in omega (arith, a, rest)
adds-writes (Removes u v ∷ writes) = let a = sum_by-cons edges_added (Removes u v) writes in let rest = adds-writes writes in omega (arith, a, rest)
adds-writes (Weighs u v w ∷ writes) = let a = sum_by-cons edges_added (Weighs u v w) writes in let rest = adds-writes writes in omega (arith, a, rest)

-- the changes add no more edges than the writes do
pub added-counted : (rows : List (List (ℕ × ℕ))) (writes : List Write) (n : ℕ) → sum_by (λ (c : RowChange). length c.added) (changes_below rows (edge_writes writes) n) ≤ sum_by edges_added writes
added-counted rows writes n =
    let es = edge_writes writes in
    let a = sum-over (λ (c : RowChange). length c.added) (change_at rows es) (λ u. adds (filter (is_from u) es)) (λ u. left-few (filter (is_from u) es)) 0 n in
    let b = over-adds es n in
    let c = adds-writes writes in
    omega (arith, a, b, c)

-- the indexes are those of the rows
gone-below : (i n : ℕ) (f : ℕ → Option Fate) (row : List (ℕ × ℕ)) → i + length row ≤ n → AllByRecursion (λ k. k < n) (gone_from i f row)
gone-below i n f [] le = tt
gone-below i n f (p ∷ row) le = by (f p.0) (gone-below (i + 1) n f row (omega (arith, le)))
  where
    by : (x : Option Fate) → AllByRecursion (λ k. k < n) (gone_from (i + 1) f row) → AllByRecursion (λ k. k < n) (gone_here i x ++ gone_from (i + 1) f row)
    by None rest = rest
    by (Some Gone) rest = (omega (arith, le), rest)
    by (Some (Weight w)) rest = rest

set-below : (i n : ℕ) (f : ℕ → Option Fate) (row : List (ℕ × ℕ)) → i + length row ≤ n → AllByRecursion (λ (p : ℕ × ℕ). p.0 < n) (set_from i f row)
set-below i n f [] le = tt
set-below i n f (p ∷ row) le = by (f p.0) (set-below (i + 1) n f row (omega (arith, le)))
  where
    pick : (b : Bool) (w : ℕ) → AllByRecursion (λ (p : ℕ × ℕ). p.0 < n) (set_from (i + 1) f row) → AllByRecursion (λ (p : ℕ × ℕ). p.0 < n) (cond b [] ((i, w) ∷ []) ++ set_from (i + 1) f row)
    pick true w rest = rest
    pick false w rest = (omega (arith, le), rest)

    by : (x : Option Fate) → AllByRecursion (λ (p : ℕ × ℕ). p.0 < n) (set_from (i + 1) f row) → AllByRecursion (λ (p : ℕ × ℕ). p.0 < n) (set_here i p.1 x ++ set_from (i + 1) f row)
    by None rest = rest
    by (Some Gone) rest = rest
    by (Some (Weight w)) rest = pick (eqb w p.1) w rest

indexes-from : (rows : List (List (ℕ × ℕ))) (es : List EdgeWrite) (a n : ℕ) → AllByRecursion (HasIndexes rows) (filter (λ (c : RowChange). not (is_empty_change c)) (map (change_at rows es) (range_with_len a n)))
indexes-from rows es a zero = tt
indexes-from rows es a (suc n) = by (is_empty_change (change_at rows es a)) (indexes-from rows es (a + 1) n)
  where
    rest : List RowChange
    rest = filter (λ (c : RowChange). not (is_empty_change c)) (map (change_at rows es) (range_with_len (a + 1) n))

    f : ℕ → Option Fate
    f = fate_of (filter (is_from a) es)

    by : (b : Bool) → AllByRecursion (HasIndexes rows) rest → AllByRecursion (HasIndexes rows) (cond (not b) (change_at rows es a ∷ rest) rest)
    by true h = h
    by false h = (
      record {
        killed = All-from_recursion (λ k. k < length (row_at rows a)) (gone_from 0 f (row_at rows a)) (gone-below 0 (length (row_at rows a)) f (row_at rows a) (omega arith));
        set = All-from_recursion (λ (p : ℕ × ℕ). p.0 < length (row_at rows a)) (set_from 0 f (row_at rows a)) (set-below 0 (length (row_at rows a)) f (row_at rows a) (omega arith));
      },
      h,
    )

pub indexes-of : (rows : List (List (ℕ × ℕ))) (es : List EdgeWrite) (n : ℕ) → All (HasIndexes rows) (changes_below rows es n)
indexes-of rows es n = All-from_recursion (HasIndexes rows) (changes_below rows es n) (indexes-from rows es 0 n)
