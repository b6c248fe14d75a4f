-- A row is found again where rows lie one after another.
use Rattle.std.proofs.Common.{◌≡◌, ◌∙◌, ℕ, ◌+◌, ◌-◌, ◌<◌, ◌≤◌, List, [], ◌++◌, length, get_or, map, take, drop, sym, ap, arith}
use Rattle.std.specs.List.{between, flat_map, range_with_len, sum_by}
use Rattle.std.proofs.Math.Seq.{take-append_seam, drop-append_seam}
use Rattle.std.proofs.lemmas.List.{ext_get_or, length-map, take-append-drop, drop_more}
use Rattle.std.proofs.lemmas.List.Concat.{flat_map-cons, length-flat_map}
use Rattle.std.proofs.lemmas.List.Sums.{sum_by_more, sum_by-take-le}
use Rattle.std.proofs.lemmas.List.Folds.{flat_map-map}
use Rattle.std.proofs.lemmas.List.FromFn.{get_or-map-range_with_len, length-map-range_with_len}
use Rattle.std.proofs.lemmas.Grind.{flat_map-append}
use Rattle.lama_model.specs.Row.{row_at, edges_in}
use Rattle.lama_bfs.specs.Flat.{edges_below, firsts, IsFlat}
use Rattle.lama_bfs.specs.Frontier.{targets_of}

-- the next row starts where this one ends
pub below-more : (rows : List (List (ℕ × ℕ))) (u : ℕ) → u < length rows → edges_below rows (u + 1) ≡ edges_below rows u + length (row_at rows u)
below-more rows u lt = sum_by_more (λ (r : List (ℕ × ℕ)). length r) rows u [] lt

pub below-le : (rows : List (List (ℕ × ℕ))) (u : ℕ) → edges_below rows u ≤ edges_in rows
below-le rows u = sum_by-take-le (λ (r : List (ℕ × ℕ)). length r) rows u

pub firsts-length : (rows : List (List (ℕ × ℕ))) → length (flat_map firsts rows) ≡ edges_in rows
firsts-length rows = length-flat_map firsts rows ∙ (λ j. sum_by (λ (r : List (ℕ × ℕ)). length-map r (λ (p : ℕ × ℕ). p.0) j) rows)

pub row-between : (rows : List (List (ℕ × ℕ))) (u : ℕ) → u < length rows → between (edges_below rows u) (edges_below rows (u + 1)) (flat_map firsts rows) ≡ firsts (row_at rows u)
row-between rows u lt =
    let a = edges_below rows u in
    let r = row_at rows u in
    let before = flat_map firsts (take u rows) in
    let after = flat_map firsts (drop (u + 1) rows) in
    let size : edges_below rows (u + 1) - a ≡ length (firsts r) = let more = below-more rows u lt in let n = length-map r (λ (p : ℕ × ℕ). p.0) in omega (arith, more, n) in
    let whole : flat_map firsts rows ≡ before ++ (firsts r ++ after) =
    ap (flat_map firsts) (sym (take-append-drop u rows))
    ∙ (flat_map-append firsts (take u rows) (drop u rows)
    ∙ ap (λ l. before ++ l) (ap (flat_map firsts) (drop_more rows u [] lt) ∙ flat_map-cons firsts r (drop (u + 1) rows))) in
    let rest : drop a (flat_map firsts rows) ≡ firsts r ++ after =
    ap (drop a) whole ∙ (ap (λ k. drop k (before ++ (firsts r ++ after))) (sym (firsts-length (take u rows))) ∙ drop-append_seam before (firsts r ++ after)) in
    (λ j. take (size j) (rest j)) ∙ take-append_seam (firsts r) after

-- the place that is read for a vertex
pub start-is : (rows : List (List (ℕ × ℕ))) (starts targets : List ℕ) → IsFlat rows starts targets → (u d : ℕ) → u < length rows + 1 → get_or starts u d ≡ edges_below rows u
start-is rows starts targets flat u d lt = ap (λ l. get_or l u d) flat.starts_are ∙ get_or-map-range_with_len (edges_below rows) 0 (length rows + 1) u u d lt (omega arith)

-- the targets of all vertices, one after another, are those of all rows
pub all-targets : (rows : List (List (ℕ × ℕ))) → targets_of rows (range_with_len 0 (length rows)) ≡ flat_map firsts rows
all-targets rows = sym (flat_map-map firsts (row_at rows) (range_with_len 0 (length rows))) ∙ ap (flat_map firsts) same
  where
    same : map (row_at rows) (range_with_len 0 (length rows)) ≡ rows
    same = ext_get_or [] (map (row_at rows) (range_with_len 0 (length rows))) rows (length-map-range_with_len (row_at rows) 0 (length rows))
        (λ u lt. let n = length-map-range_with_len (row_at rows) 0 (length rows) in get_or-map-range_with_len (row_at rows) 0 (length rows) u u [] (omega (arith, lt, n)) (omega arith))
