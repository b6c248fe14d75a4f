-- The snapshot that a base is.
use Rattle.std.proofs.Common.{◌≡◌, ◌∙◌, ℕ, zero, suc, ◌+◌, ◌<◌, ◌≤◌, List, [], ◌∷◌, ◌++◌, length, get_or, take, drop, replicate, refl, sym, ap, subst, arith}
use Rattle.std.specs.Prelude.{sum_by}
use Rattle.std.proofs.lemmas.List.{append-nil, same_lists, get_or_default, length-replicate, take-append-drop, drop_more}
use Rattle.std.proofs.lemmas.List.Sums.{sum_by-cons}
use Rattle.lama_edges.specs.declared.records.VertexRec.{VertexRec}
use Rattle.lama_model.specs.Row.{row_at, edges_in, AreTargetsBelow}
use Rattle.lama_snapshot.specs.Fragments.{fragment_weights}
use Rattle.lama_snapshot.specs.BaseRows.{Numbered, base_records, base_slots, base_weights}
use Rattle.lama_snapshot.specs.Cells.{Columns, mark_at, visible}
use Rattle.lama_snapshot.specs.Chains.{table_at, base_places, IsRecord, rows_from, cells_of, AreColumns}
use Rattle.lama_snapshot.specs.Snap.{no_record, layout_of, IsSnap}
use Rattle.lama_snapshot.proofs.RowFrom.{length-base_slots, flat_map-append, base-record, length-base_records, base_records-at, length-base_weights}
use Rattle.lama_snapshot.proofs.CellsFrom.{length-base_sources, owned-base, apart-base}
use Rattle.lama_snapshot.proofs.ChainLemmas.{length-rows_from, cells_of-at, row-visible}
use Rattle.lama_snapshot.proofs.Surviving.{fresh}

-- marks of which all are 0
pub zeros : (n k : ℕ) → (let none : ℕ = 0 in get_or (replicate n none) k none ≡ none)
zeros zero k = refl
zeros (suc n) zero = refl
zeros (suc n) (suc k) = zeros n k

-- a row of the base is read as it is
base-visible : (rows : List (List (ℕ × ℕ))) (cols : Columns) (v : ℕ) → v < length rows → get_or cols.weights 0 [] ≡ base_weights rows → ((k : ℕ) → mark_at cols (record { table = 0; place = k }) ≡ 0) → visible cols (base_places rows v) ≡ row_at rows v
base-visible rows cols v lt weights stand =
    let r = row_at rows v in
    let split : rows ≡ take v rows ++ r ∷ drop (v + 1) rows = sym (take-append-drop v rows) ∙ ap (λ xs. take v rows ++ xs) (drop_more rows v [] lt) in
    let is : base_weights rows ≡ base_weights (take v rows) ++ (fragment_weights r ++ base_weights (drop (v + 1) rows)) = ap base_weights split ∙ flat_map-append fragment_weights (take v rows) (r ∷ drop (v + 1) rows) in
    ap (visible cols) (sym (append-nil (base_places rows v)))
    ∙ (fresh cols 0 (length (base_slots (take v rows))) r (base_weights (take v rows)) (base_weights (drop (v + 1) rows)) (length-base_weights (take v rows)) (weights ∙ is) stand [] ∙ append-nil r)

-- the degrees of a base's records are its edges
sum-degrees : (n o : ℕ) (rows : List (List (ℕ × ℕ))) → sum_by (λ (r : VertexRec). r.degree) (base_records n o rows) ≡ edges_in rows
sum-degrees n o [] = refl
sum-degrees n o (r ∷ rows) =
    let a = sum_by-cons (λ (r : VertexRec). r.degree) (record { level = n; offset = o; len = length r; degree = length r }) (base_records n (o + length r + 1) rows) in
    let b = sum_by-cons (λ (r : List (ℕ × ℕ)). length r) r rows in
    let c = sum-degrees n (o + length r + 1) rows in
    omega (arith, a, b, c)

level-of : (n o : ℕ) (rows : List (List (ℕ × ℕ))) (v : ℕ) → v < length rows → (get_or (base_records n o rows) v no_record).level ≡ n
level-of n o rows v lt = ap (λ (r : VertexRec). r.level) (base_records-at n o rows v no_record lt)

-- the columns of a base
abbrev pub base_columns : List (List (ℕ × ℕ)) → Columns
base_columns rows = record { marks = replicate (length (base_slots rows)) 0 ∷ []; weights = base_weights rows ∷ [] }

are-columns : (b : Numbered) → AreColumns (layout_of b []) (base_columns b.rows)
are-columns b = record {
  marks = refl;
  weights = refl;
  marks_each = marks;
  weights_each = weights;
}
  where
    marks : (r : ℕ) → length (get_or (base_columns b.rows).marks r []) ≡ length (table_at (layout_of b []) r).sources
    marks zero = length-replicate (length (base_slots b.rows)) 0 ∙ sym (length-base_sources 0 b.rows)
    marks (suc r) = refl

    weights : (r : ℕ) → length (get_or (base_columns b.rows).weights r []) ≡ length (table_at (layout_of b []) r).sources
    weights zero = length-base_weights b.rows ∙ sym (length-base_sources 0 b.rows)
    weights (suc r) = refl

pub base-snap : (b : Numbered) (records : List VertexRec) → records ≡ base_records b.number 0 b.rows → edges_in b.rows ≤ 33554432 → length b.rows ≤ 4194304 → AreTargetsBelow (length b.rows) b.rows → b.number ≤ 100000000 →
    (rows_from (layout_of b []) (base_columns b.rows) records ≡ b.rows) × IsSnap b.number (edges_in b.rows) records b [] (base_columns b.rows)
base-snap b records is few vertices targets number =
    let n : length records ≡ length b.rows = ap length is ∙ length-base_records b.number 0 b.rows in
    let l = layout_of b [] in
    let cols = base_columns b.rows in
    let seen : (v : ℕ) → v < length b.rows → visible cols (base_places b.rows v) ≡ row_at b.rows v = λ v lt. base-visible b.rows cols v lt refl (zeros (length (base_slots b.rows))) in
    let ok : (v : ℕ) → v < length records → IsRecord l cols v (get_or records v no_record) = λ v lt.
    let lt' : v < length b.rows = omega (arith, n, lt) in
    let r = base-record b.number v records b.rows (get_or records v no_record) is lt' (get_or_default records v no_record (get_or records v no_record) lt) in
    let lev : (get_or records v no_record).level ≡ b.number = ap (λ rs. (get_or rs v no_record).level) is ∙ level-of b.number 0 b.rows v lt' in
    record { level = omega (arith, lev); row = base_places b.rows v; leads = refl; degree = r.2 ∙ sym (ap length (seen v lt')); own = owned-base l v; apart = apart-base 0 (length (base_slots (take v b.rows))) (row_at b.rows v) } in
    let rows : rows_from l cols records ≡ b.rows = same_lists (rows_from l cols records) b.rows (length-rows_from l cols records ∙ n) (λ k d lt.
    let m = length-rows_from l cols records in
    let lt' : k < length records = omega (arith, m, lt) in
    get_or_default (rows_from l cols records) k d [] lt ∙ (row-visible cols (cells_of l records) k ∙ (ap (visible cols) (cells_of-at l records k lt') ∙ (seen k (omega (arith, lt', n)) ∙ get_or_default b.rows k [] d (omega (arith, lt', n)))))) in (
      rows,
      record {
        number_is = omega arith;
        number = number;
        vertices = omega (arith, n, vertices);
        records_ok = ok;
        tables = λ k d lt. absurd (omega arith);
        columns = are-columns b;
        edges = sym (ap (sum_by (λ (r : VertexRec). r.degree)) is ∙ sum-degrees b.number 0 b.rows);
        few = few;
        targets = subst (λ rs. AreTargetsBelow (length records) rs) (sym rows) (subst (λ k. AreTargetsBelow k b.rows) (sym n) targets);
        base_rows = omega (arith, n);
        base_slots = (let s = length-base_slots b.rows in omega (arith, s, few, vertices));
      },
    )
