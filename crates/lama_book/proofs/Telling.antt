-- What a snapshot of a journal tells of the graphs before it is so.
use Rattle.std.proofs.Common.{◌≡◌, ◌∙◌, ℕ, ◌+◌, ◌-◌, ◌<◌, ◌≤◌, List, [], ◌∷◌, get_or, map, take, Bool, true, false, cond, leb, refl, sym, ap, arith}
use Rattle.std.specs.Prelude.{fold, max}
use Rattle.std.specs.List.{range_with_len}
use Rattle.std.proofs.lemmas.List.{ext_get_or, get_or-take, length-take}
use Rattle.std.proofs.lemmas.List.FromFn.{length-map-range_with_len, get_or-map-range_with_len}
use Rattle.lama_model.specs.Row.{row, row_at}
use Rattle.lama_model.specs.Change.{row_through}
use Rattle.lama_model.specs.Opening.{Opening, IsOpening, first_number, no_change}
use Rattle.lama_model.specs.Journal.{Standing, standing, newest_of, graph_of, change_of, floor_of}
use Rattle.lama_model.specs.declared.calls.Entry.{Entry}
use Rattle.lama_model.proofs.GraphSteps.{row-everywhere, sound, graph-is, rows-through}
use Rattle.lama_snapshot.specs.History.{row_then}
use Rattle.lama_snapshot.specs.Snap as snap
use Rattle.lama_snapshot.specs.Snap.{Snap}
use Rattle.lama_book.specs.Relation.{IsSnapshotOf}

-- no floor is below the opening's
pub floor-from : (o : Opening) (s : Standing) (j : ℕ) → first_number o ≤ floor_of o s j
floor-from o s j = from (first_number o) s.installed
  where
    from : (f : ℕ) (ks : List ℕ) → f ≤ fold (λ f k. cond (leb k j) (max f k) f) f ks
    from f [] = omega arith
    from f (k ∷ ks) = let rest = from (cond (leb k j) (max f k) f) ks in by (leb k j) rest
      where
        by : (b : Bool) → cond b (max f k) f ≤ fold (λ f k. cond (leb k j) (max f k) f) (cond b (max f k) f) ks → f ≤ fold (λ f k. cond (leb k j) (max f k) f) (cond b (max f k) f) ks
        by true h = omega (arith, h)
        by false h = h

-- its changes up to a number are those that led there
changes-are : (o : Opening) (s : Standing) (k j : ℕ) (x : Snap) → IsSnapshotOf o s k x → floor_of o s k ≤ j → j ≤ k → take (j - floor_of o s k) x.changes ≡ map (change_of o s) (range_with_len (floor_of o s k + 1) (j - floor_of o s k))
changes-are o s k j x of low high =
    let n = j - floor_of o s k in
    let len = of.len in
    let size = length-take n x.changes in
    let many = length-map-range_with_len (change_of o s) (floor_of o s k + 1) n in
    ext_get_or no_change (take n x.changes) (map (change_of o s) (range_with_len (floor_of o s k + 1) n)) (omega (arith, size, many, len, low, high)) (λ i lt.
    let below : i < n = omega (arith, lt, size) in
    let root = of.floor in
    get_or-take n x.changes i no_change below
    ∙ (ap (λ m. get_or x.changes m no_change) (let e : i ≡ floor_of o s k + 1 + i - snap.floor_of x - 1 = omega (arith, root) in e)
    ∙ (of.changes (floor_of o s k + 1 + i) (omega arith) (omega (arith, below, low, high))
    ∙ sym (get_or-map-range_with_len (change_of o s) (floor_of o s k + 1) n i (floor_of o s k + 1 + i) no_change below refl))))

-- each row of a graph from its floor to its own number
pub told-before : (o : Opening) (journal : List Entry) (k j v : ℕ) (x : Snap) → IsOpening o → IsSnapshotOf o (standing o journal) k x → k ≤ newest_of o (standing o journal) → snap.floor_of x ≤ j → j ≤ k →
    row_then (snap.floor_of x) x.base.rows x.changes j v ≡ row (graph_of o (standing o journal) j) v
told-before o journal k j v x is of within low high =
    let s = standing o journal in
    let f = floor_of o s k in
    let root = of.floor in
    let len = of.len in
    ap (λ i. row_through (take (j - i) x.changes) v (row_at x.base.rows v)) root
    ∙ (ap (λ cs. row_through cs v (row_at x.base.rows v)) (changes-are o s k j x of (omega (arith, low, root)) high)
    ∙ (ap (row_through (map (change_of o s) (range_with_len (f + 1) (j - f))) v) (row-everywhere x.base.rows (graph_of o s f) v of.base (graph-is o s f is (sound o is journal) (omega (arith, len, within))))
    ∙ (rows-through o journal f (j - f) v is (floor-from o s k) (omega (arith, low, root, high, within))
    ∙ ap (λ i. row (graph_of o s i) v) (let e : f + (j - f) ≡ j = omega (arith, low, root) in e))))
