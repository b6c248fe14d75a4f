-- The changes above a newer floor, and what stands before a snapshot.
use Rattle.std.proofs.Common.{◌≡◌, ◌∙◌, ℕ, ◌+◌, ◌-◌, ◌<◌, ◌≤◌, List, [], ◌∷◌, ◌++◌, length, get_or, map, drop, refl, sym, ap, subst, arith, inl, inr, ◌⊎◌}
use Rattle.std.specs.List.{range_with_len}
use Rattle.std.proofs.lemmas.Bool.{cases_lt}
use Rattle.std.proofs.lemmas.List.{map-append, get_or_append_left, get_or_push, ext_get_or, length-map, get_or-map, length-drop, get_or-drop}
use Rattle.std.proofs.lemmas.List.FromFn.{length-map-range_with_len, get_or-map-range_with_len, map-range_with_len_more}
use Rattle.lama_model.specs.Row.{row_at}
use Rattle.lama_model.specs.Change.{Change, row_after}
use Rattle.lama_model.specs.Opening.{no_change}
use Rattle.lama_model.specs.Fits.{Fits}
use Rattle.lama_snapshot.specs.BaseRows.{Numbered}
use Rattle.lama_snapshot.specs.Snap.{Snap, no_snap, floor_of, change_at}
use Rattle.lama_merge.specs.Rebase.{snap_of, Holds, Follows, AreConsecutive, IsAmong, IsRebased, IsThere, IsReady}

-- the changes from a later number on
drop-changes : (changes : ℕ → Change) (a d n : ℕ) → drop d (map changes (range_with_len a n)) ≡ map changes (range_with_len (a + d) (n - d))
drop-changes changes a d n =
    let size = length-drop d (map changes (range_with_len a n)) in
    let all = length-map-range_with_len changes a n in
    let left = length-map-range_with_len changes (a + d) (n - d) in
    ext_get_or no_change (drop d (map changes (range_with_len a n))) (map changes (range_with_len (a + d) (n - d))) (omega (arith, size, all, left)) (λ i lt.
    get_or-drop d (map changes (range_with_len a n)) i no_change
    ∙ (get_or-map-range_with_len changes a n (d + i) (a + d + i) no_change (omega (arith, lt, size, all)) (omega arith)
    ∙ sym (get_or-map-range_with_len changes (a + d) (n - d) i (a + d + i) no_change (omega (arith, lt, size, all)) refl)))

-- those that a snapshot holds above a newer floor
pub held-above : (changes : ℕ → Change) (s : Snap) (k : ℕ) → Holds changes s → floor_of s ≤ k → k ≤ s.number → drop (k - floor_of s) s.changes ≡ map changes (range_with_len (k + 1) (s.number - k))
held-above changes s k held low high =
    ap (drop (k - floor_of s)) held
    ∙ (drop-changes changes (floor_of s + 1) (k - floor_of s) (s.number - floor_of s)
    ∙ (λ j. map changes (range_with_len ((let e : floor_of s + 1 + (k - floor_of s) ≡ k + 1 = omega (arith, low) in e) j) ((let e : s.number - floor_of s - (k - floor_of s) ≡ s.number - k = omega (arith, low, high) in e) j))))

-- its own change is the last of them
pub own-change : (changes : ℕ → Change) (s : Snap) → Holds changes s → floor_of s < s.number → change_at s s.number ≡ changes s.number
own-change changes s held lt =
    ap (λ cs. get_or cs (s.number - floor_of s - 1) no_change) held
    ∙ get_or-map-range_with_len changes (floor_of s + 1) (s.number - floor_of s) (s.number - floor_of s - 1) s.number no_change (omega (arith, lt)) (omega (arith, lt))

-- a later one is the one before it with its own change done
pub is-after : (changes : ℕ → Change) (m : Numbered) (before : List Snap) (old new : Snap) (c : Change) → IsReady changes m before old → m.number < old.number → floor_of old < m.number → c ≡ changes old.number →
    new.number ≡ c.number → length new.rows ≡ c.count → ((v : ℕ) → v < c.count → row_at new.rows v ≡ row_after c.rows v (row_at (snap_of before (length before - 1)).rows v)) →
    new.base ≡ (snap_of before (length before - 1)).base → new.changes ≡ (snap_of before (length before - 1)).changes ++ c ∷ [] → IsRebased m old new
is-after changes m before old new c ready later above is number count rows base held =
    let there = ready.later later above in
    let last = snap_of before (length before - 1) in
    let next = there.number in
    let from = there.step in
    let size = count ∙ ap (λ (x : Change). x.count) is in
    let many = from.count in
    let numbered = from.fits.next in
    let named = ap (λ (x : Change). x.number) is in
    let floor : floor_of new ≡ m.number = ap (λ (b : Numbered). b.number) (base ∙ there.base) in
    let last_floor : floor_of last ≡ m.number = ap (λ (b : Numbered). b.number) there.base in
    record {
      number = omega (arith, number, named, numbered, next);
      rows = ext_get_or [] new.rows old.rows (size ∙ sym many) (λ v lt. let here : v < c.count = omega (arith, lt, count) in let named_count = ap (λ (x : Change). x.count) is in
          rows v here ∙ (ap (λ (x : Change). row_after x.rows v (row_at last.rows v)) is ∙ sym (from.rows v (omega (arith, here, named_count)))));
      onto = λ low high. base ∙ there.base;
      stays = λ out. elim out [ inl lt ↦ absurd (omega (arith, lt, later)) | inr le ↦ absurd (omega (arith, le, above)) ];
      changes = held
          ∙ (ap (λ cs. cs ++ c ∷ []) there.held
          ∙ ((λ j. map changes (range_with_len (last_floor j + 1) (last.number - last_floor j)) ++ is j ∷ [])
          ∙ (sym (map-range_with_len_more changes (m.number + 1) (last.number - m.number) old.number (omega (arith, next, later)))
          ∙ (ap (λ n. map changes (range_with_len (m.number + 1) n)) (let e : last.number - m.number + 1 ≡ old.number - m.number = omega (arith, next, later) in e)
          ∙ (sym (held-above changes old m.number ready.held (omega (arith, above)) (omega (arith, later))) ∙ ap (λ k. drop (k - floor_of old) old.changes) (sym floor))))));
    }

-- the last of the snapshots, as it is read
pub read-last : {A : Type 0} (value : A → Snap) (items : List A) (a : A) (x : Snap) → a ≡ get_or items (length items - 1) a → 0 < length (map value items) → x ≡ value a → x ≡ snap_of (map value items) (length (map value items) - 1)
read-last value items a x at some reads =
    let size = length-map items value in
    reads ∙ (ap value at ∙ (sym (get_or-map value items (length items - 1) a no_snap (omega (arith, size, some))) ∙ ap (λ n. get_or (map value items) (n - 1) no_snap) (sym size)))

-- each snapshot can be put onto the merged base where those before it were
pub ready-at : (changes : ℕ → Change) (m : Numbered) (kept before : List Snap) (i : ℕ) → AreConsecutive changes kept → IsAmong m kept → i < length kept → length before ≡ i → ((j : ℕ) → j < i → IsRebased m (snap_of kept j) (snap_of before j)) → IsReady changes m before (snap_of kept i)
ready-at changes m kept before i h among lt len each = record {
  held = h.held i lt;
  merged = λ same. let n = h.numbers i lt in among.rows ∙ ap (λ k. (snap_of kept k).rows) (let e : m.number - (snap_of kept 0).number ≡ i = omega (arith, same, n) in e);
  later = λ low above. let n = h.numbers i lt in let first = among.first in subst (λ k. IsThere changes m before (snap_of kept k)) (let e : i - 1 + 1 ≡ i = omega (arith, n, first, low) in e) (there low above (omega (arith, n, first, low)));
}
  where
    there : m.number < (snap_of kept i).number → floor_of (snap_of kept i) < m.number → 0 < i → IsThere changes m before (snap_of kept (i - 1 + 1))
    there low above some =
        let p = i - 1 in
        let up : p + 1 ≡ i = omega (arith, some) in
        let old = snap_of kept p in
        let r = each p (omega (arith, some)) in
        let n = h.numbers i lt in
        let n' = h.numbers p (omega (arith, some, lt)) in
        let floors = h.floors p (omega (arith, some, lt)) in
        let this = ap (λ k. floor_of (snap_of kept k)) up in
        let named = ap (λ k. (snap_of kept k).number) up in
        let is_old = r.number in
        let base : (snap_of before p).base ≡ m = r.onto (omega (arith, low, n, n', some)) (omega (arith, floors, this, above)) in
        let floor : floor_of (snap_of before p) ≡ m.number = ap (λ (b : Numbered). b.number) base in
        let held : Holds changes (snap_of before p) =
        r.changes
        ∙ (ap (λ k. drop (k - floor_of old) old.changes) floor
        ∙ (held-above changes old m.number (h.held p (omega (arith, some, lt))) (omega (arith, floors, this, above)) (omega (arith, low, n, n', some))
        ∙ (λ j. map changes (range_with_len (sym floor j + 1) (sym is_old j - sym floor j))))) in
        let step : Follows changes old (snap_of kept (p + 1)) = h.steps p (omega (arith, some, lt)) (omega (arith, this, named, above, low)) in
        let place : p ≡ length before - 1 = omega (arith, len) in
        let there' : (snap_of before p).number + 1 ≡ (snap_of kept (p + 1)).number = omega (arith, is_old, n, n', named, some) in
        let follows : Follows changes (snap_of before p) (snap_of kept (p + 1)) = record {
          fits = subst (λ k. Fits k (snap_of before p).rows (changes (snap_of kept (p + 1)).number)) (sym is_old) (subst (λ rs. Fits old.number rs (changes (snap_of kept (p + 1)).number)) (sym r.rows) step.fits);
          count = step.count;
          rows = λ v below. step.rows v below ∙ ap (λ rs. row_after (changes (snap_of kept (p + 1)).number).rows v (row_at rs v)) (sym r.rows);
        } in
        record {
          some = omega (arith, len, some);
          number = ap (λ k. (snap_of before k).number + 1) (sym place) ∙ there';
          base = ap (λ k. (snap_of before k).base) (sym place) ∙ base;
          held = subst (λ k. Holds changes (snap_of before k)) place held;
          step = subst (λ k. Follows changes (snap_of before k) (snap_of kept (p + 1))) place follows;
        }

-- a snapshot as it is read
pub read-at : {A : Type 0} (value : A → Snap) (items : List A) (i : ℕ) (a : A) → a ≡ get_or items i a → i < length items → value a ≡ snap_of (map value items) i
read-at value items i a at lt = ap value at ∙ sym (get_or-map value items i a no_snap lt)

-- one more is put onto the merged base
pub each-push : {A : Type 0} (value : A → Snap) (m : Numbered) (kept : List Snap) (all all' : List A) (x : A) (i : ℕ) → all' ≡ all ++ x ∷ [] → length all ≡ i → ((j : ℕ) → j < i → IsRebased m (snap_of kept j) (snap_of (map value all) j)) →
    IsRebased m (snap_of kept i) (value x) → (j : ℕ) → j < i + 1 → IsRebased m (snap_of kept j) (snap_of (map value all') j)
each-push value m kept all all' x i is len each here j lt = subst (λ ss. IsRebased m (snap_of kept j) (snap_of ss j)) (sym (ap (map value) is ∙ map-append value all (x ∷ []))) (by (cases_lt j i))
  where
    by : (j < i) ⊎ (i ≤ j) → IsRebased m (snap_of kept j) (snap_of (map value all ++ value x ∷ []) j)
    by (inl below) = (let size = length-map all value in
        subst (IsRebased m (snap_of kept j)) (sym (get_or_append_left (map value all) (value x ∷ []) no_snap j (omega (arith, below, size, len)))) (each j below))
    by (inr past) = (let size = length-map all value in let this : i ≡ j = omega (arith, past, lt) in
        subst (IsRebased m (snap_of kept j)) (sym (get_or_push (map value all) (value x) no_snap j (omega (arith, this, size, len)))) (subst (λ k. IsRebased m (snap_of kept k) (value x)) this here))
