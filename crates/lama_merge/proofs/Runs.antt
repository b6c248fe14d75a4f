-- Snapshots of one run: one of them, one more, the last of them, and all of them on a merged base.
use Rattle.std.proofs.Common.{◌≡◌, ◌∙◌, ℕ, zero, suc, ◌+◌, ◌-◌, ◌<◌, ◌≤◌, List, [], ◌∷◌, ◌++◌, length, get_or, map, drop, refl, sym, ap, subst, arith, inl, inr, ◌⊎◌, true, false, cond, eqb}
use Rattle.std.specs.List.{range_with_len}
use Rattle.std.proofs.lemmas.Bool.{cases_lt}
use Rattle.std.proofs.lemmas.Bool.Decides.{nat_tests}
use Rattle.std.proofs.lemmas.List.{ext_get_or, length_push, length-drop, get_or-drop, get_or_append_left, get_or_push}
use Rattle.std.proofs.lemmas.List.FromFn.{length-map-range_with_len, get_or-map-range_with_len, map-range_with_len_more}
use Rattle.lama_model.specs.Row.{row_at}
use Rattle.lama_model.specs.Change.{Change, row_after}
use Rattle.lama_model.specs.Fits.{Fits}
use Rattle.lama_model.specs.Opening.{no_change}
use Rattle.lama_snapshot.specs.BaseRows.{Numbered}
use Rattle.lama_snapshot.specs.Snap.{Snap, no_snap, floor_of, change_at}
use Rattle.lama_merge.specs.Rebase.{snap_of, Holds, Follows, AreConsecutive, AreOneRun, IsRebased}
use Rattle.lama_merge.proofs.Moving.{held-above}

-- one snapshot
pub single : (x : Snap) → length x.changes + floor_of x ≡ x.number → AreOneRun (x ∷ [])
single x size = (change_at x, record { numbers = numbers; within = within; floors = λ i lt. absurd (omega (arith, lt)); held = held; steps = λ i lt. absurd (omega (arith, lt)) })
  where
    numbers : (i : ℕ) → i < 1 → (snap_of (x ∷ []) i).number ≡ x.number + i
    numbers zero lt = omega arith
    numbers (suc i) lt = absurd (omega (arith, lt))

    within : (i : ℕ) → i < 1 → floor_of (snap_of (x ∷ []) i) ≤ (snap_of (x ∷ []) i).number
    within zero lt = omega (arith, size)
    within (suc i) lt = absurd (omega (arith, lt))

    held : (i : ℕ) → i < 1 → Holds (change_at x) (snap_of (x ∷ []) i)
    held (suc i) lt = absurd (omega (arith, lt))
    held zero lt =
        let many = length-map-range_with_len (change_at x) (floor_of x + 1) (x.number - floor_of x) in
        ext_get_or no_change x.changes (map (change_at x) (range_with_len (floor_of x + 1) (x.number - floor_of x))) (omega (arith, many, size)) (λ i below.
        ap (λ k. get_or x.changes k no_change) (let e : i ≡ floor_of x + 1 + i - floor_of x - 1 = omega arith in e)
        ∙ sym (get_or-map-range_with_len (change_at x) (floor_of x + 1) (x.number - floor_of x) i (floor_of x + 1 + i) no_change (omega (arith, below, size)) refl))

-- the same changes of these numbers, by two names
same-range : (f g : ℕ → Change) (a m : ℕ) → ((n : ℕ) → n < a + m → f n ≡ g n) → map f (range_with_len a m) ≡ map g (range_with_len a m)
same-range f g a zero same = refl
same-range f g a (suc m) same = (λ j. same a (omega arith) j ∷ same-range f g (a + 1) m (λ n lt. same n (omega (arith, lt))) j)

-- a snapshot follows another by what they are
follow-same : (changes : ℕ → Change) (a a' b b' : Snap) → a'.number ≡ a.number → a'.rows ≡ a.rows → b'.number ≡ b.number → b'.rows ≡ b.rows → Follows changes a b → Follows changes a' b'
follow-same changes a a' b b' n r n' r' h =
    let P : ℕ × List (List (ℕ × ℕ)) × ℕ × List (List (ℕ × ℕ)) → Type 0 = λ p.
    Fits p.0 p.1 (changes p.2) × (length p.3 ≡ (changes p.2).count) × ((v : ℕ) → v < (changes p.2).count → row_at p.3 v ≡ row_after (changes p.2).rows v (row_at p.1 v)) in
    let all = subst P (λ j. (sym n j, sym r j, sym n' j, sym r' j)) (h.fits, h.count, h.rows) in
    record { fits = all.0; count = all.1; rows = all.2 }

follow-change : (changes changes' : ℕ → Change) (a b : Snap) → changes' b.number ≡ changes b.number → Follows changes a b → Follows changes' a b
follow-change changes changes' a b is h =
    let P : Change → Type 0 = λ c. Fits a.number a.rows c × (length b.rows ≡ c.count) × ((v : ℕ) → v < c.count → row_at b.rows v ≡ row_after c.rows v (row_at a.rows v)) in
    let all = subst P (sym is) (h.fits, h.count, h.rows) in
    record { fits = all.0; count = all.1; rows = all.2 }

-- one more, made of the last by a change
pub longer : (kept : List Snap) (s : Snap) (c : Change) → 0 < length kept → AreOneRun kept → (let last = snap_of kept (length kept - 1) in
    s.number ≡ last.number + 1 → s.base ≡ last.base → s.changes ≡ last.changes ++ c ∷ [] → Fits last.number last.rows c → length s.rows ≡ c.count → ((v : ℕ) → v < c.count → row_at s.rows v ≡ row_after c.rows v (row_at last.rows v)) →
    AreOneRun (kept ++ s ∷ []))
longer kept s c some run number base held fits count rows = (
  changes',
  record {
    numbers = λ i lt. numbers i (short i lt) (cases_lt i (length kept));
    within = λ i lt. within i (short i lt) (cases_lt i (length kept));
    floors = λ i lt. floors i (short (i + 1) lt) (cases_lt (i + 1) (length kept));
    held = λ i lt. holds i (short i lt) (cases_lt i (length kept));
    steps = λ i lt above. steps i (short (i + 1) lt) (cases_lt (i + 1) (length kept)) above;
  },
)
  where
    n : ℕ
    n = length kept

    last : Snap
    last = snap_of kept (length kept - 1)

    all : List Snap
    all = kept ++ s ∷ []

    changes : ℕ → Change
    changes = run.0

    h : AreConsecutive run.0 kept
    h = run.1

    changes' : ℕ → Change
    changes' = λ k. cond (eqb k s.number) c (run.0 k)

    short : (i : ℕ) → i < length (kept ++ s ∷ []) → i ≤ length kept
    short i lt = let more = length_push kept s in omega (arith, lt, more)

    at : (i : ℕ) → i < length kept → snap_of (kept ++ s ∷ []) i ≡ snap_of kept i
    at i lt = get_or_append_left kept (s ∷ []) no_snap i lt

    end : (i : ℕ) → i ≡ length kept → snap_of (kept ++ s ∷ []) i ≡ s
    end i is = get_or_push kept s no_snap i (sym is)

    below : (i : ℕ) → i < length kept → (snap_of kept i).number < s.number
    below i lt = let a = h.numbers i lt in let b = h.numbers (length kept - 1) (omega (arith, some)) in omega (arith, a, b, number, lt)

    same : (k : ℕ) → k < s.number → run.0 k ≡ changes' k
    same k lt = let other : eqb k s.number ≡ false = grind (arith, nat_tests, lt) in sym (ap (λ b. cond b c (run.0 k)) other)

    own : changes' s.number ≡ c
    own = let here : eqb s.number s.number ≡ true = grind (arith, nat_tests) in ap (λ b. cond b c (run.0 s.number)) here

    floor : floor_of s ≡ floor_of last
    floor = ap (λ (b : Numbered). b.number) base

    numbers : (i : ℕ) → i ≤ length kept → (i < length kept) ⊎ (length kept ≤ i) → (snap_of (kept ++ s ∷ []) i).number ≡ (snap_of (kept ++ s ∷ []) 0).number + i
    numbers i le (inl lt) = ap (λ (x : Snap). x.number) (at i lt) ∙ (h.numbers i lt ∙ ap (λ (x : Snap). x.number + i) (sym (at 0 some)))
    numbers i le (inr ge) =
        let this : i ≡ length kept = omega (arith, le, ge) in
        let b = h.numbers (length kept - 1) (omega (arith, some)) in
        let first = ap (λ (x : Snap). x.number) (at 0 some) in
        let now = ap (λ (x : Snap). x.number) (end i this) in
        omega (arith, b, first, now, number, this, some)

    within : (i : ℕ) → i ≤ length kept → (i < length kept) ⊎ (length kept ≤ i) → floor_of (snap_of (kept ++ s ∷ []) i) ≤ (snap_of (kept ++ s ∷ []) i).number
    within i le (inl lt) = subst (λ (x : Snap). floor_of x ≤ x.number) (sym (at i lt)) (h.within i lt)
    within i le (inr ge) = subst (λ (x : Snap). floor_of x ≤ x.number) (sym (end i (omega (arith, le, ge)))) (let w = h.within (length kept - 1) (omega (arith, some)) in omega (arith, w, floor, number))

    floors : (i : ℕ) → i + 1 ≤ length kept → (i + 1 < length kept) ⊎ (length kept ≤ i + 1) → floor_of (snap_of (kept ++ s ∷ []) i) ≤ floor_of (snap_of (kept ++ s ∷ []) (i + 1))
    floors i le (inl lt) =
        let a = ap floor_of (at i (omega (arith, lt))) in let b = ap floor_of (at (i + 1) lt) in
        let f = h.floors i lt in
        omega (arith, a, b, f)
    floors i le (inr ge) =
        let a = ap floor_of (at i (omega (arith, le))) in let b = ap floor_of (end (i + 1) (omega (arith, le, ge))) in
        let place = ap (λ k. floor_of (snap_of kept k)) (let e : i ≡ length kept - 1 = omega (arith, le, ge) in e) in
        omega (arith, a, b, place, floor)

    holds : (i : ℕ) → i ≤ length kept → (i < length kept) ⊎ (length kept ≤ i) → Holds changes' (snap_of (kept ++ s ∷ []) i)
    holds i le (inl lt) =
        let x = snap_of kept i in
        let w = h.within i lt in
        let b = below i lt in
        subst (Holds changes') (sym (at i lt)) (h.held i lt ∙ same-range run.0 changes' (floor_of x + 1) (x.number - floor_of x) (λ k l. same k (omega (arith, l, w, b))))
    holds i le (inr ge) =
        let w = h.within (length kept - 1) (omega (arith, some)) in
        subst (Holds changes') (sym (end i (omega (arith, le, ge)))) (
        held
        ∙ (ap (λ cs. cs ++ c ∷ []) (h.held (length kept - 1) (omega (arith, some)) ∙ same-range run.0 changes' (floor_of last + 1) (last.number - floor_of last) (λ k l. same k (omega (arith, l, w, number))))
        ∙ (ap (λ x. map changes' (range_with_len (floor_of last + 1) (last.number - floor_of last)) ++ x ∷ []) (sym own)
        ∙ (sym (map-range_with_len_more changes' (floor_of last + 1) (last.number - floor_of last) s.number (omega (arith, w, number)))
        ∙ (λ j. map changes' (range_with_len (sym floor j + 1) ((let e : last.number - floor_of last + 1 ≡ s.number - floor_of s = omega (arith, w, number, floor) in e) j)))))))

    steps : (i : ℕ) → i + 1 ≤ length kept → (i + 1 < length kept) ⊎ (length kept ≤ i + 1) → floor_of (snap_of (kept ++ s ∷ []) (i + 1)) < (snap_of (kept ++ s ∷ []) (i + 1)).number → Follows changes' (snap_of (kept ++ s ∷ []) i) (snap_of (kept ++ s ∷ []) (i + 1))
    steps i le (inl lt) above =
        let old = h.steps i lt (subst (λ (x : Snap). floor_of x < x.number) (at (i + 1) lt) above) in
        let P : Snap × Snap → Type 0 = λ p. Follows changes' p.0 p.1 in
        subst P (λ j. (sym (at i (omega (arith, lt))) j, sym (at (i + 1) lt) j)) (follow-change run.0 changes' (snap_of kept i) (snap_of kept (i + 1)) (sym (same (snap_of kept (i + 1)).number (below (i + 1) lt))) old)
    steps i le (inr ge) above =
        let place : length kept - 1 ≡ i = omega (arith, le, ge) in
        let P : Snap × Snap → Type 0 = λ p. Follows changes' p.0 p.1 in
        let Q : Change → Type 0 = λ x. Fits last.number last.rows x × (length s.rows ≡ x.count) × ((v : ℕ) → v < x.count → row_at s.rows v ≡ row_after x.rows v (row_at last.rows v)) in
        let new = subst Q (sym own) (fits, count, rows) in
        let follows : Follows changes' last s = record { fits = new.0; count = new.1; rows = new.2 } in
        subst P (λ j. ((ap (snap_of kept) place ∙ sym (at i (omega (arith, le)))) j, sym (end (i + 1) (omega (arith, le, ge))) j)) follows

-- the last of them
pub rest : (kept : List Snap) (d : ℕ) → d < length kept → AreOneRun kept → AreOneRun (drop d kept)
rest kept d some run = (
  run.0,
  record {
    numbers = λ i lt. (let a = h.numbers (d + i) (short i lt) in let b = h.numbers (d + 0) (short 0 (omega (arith, lt))) in let x = ap (λ (y : Snap). y.number) (at i) in let y = ap (λ (z : Snap). z.number) (at 0) in omega (arith, a, b, x, y));
    within = λ i lt. subst (λ (x : Snap). floor_of x ≤ x.number) (sym (at i)) (h.within (d + i) (short i lt));
    floors = λ i lt. (let f = h.floors (d + i) (shorter i lt) in let x = ap floor_of (at i) in let y = ap floor_of (next i) in omega (arith, f, x, y));
    held = λ i lt. subst (Holds run.0) (sym (at i)) (h.held (d + i) (short i lt));
    steps = λ i lt above.
        (let P : Snap × Snap → Type 0 = λ p. Follows run.0 p.0 p.1 in
        subst P (λ j. (sym (at i) j, sym (next i) j)) (h.steps (d + i) (shorter i lt) (subst (λ (x : Snap). floor_of x < x.number) (next i) above)));
  },
)
  where
    h : AreConsecutive run.0 kept
    h = run.1

    at : (i : ℕ) → snap_of (drop d kept) i ≡ snap_of kept (d + i)
    at i = get_or-drop d kept i no_snap

    next : (i : ℕ) → snap_of (drop d kept) (i + 1) ≡ snap_of kept (d + i + 1)
    next i = at (i + 1) ∙ ap (snap_of kept) (let e : d + (i + 1) ≡ d + i + 1 = omega arith in e)

    short : (i : ℕ) → i < length (drop d kept) → d + i < length kept
    short i lt = let size = length-drop d kept in omega (arith, lt, size)

    shorter : (i : ℕ) → i + 1 < length (drop d kept) → d + i + 1 < length kept
    shorter i lt = let size = length-drop d kept in omega (arith, lt, size)

-- what a merged base does to a floor
pub record Moved (m : Numbered) (old new : Snap) : Type 0 where
  pub low : floor_of old ≤ floor_of new
  pub is : ((floor_of new ≡ m.number) × (m.number ≤ old.number) × (floor_of old < m.number)) ⊎ ((floor_of new ≡ floor_of old) × ((old.number < m.number) ⊎ (m.number ≤ floor_of old)))

pub moved : (m : Numbered) (old new : Snap) → IsRebased m old new → Moved m old new
moved m old new r = by (cases_lt old.number m.number) (cases_lt (floor_of old) m.number)
  where
    stay : (old.number < m.number) ⊎ (m.number ≤ floor_of old) → Moved m old new
    stay out = let f = ap (λ (b : Numbered). b.number) (r.stays out) in record { low = omega (arith, f); is = inr (f, out) }

    by : (old.number < m.number) ⊎ (m.number ≤ old.number) → (floor_of old < m.number) ⊎ (m.number ≤ floor_of old) → Moved m old new
    by (inl early) f = stay (inl early)
    by (inr late) (inr newer) = stay (inr newer)
    by (inr late) (inl older) = let f = ap (λ (b : Numbered). b.number) (r.onto late older) in record { low = omega (arith, f, older); is = inl (f, late, older) }

-- they are of one run still
pub rebased-run : (m : Numbered) (kept kept' : List Snap) → AreOneRun kept → length kept' ≡ length kept → ((i : ℕ) → i < length kept → IsRebased m (snap_of kept i) (snap_of kept' i)) → AreOneRun kept'
rebased-run m kept kept' run len each = (
  run.0,
  record {
    numbers = λ i lt. (let a = h.numbers i (short i lt) in let x = (each i (short i lt)).number in let y = (each 0 (short 0 (omega (arith, lt)))).number in omega (arith, a, x, y));
    within = λ i lt. within i (short i lt);
    floors = λ i lt. floors i (shorter i lt) (go i (omega (arith, shorter i lt))).is (go (i + 1) (shorter i lt)).is;
    held = λ i lt. held i (short i lt);
    steps = λ i lt above.
        (let r = each i (omega (arith, shorter i lt)) in let r' = each (i + 1) (shorter i lt) in let low = (go (i + 1) (shorter i lt)).low in let n = r'.number in
        follow-same run.0 (snap_of kept i) (snap_of kept' i) (snap_of kept (i + 1)) (snap_of kept' (i + 1)) r.number r.rows r'.number r'.rows (h.steps i (shorter i lt) (omega (arith, above, low, n))));
  },
)
  where
    h : AreConsecutive run.0 kept
    h = run.1

    short : (i : ℕ) → i < length kept' → i < length kept
    short i lt = omega (arith, lt, len)

    shorter : (i : ℕ) → i + 1 < length kept' → i + 1 < length kept
    shorter i lt = omega (arith, lt, len)

    go : (i : ℕ) → i < length kept → Moved m (snap_of kept i) (snap_of kept' i)
    go i lt = moved m (snap_of kept i) (snap_of kept' i) (each i lt)

    up-to : (i : ℕ) → i < length kept → ((floor_of (snap_of kept' i) ≡ m.number) × (m.number ≤ (snap_of kept i).number) × (floor_of (snap_of kept i) < m.number)) ⊎ ((floor_of (snap_of kept' i) ≡ floor_of (snap_of kept i)) × (((snap_of kept i).number < m.number) ⊎ (m.number ≤ floor_of (snap_of kept i)))) → floor_of (snap_of kept' i) ≤ (snap_of kept i).number
    up-to i lt (inl on) = let a = on.0 in let b = on.1 in omega (arith, a, b)
    up-to i lt (inr off) = let a = off.0 in let w = h.within i lt in omega (arith, a, w)

    within : (i : ℕ) → i < length kept → floor_of (snap_of kept' i) ≤ (snap_of kept' i).number
    within i lt = let u = up-to i lt (go i lt).is in let n = (each i lt).number in omega (arith, u, n)

    held : (i : ℕ) → i < length kept → Holds run.0 (snap_of kept' i)
    held i lt =
        let old = snap_of kept i in
        let new = snap_of kept' i in
        (each i lt).changes ∙ (held-above run.0 old (floor_of new) (h.held i lt) (go i lt).low (up-to i lt (go i lt).is) ∙ ap (λ n. map run.0 (range_with_len (floor_of new + 1) (n - floor_of new))) (sym (each i lt).number))

    floors : (i : ℕ) → i + 1 < length kept → ((floor_of (snap_of kept' i) ≡ m.number) × (m.number ≤ (snap_of kept i).number) × (floor_of (snap_of kept i) < m.number)) ⊎ ((floor_of (snap_of kept' i) ≡ floor_of (snap_of kept i)) × (((snap_of kept i).number < m.number) ⊎ (m.number ≤ floor_of (snap_of kept i)))) →
        ((floor_of (snap_of kept' (i + 1)) ≡ m.number) × (m.number ≤ (snap_of kept (i + 1)).number) × (floor_of (snap_of kept (i + 1)) < m.number)) ⊎ ((floor_of (snap_of kept' (i + 1)) ≡ floor_of (snap_of kept (i + 1))) × (((snap_of kept (i + 1)).number < m.number) ⊎ (m.number ≤ floor_of (snap_of kept (i + 1))))) →
        floor_of (snap_of kept' i) ≤ floor_of (snap_of kept' (i + 1))
    floors i lt (inl on) (inl on') = let a = on.0 in let b = on'.0 in omega (arith, a, b)
    floors i lt (inl on) (inr off') = let a = on.0 in let b = off'.0 in let c = on.1 in let n = h.numbers i (omega (arith, lt)) in let n' = h.numbers (i + 1) lt in
        elim off'.1 [ inl early ↦ absurd (omega (arith, early, c, n, n')) | inr newer ↦ omega (arith, a, b, newer) ]
    floors i lt (inr off) (inl on') = let a = off.0 in let b = on'.0 in let c = on'.2 in let f = h.floors i lt in omega (arith, a, b, c, f)
    floors i lt (inr off) (inr off') = let a = off.0 in let b = off'.0 in let f = h.floors i lt in omega (arith, a, b, f)
