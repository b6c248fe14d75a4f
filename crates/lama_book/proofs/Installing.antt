-- A merged base is installed: the kept snapshots are those of their numbers still, from a newer floor on.
use Rattle.std.proofs.Common.{◌≡◌, ◌∙◌, ℕ, ◌+◌, ◌-◌, ◌<◌, ◌≤◌, List, [], ◌∷◌, ◌++◌, length, get_or, max, Bool, true, false, cond, leb, refl, sym, ap, subst, arith, inl, inr, ◌⊎◌}
use Rattle.std.specs.Prelude.{Result, Ok, Err, OnOk, OnErr}
use Rattle.std.proofs.lemmas.Bool.Decides.{nat_tests}
use Rattle.std.proofs.lemmas.List.{ext_get_or, length-drop, get_or-drop}
use Rattle.lama_model.specs.Graph.{Graph}
use Rattle.lama_model.specs.Row.{AreRowsOf, edges_in}
use Rattle.lama_model.specs.Opening.{Opening, no_change}
use Rattle.lama_model.specs.Journal.{Standing, newest_of, graph_of, floor_of, standing, is_accepted, done, after}
use Rattle.lama_model.specs.declared.calls.Call.TheVariants.{Install}
use Rattle.lama_model.specs.declared.calls.Entry.{Entry}
use Rattle.lama_model.proofs.StandingLemmas.{standing-push, is_standing}
use Rattle.lama_model.proofs.JournalLaws.{extends-done, change_of-extends, longer_graphs, newest-rises}
use Rattle.lama_snapshot.specs.BaseRows.{Numbered}
use Rattle.lama_snapshot.specs.Snap as snap
use Rattle.lama_snapshot.specs.Snap.{Snap, no_snap, change_at}
use Rattle.lama_merge.specs.Rebase.{snap_of, IsAmong, IsRebased}
use Rattle.lama_merge.proofs.Runs.{moved, rebased-run}
use Rattle.lama_book.specs.Book.{Book, newest_number, last_snap, snap_at, IsWhole, HasEntry, IsOnto, HasInstalled}
use Rattle.lama_book.specs.Relation.{IsSnapshotOf, IsMergedOf, Agrees, IsBookOf}
use Rattle.lama_book.proofs.Answering.{answers-reply, newest-is}
use Rattle.lama_book.proofs.Floors.{floor-installed}
use Rattle.lama_book.proofs.Keeping.{after-accepted}
use Rattle.lama_book.proofs.Calls.{install-found}

-- the merged base is of one of the kept snapshots
pub is-among : (b : Book) (m : Numbered) → IsWhole b → b.oldest ≤ m.number → m.number ≤ newest_number b → m.rows ≡ (snap_at b m.number).rows → IsAmong m b.kept
is-among b m h low high rows =
    let some = h.some_kept in
    let last = h.last in
    let n = h.run.1.numbers (length b.kept - 1) (omega (arith, some)) in
    let first : (snap_of b.kept 0).number ≡ b.oldest = omega (arith, n, last, some) in
    record {
      first = omega (arith, first, low);
      last = omega (arith, first, high, some);
      rows = rows ∙ ap (λ k. (snap_of b.kept (m.number - k)).rows) (sym first);
    }

-- the book on the merged base is whole
pub onto-whole : (b b' : Book) (m : Numbered) → IsOnto b b' m → IsWhole b → IsWhole b'
onto-whole b b' m onto h =
    let len = onto.len in
    let some = h.some_kept in
    let few = h.few_kept in
    let number = h.number in
    let at : length b'.kept - 1 ≡ length b.kept - 1 = omega (arith, len) in
    let r = onto.each (length b.kept - 1) (omega (arith, some)) in
    let last : last_snap b' ≡ snap_of b'.kept (length b.kept - 1) = ap (snap_of b'.kept) at in
    let same : (last_snap b').number ≡ (last_snap b).number = ap (λ (x : Snap). x.number) last ∙ r.number in
    let rows : (last_snap b').rows ≡ (last_snap b).rows = ap (λ (x : Snap). x.rows) last ∙ r.rows in
    let was = h.last in
    let size = ap length rows in
    let grows = h.grows in
    let edges = ap edges_in rows in
    let room = h.room in
    let whole : (let n : Book = record b { kept = b'.kept } in IsWhole n) = record {
      few_calls = h.few_calls;
      some_kept = omega (arith, some, len);
      few_kept = omega (arith, few, len);
      number = omega (arith, number, len);
      few_vertices = h.few_vertices;
      few_added = h.few_added;
      named = h.named;
      last = omega (arith, was, same, len);
      grows = omega (arith, size, grows);
      room = omega (arith, edges, room);
      run = rebased-run m b.kept b'.kept h.run len onto.each;
    } in
    subst IsWhole (sym onto.book) whole

-- the snapshots on the merged base, and then the entry
pub onto-entry : (a b c : Book) (m : Numbered) (e : Entry) → IsOnto a b m → HasEntry b c e → HasInstalled a c m e
onto-entry a b c m e onto h =
    let s = h.spare in
    let same = ap (λ (x : Book). x.spare) onto.book in
    let kept : b.kept ≡ c.kept = sym (ap (λ (x : Book). x.kept) h.book) in
    record {
      book = h.book
          ∙ (ap (λ (z : Book). let r : Book = record z { journal = z.journal ++ e ∷ []; spare = c.spare } in r) onto.book
          ∙ ap (λ (ss : List Snap). let r : Book = record a { journal = a.journal ++ e ∷ []; kept = ss; spare = c.spare } in r) kept);
      len = ap length (sym kept) ∙ onto.len;
      each = λ i lt. subst (λ ss. IsRebased m (snap_of a.kept i) (snap_of ss i)) kept (onto.each i lt);
      spare = omega (arith, s, same);
    }

module _ (o : Opening) (s : Standing) (j : ℕ) (m : Numbered) (old new : Snap) (r : IsRebased m old new) (of : IsSnapshotOf o s j old) where
  abbrev t : Standing
  t = done (Install m.number) s

  root : snap.floor_of old ≡ floor_of o s j
  root = of.floor

  late : ℕ → m.number ≤ j → leb m.number j ≡ true
  late unused le = grind (arith, nat_tests, le)

  -- the floor is the one that the install gives
  floor-new : snap.floor_of new ≡ floor_of o t j
  floor-new = by (moved m old new r).is ∙ sym (floor-installed o s m.number j)
    where
      by : ((snap.floor_of new ≡ m.number) × (m.number ≤ old.number) × (snap.floor_of old < m.number)) ⊎ ((snap.floor_of new ≡ snap.floor_of old) × ((old.number < m.number) ⊎ (m.number ≤ snap.floor_of old))) →
          snap.floor_of new ≡ cond (leb m.number j) (max (floor_of o s j) m.number) (floor_of o s j)
      by (inl on) =
          let is = on.0 in let high = on.1 in let low = on.2 in let n = of.number in let f = root in
          let test : leb m.number j ≡ true = grind (arith, nat_tests, high, n) in
          (let e : snap.floor_of new ≡ max (floor_of o s j) m.number = omega (arith, is, low, f) in e) ∙ sym (ap (λ b. cond b (max (floor_of o s j) m.number) (floor_of o s j)) test)
      by (inr off) = off.0 ∙ (root ∙ stays off.1)
        where
          stays : (old.number < m.number) ⊎ (m.number ≤ snap.floor_of old) → floor_of o s j ≡ cond (leb m.number j) (max (floor_of o s j) m.number) (floor_of o s j)
          stays (inl early) =
              let n = of.number in
              let test : leb m.number j ≡ false = grind (arith, nat_tests, early, n) in
              sym (ap (λ b. cond b (max (floor_of o s j) m.number) (floor_of o s j)) test)
          stays (inr newer) = let f = root in either (leb m.number j) (omega (arith, newer, f))
            where
              either : (b : Bool) → m.number ≤ floor_of o s j → floor_of o s j ≡ cond b (max (floor_of o s j) m.number) (floor_of o s j)
              either true le = omega (arith, le)
              either false le = refl

  base-new : AreRowsOf m.rows (graph_of o s m.number) → AreRowsOf new.base.rows (graph_of o s (snap.floor_of new))
  base-new rows = by (moved m old new r).is
    where
      by : ((snap.floor_of new ≡ m.number) × (m.number ≤ old.number) × (snap.floor_of old < m.number)) ⊎ ((snap.floor_of new ≡ snap.floor_of old) × ((old.number < m.number) ⊎ (m.number ≤ snap.floor_of old))) → AreRowsOf new.base.rows (graph_of o s (snap.floor_of new))
      by (inl on) = subst (λ (b : Numbered). AreRowsOf b.rows (graph_of o s b.number)) (sym (r.onto on.1 on.2)) rows
      by (inr off) = subst (λ (b : Numbered). AreRowsOf b.rows (graph_of o s b.number)) (sym (r.stays off.1)) (subst (λ i. AreRowsOf old.base.rows (graph_of o s i)) (sym root) of.base)

  above : snap.floor_of new ≤ j
  above = by (moved m old new r).is
    where
      by : ((snap.floor_of new ≡ m.number) × (m.number ≤ old.number) × (snap.floor_of old < m.number)) ⊎ ((snap.floor_of new ≡ snap.floor_of old) × ((old.number < m.number) ⊎ (m.number ≤ snap.floor_of old))) → snap.floor_of new ≤ j
      by (inl on) = let is = on.0 in let high = on.1 in let n = of.number in omega (arith, is, high, n)
      by (inr off) = let is = off.0 in let len = of.len in let f = root in omega (arith, is, len, f)

  -- a snapshot that was put onto the merged base is that of its number where the number is installed
  pub installed-snapshot : AreRowsOf m.rows (graph_of o s m.number) → length s.written ≡ length s.made → j ≤ newest_of o s → IsSnapshotOf o t j new
  installed-snapshot rows written within =
      let low = (moved m old new r).low in
      let up = above in
      let f = floor-new in
      let g = root in
      let size = ap length r.changes in
      let cut = length-drop (snap.floor_of new - snap.floor_of old) old.changes in
      let len = of.len in
      record {
        number = r.number ∙ of.number;
        rows = subst (λ rs. AreRowsOf rs (graph_of o s j)) (sym r.rows) of.rows;
        floor = f;
        base = subst (λ i. AreRowsOf new.base.rows (graph_of o s i)) f (base-new rows);
        len = omega (arith, size, cut, len, low, up, f, g);
        changes = λ i from upto.
            ap (λ cs. get_or cs (i - snap.floor_of new - 1) no_change) r.changes
            ∙ (get_or-drop (snap.floor_of new - snap.floor_of old) old.changes (i - snap.floor_of new - 1) no_change
            ∙ (ap (λ n. get_or old.changes n no_change) (let e : snap.floor_of new - snap.floor_of old + (i - snap.floor_of new - 1) ≡ i - snap.floor_of old - 1 = omega (arith, low, from, f) in e)
            ∙ (of.changes i (omega (arith, low, from, f, g)) upto ∙ sym (change_of-extends o s t (extends-done o s (Install m.number)) written i (omega (arith, upto, within))))));
      }

-- what is kept are the snapshots of their numbers still
pub install-stays : (o : Opening) (b b' : Book) (m : Numbered) (e : Entry) → HasInstalled b b' m e → e.call ≡ Install m.number → b.oldest ≤ m.number → m.number ≤ newest_number b → m.rows ≡ (snap_at b m.number).rows → IsBookOf o b → IsBookOf o b'
install-stays o b b' m e h call low high rows of =
    subst (IsBookOf o) (sym h.book)
    (subst (λ t. Agrees o t b'.kept b.pending b.count b.added b.oldest) (sym becomes) (record {
      is = of.is;
      pending_is = of.pending_is;
      count_is = of.count_is;
      added_is = of.added_is;
      oldest_is = of.oldest_is;
      numbers = let len = h.len in let numbers = of.numbers in omega (arith, len, numbers);
      each = λ j from upto. let old = of.oldest_is in let numbers = of.numbers in
          installed-snapshot o s j m (get_or b.kept (j - s.oldest) no_snap) (get_or b'.kept (j - s.oldest) no_snap) (h.each (j - s.oldest) (omega (arith, from, upto, old, numbers))) (of.each j from upto) graph (is_standing o of.is b.journal).written upto;
    }))
  where
    s : Standing
    s = standing o b.journal

    becomes : standing o (b.journal ++ e ∷ []) ≡ done (Install m.number) (standing o b.journal)
    becomes = standing-push o b.journal e ∙ (ap (after o (standing o b.journal)) call ∙ after-accepted o (standing o b.journal) (Install m.number) (ap is_accepted (sym (answers-reply o b of (Install m.number)) ∙ install-found b m.number low high)))

    graph : AreRowsOf m.rows (graph_of o (standing o b.journal) m.number)
    graph =
        let old = of.oldest_is in
        let n = newest-is o b of in
        let at : (snap_at b m.number).rows ≡ (get_or b.kept (m.number - (standing o b.journal).oldest) no_snap).rows = ap (λ i. (get_or b.kept (m.number - i) no_snap).rows) old in
        subst (λ rs. AreRowsOf rs (graph_of o (standing o b.journal) m.number)) (sym (rows ∙ at)) (of.each m.number (omega (arith, low, old)) (omega (arith, high, n))).rows

-- rows of one graph are the same
rows-unique : (rs rs' : List (List (ℕ × ℕ))) (g : Graph) → AreRowsOf rs g → AreRowsOf rs' g → rs ≡ rs'
rows-unique rs rs' g a b = ext_get_or [] rs rs' (a.count ∙ sym b.count) (λ v lt. let n = a.count in a.each v (omega (arith, lt, n)) ∙ sym (b.each v (omega (arith, lt, n))))

-- a merged base of a graph of the journal may be installed
pub may-install : (o : Opening) (b : Book) (m : Numbered) → IsBookOf o b → IsMergedOf o (standing o b.journal) m → b.oldest ≤ m.number → m.number ≤ newest_number b → m.rows ≡ (snap_at b m.number).rows
may-install o b m of merged low high =
    let old = of.oldest_is in
    let n = newest-is o b of in
    let at : (snap_at b m.number).rows ≡ (get_or b.kept (m.number - (standing o b.journal).oldest) no_snap).rows = ap (λ i. (get_or b.kept (m.number - i) no_snap).rows) old in
    rows-unique m.rows (get_or b.kept (m.number - (standing o b.journal).oldest) no_snap).rows (graph_of o (standing o b.journal) m.number) merged.rows (of.each m.number (omega (arith, low, old)) (omega (arith, high, n))).rows ∙ sym at

-- however the journal goes on
pub merged-longer : (o : Opening) (journal more : List Entry) (m : Numbered) → IsMergedOf o (standing o journal) m → IsMergedOf o (standing o (journal ++ more)) m
merged-longer o journal more m h = record {
  number = let rises = newest-rises o journal more in let n = h.number in omega (arith, rises, n);
  rows = subst (AreRowsOf m.rows) (sym (longer_graphs o journal more m.number h.number)) h.rows;
}

-- with an entry more, or with none
pub merged-entry : {A E : Type 0} (o : Opening) (j j' : List Entry) (e : Entry) (r : Result A E) → OnOk r (j' ≡ j ++ e ∷ []) → OnErr r (j' ≡ j) → (m : Numbered) → IsMergedOf o (standing o j) m → IsMergedOf o (standing o j') m
merged-entry o j j' e (Ok x) is same m h = subst (λ l. IsMergedOf o (standing o l) m) (sym is) (merged-longer o j (e ∷ []) m h)
merged-entry o j j' e (Err x) is same m h = subst (λ l. IsMergedOf o (standing o l) m) (sym same) h

-- one that was built from the newest snapshot is such
pub merged-newest : (o : Opening) (b : Book) (m : Numbered) → IsBookOf o b → m.number ≡ (last_snap b).number → m.rows ≡ (last_snap b).rows → IsMergedOf o (standing o b.journal) m
merged-newest o b m of number rows =
    let s = standing o b.journal in
    let k = newest_of o s in
    let old = of.oldest_is in
    let from = (is_standing o of.is b.journal).oldest in
    let numbers = of.numbers in
    let last : IsSnapshotOf o s k (last_snap b) = subst (λ i. IsSnapshotOf o s k (get_or b.kept i no_snap)) (let e : k - s.oldest ≡ length b.kept - 1 = omega (arith, numbers, old, from) in e) (of.each k from (omega arith)) in
    let is : m.number ≡ k = number ∙ last.number in
    record {
      number = omega (arith, is);
      rows = subst (λ i. AreRowsOf m.rows (graph_of o s i)) (sym is) (subst (λ rs. AreRowsOf rs (graph_of o s k)) (sym rows) last.rows);
    }
