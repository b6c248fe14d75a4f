-- A book with the next snapshot stands for a journal with an accepted checkpoint more.
use Rattle.std.proofs.Common.{◌≡◌, ◌∙◌, ℕ, ◌+◌, ◌-◌, ◌<◌, ◌≤◌, [], ◌∷◌, ◌++◌, length, get_or, true, false, cond, leb, refl, sym, ap, subst, arith, inl, inr, ◌⊎◌}
use Rattle.std.proofs.lemmas.Bool.{cases_lt}
use Rattle.std.proofs.lemmas.Bool.Decides.{nat_tests}
use Rattle.std.proofs.lemmas.List.{length_push, get_or_append_left, get_or_push}
use Rattle.lama_model.specs.Graph.{Graph, IsGraph}
use Rattle.lama_model.specs.Row.{row, row_at, AreRowsOf, graph_of_rows}
use Rattle.lama_model.specs.Change.{Change, change_to, change_between, changed_rows, graph_after, row_after}
use Rattle.lama_model.specs.Opening.{Opening, IsOpening, last_number, opening_change, no_change}
use Rattle.lama_model.specs.Journal.{Standing, newest_of, graph_of, change_of, floor_of, standing, is_accepted, done, after}
use Rattle.lama_model.specs.declared.calls.Call.TheVariants.{Checkpoint}
use Rattle.lama_model.specs.declared.calls.Entry.{Entry}
use Rattle.lama_model.proofs.ChangeLaw.{change_law}
use Rattle.lama_model.proofs.GraphSteps.{row-everywhere, IsSound, sound, graph-is}
use Rattle.lama_model.proofs.StandingLemmas.{standing-push, IsStanding, graph_of-new}
use Rattle.lama_model.proofs.JournalLaws.{extends-done, graph_of-extends, change_of-extends}
use Rattle.lama_delta.proofs.Effects.{changed_rows-are, changed_rows-graph}
use Rattle.lama_snapshot.specs.BaseRows.{Numbered}
use Rattle.lama_snapshot.specs.Snap as snap
use Rattle.lama_snapshot.specs.Snap.{Snap, change_at, no_snap}
use Rattle.lama_book.specs.Book.{Book, last_snap, newest_number, answers, next_change, HasCheckpoint, IsNext}
use Rattle.std.specs.Prelude.{All}
use Rattle.lama_book.specs.Relation.{IsSnapshotOf, Agrees, IsBookOf}
use Rattle.lama_book.proofs.Answering.{answers-reply, newest-is}
use Rattle.lama_book.proofs.Floors.{floor-above, installed-within}
use Rattle.lama_book.proofs.Keeping.{snapshot-extends, after-accepted}

-- the change of the new number
change-new : (o : Opening) (s : Standing) → IsStanding o s → change_of o (done Checkpoint s) (newest_of o s + 1) ≡ change_between (graph_of o s (newest_of o s)) s.pending (newest_of o s + 1)
unfolding change_of
change-new o s st =
    let t = done Checkpoint s in
    let n = newest_of o s in
    let past : leb (n + 1) (last_number o) ≡ false = grind (arith, nat_tests) in
    let same = st.written in
    let g : graph_of o t (n + 1 - 1) ≡ graph_of o s n = ap (graph_of o t) (omega arith) ∙ graph_of-extends o s t (extends-done o s Checkpoint) n (omega arith) in
    let ws : get_or (s.written ++ s.pending ∷ []) (n + 1 - last_number o - 1) [] ≡ s.pending = get_or_push s.written s.pending [] (n + 1 - last_number o - 1) (omega (arith, same)) in
    ap (λ b. cond b (opening_change o (n + 1)) (change_between (graph_of o t (n + 1 - 1)) (get_or (s.written ++ s.pending ∷ []) (n + 1 - last_number o - 1) []) (n + 1))) past
    ∙ (ap (λ h. change_between h (get_or (s.written ++ s.pending ∷ []) (n + 1 - last_number o - 1) []) (n + 1)) g ∙ ap (λ x. change_between (graph_of o s n) x (n + 1)) ws)

-- the pending writes change the rows as they change the graph
rows-changed : (b : Book) (g : Graph) → AreRowsOf (last_snap b).rows g → IsGraph g → changed_rows (graph_of_rows (last_snap b).rows) b.pending b.count ≡ changed_rows g b.pending b.count
rows-changed b g of is =
    changed_rows-graph (last_snap b).rows b.pending b.count ∙ sym (changed_rows-are g (last_snap b).rows (λ u. sym (row-everywhere (last_snap b).rows g u of is)) b.pending b.count)

-- the change that the book makes is that of the journal
next-is : (o : Opening) (b : Book) (g : Graph) (s : Standing) → AreRowsOf (last_snap b).rows g → IsGraph g → b.pending ≡ s.pending → b.count ≡ s.graph.count → s.graph ≡ graph_after s.pending g → newest_number b ≡ newest_of o s → next_change b ≡ change_between g s.pending (newest_of o s + 1)
next-is o b g s of is pending count stands n =
    let rows = rows-changed b g of is in
    let c : b.count ≡ (graph_after s.pending g).count = count ∙ ap (λ (h : Graph). h.count) stands in
    ap (λ rs. let x : Change = record { number = newest_number b + 1; count = b.count; rows = rs } in x) rows
    ∙ (ap (λ ws. change_to g ws (newest_number b + 1) b.count) pending
    ∙ (ap (λ m. change_to g s.pending (m + 1) b.count) n ∙ ap (λ m. change_to g s.pending (newest_of o s + 1) m) c))

-- the rows of the next snapshot are those of the standing graph
next-rows : (b : Book) (x : Snap) (g : Graph) (s : Standing) → IsNext b x → b.pending ≡ s.pending → b.count ≡ s.graph.count → s.graph ≡ graph_after s.pending g → AreRowsOf (last_snap b).rows g → IsGraph g → AreRowsOf x.rows s.graph
next-rows b x g s next pending count stands of is = record {
  count = next.count ∙ count;
  each = λ v lt. (let below : v < b.count = omega (arith, lt, count) in
      next.rows v below
      ∙ (ap (λ rs. row_after rs v (row_at (last_snap b).rows v)) (rows-changed b g of is)
      ∙ (ap (row_after (changed_rows g b.pending b.count) v) (row-everywhere (last_snap b).rows g v of is)
      ∙ (change_law g b.pending b.count v below
      ∙ (ap (λ ws. row (graph_after ws g) v) pending ∙ ap (λ h. row h v) (sym stands))))));
}

-- the next snapshot is that of the next number
next-snapshot : (o : Opening) (b : Book) (x : Snap) (s : Standing) → IsSound o s → IsOpening o → All (λ i. i ≤ newest_of o s) s.installed → IsNext b x → b.pending ≡ s.pending → b.count ≡ s.graph.count → newest_number b ≡ newest_of o s →
    IsSnapshotOf o s (newest_of o s) (last_snap b) → IsSnapshotOf o (done Checkpoint s) (newest_of o s + 1) x
next-snapshot o b x s sd is installed next pending count n old =
    let t = done Checkpoint s in
    let m = newest_of o s in
    let g = graph_of o s m in
    let ext = extends-done o s Checkpoint in
    let f : floor_of o s m ≡ floor_of o t (m + 1) = floor-above o s m (m + 1) (omega arith) installed in
    let len = old.len in
    let size : length x.changes ≡ length (last_snap b).changes + 1 = ap length next.changes ∙ length_push (last_snap b).changes (next_change b) in
    let base : (last_snap b).base ≡ x.base = sym next.base in
    let root : snap.floor_of x ≡ floor_of o s m = ap (λ (y : Numbered). y.number) next.base ∙ old.floor in
    record {
      number = next.number ∙ ap (λ k. k + 1) n;
      rows = subst (AreRowsOf x.rows) (sym (graph_of-new o s s.graph)) (next-rows b x g s next pending count sd.is.stands old.rows (graph-is o s m is sd (omega arith)));
      floor = root ∙ f;
      base = subst (λ i. AreRowsOf x.base.rows (graph_of o t i)) f (subst (AreRowsOf x.base.rows) (sym (graph_of-extends o s t ext (floor_of o s m) (omega (arith, len)))) (subst (λ (y : Numbered). AreRowsOf y.rows (graph_of o s (floor_of o s m))) base old.base));
      len = omega (arith, len, size, f);
      changes = λ j low high. changes-at j (omega (arith, low, f)) high (cases_lt j (m + 1));
    }
  where
    place : (j : ℕ) → snap.floor_of x ≡ snap.floor_of (last_snap b)
    place j = ap (λ (y : Numbered). y.number) next.base

    at : (j : ℕ) → change_at x j ≡ get_or ((last_snap b).changes ++ next_change b ∷ []) (j - snap.floor_of (last_snap b) - 1) no_change
    at j = ap (λ k. get_or x.changes (j - k - 1) no_change) (place j) ∙ ap (λ cs. get_or cs (j - snap.floor_of (last_snap b) - 1) no_change) next.changes

    changes-at : (j : ℕ) → floor_of o s (newest_of o s) < j → j ≤ newest_of o s + 1 → (j < newest_of o s + 1) ⊎ (newest_of o s + 1 ≤ j) → change_at x j ≡ change_of o (done Checkpoint s) j
    changes-at j low high (inl lt) =
        let len = old.len in
        let root = old.floor in
        at j
        ∙ (get_or_append_left (last_snap b).changes (next_change b ∷ []) no_change (j - snap.floor_of (last_snap b) - 1) (omega (arith, len, root, low, lt))
        ∙ (old.changes j low (omega (arith, lt)) ∙ sym (change_of-extends o s (done Checkpoint s) (extends-done o s Checkpoint) sd.is.written j (omega (arith, lt)))))
    changes-at j low high (inr ge) =
        let len = old.len in
        let root = old.floor in
        let this : j ≡ newest_of o s + 1 = omega (arith, high, ge) in
        at j
        ∙ (get_or_push (last_snap b).changes (next_change b) no_change (j - snap.floor_of (last_snap b) - 1) (omega (arith, len, root, low, this))
        ∙ (next-is o b (graph_of o s (newest_of o s)) s old.rows (graph-is o s (newest_of o s) is sd (omega arith)) pending count sd.is.stands n
        ∙ (sym (change-new o s sd.is) ∙ ap (change_of o (done Checkpoint s)) (sym this))))

pub checkpoint-stays : (o : Opening) (b b' : Book) (e : Entry) → HasCheckpoint b b' e → e.call ≡ Checkpoint → is_accepted (answers b Checkpoint) ≡ true → IsBookOf o b → IsBookOf o b'
checkpoint-stays o b b' e h call accepted of =
    subst (IsBookOf o) (sym h.book)
    (subst (λ t. Agrees o t (b.kept ++ x ∷ []) [] b.count b.added b.oldest) (sym becomes) (
    let numbers = of.numbers in
    let old = of.oldest_is in
    let from = sd.is.oldest in
    let size = length_push b.kept x in
    let more = length_push s.made s.graph in
    let n = newest-is o b of in
    let place : length b.kept - 1 ≡ newest_of o s - s.oldest = omega (arith, numbers, old, from) in
    let last : get_or b.kept (newest_of o s - s.oldest) no_snap ≡ last_snap b = ap (λ i. get_or b.kept i no_snap) (sym place) in
    record {
      is = of.is;
      pending_is = refl;
      count_is = of.count_is;
      added_is = of.added_is;
      oldest_is = of.oldest_is;
      numbers = omega (arith, numbers, size, more);
      each = λ k low high. each-at k low (omega (arith, high, more)) (next-snapshot o b x s sd of.is (installed-within o of.is b.journal) h.next of.pending_is of.count_is n (subst (IsSnapshotOf o s (newest_of o s)) last (of.each (newest_of o s) from (omega arith)))) (cases_lt k (newest_of o s + 1));
    }))
  where
    s : Standing
    s = standing o b.journal

    x : Snap
    x = last_snap b'

    sd : IsSound o (standing o b.journal)
    sd = sound o of.is b.journal

    becomes : standing o (b.journal ++ e ∷ []) ≡ done Checkpoint (standing o b.journal)
    becomes = standing-push o b.journal e ∙ (ap (after o (standing o b.journal)) call ∙ after-accepted o (standing o b.journal) Checkpoint (ap is_accepted (sym (answers-reply o b of Checkpoint)) ∙ accepted))

    each-at : (k : ℕ) → (standing o b.journal).oldest ≤ k → k ≤ newest_of o (standing o b.journal) + 1 → IsSnapshotOf o (done Checkpoint (standing o b.journal)) (newest_of o (standing o b.journal) + 1) (last_snap b') → (k < newest_of o (standing o b.journal) + 1) ⊎ (newest_of o (standing o b.journal) + 1 ≤ k) → IsSnapshotOf o (done Checkpoint (standing o b.journal)) k (get_or (b.kept ++ last_snap b' ∷ []) (k - (standing o b.journal).oldest) no_snap)
    each-at k low high new (inl lt) =
        let numbers = of.numbers in
        let old = of.oldest_is in
        subst (IsSnapshotOf o (done Checkpoint (standing o b.journal)) k) (sym (get_or_append_left b.kept (last_snap b' ∷ []) no_snap (k - (standing o b.journal).oldest) (omega (arith, numbers, old, low, lt))))
        (snapshot-extends o (standing o b.journal) (done Checkpoint (standing o b.journal)) k (get_or b.kept (k - (standing o b.journal).oldest) no_snap) (extends-done o (standing o b.journal) Checkpoint) sd.is.written refl (omega (arith, lt)) (of.each k low (omega (arith, lt))))
    each-at k low high new (inr ge) =
        let numbers = of.numbers in
        let old = of.oldest_is in
        let this : newest_of o (standing o b.journal) + 1 ≡ k = omega (arith, high, ge) in
        subst (IsSnapshotOf o (done Checkpoint (standing o b.journal)) k) (sym (get_or_push b.kept (last_snap b') no_snap (k - (standing o b.journal).oldest) (omega (arith, numbers, old, low, this))))
        (subst (λ i. IsSnapshotOf o (done Checkpoint (standing o b.journal)) i (last_snap b')) this new)

-- the newest snapshot is that of the newest number
pub newest-of : (o : Opening) (b : Book) → IsBookOf o b → IsSnapshotOf o (standing o b.journal) (newest_of o (standing o b.journal)) (last_snap b)
newest-of o b of =
    let s = standing o b.journal in
    let from = (sound o of.is b.journal).is.oldest in
    let numbers = of.numbers in
    let old = of.oldest_is in
    subst (λ i. IsSnapshotOf o s (newest_of o s) (get_or b.kept i no_snap)) (let e : newest_of o s - s.oldest ≡ length b.kept - 1 = omega (arith, numbers, old, from) in e) (of.each (newest_of o s) from (omega arith))

-- the change that the next checkpoint makes is that of the writes since the newest number
pub next-of : (o : Opening) (b : Book) → IsBookOf o b → next_change b ≡ change_between (graph_of o (standing o b.journal) (newest_of o (standing o b.journal))) (standing o b.journal).pending (newest_of o (standing o b.journal) + 1)
next-of o b of =
    let s = standing o b.journal in
    let sd = sound o of.is b.journal in
    next-is o b (graph_of o s (newest_of o s)) s (newest-of o b of).rows (graph-is o s (newest_of o s) of.is sd (omega arith)) of.pending_is of.count_is sd.is.stands (newest-is o b of)
