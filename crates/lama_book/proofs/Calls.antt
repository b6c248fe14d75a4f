-- What the calls on a book do, step by step.
use Rattle.std.proofs.Common.{◌≡◌, ◌∙◌, ℕ, ◌+◌, ◌-◌, ◌<◌, ◌≤◌, List, [], ◌∷◌, ◌++◌, length, map, get_or, Bool, true, false, cond, leb, ltb, ◌||◌, refl, sym, ap, subst, arith, inl, inr, ◌⊎◌}
use Rattle.std.specs.Prelude.{All, sum_by}
use Rattle.std.proofs.lemmas.Bool.Decides.{nat_tests}
use Rattle.std.specs.Arc.{arc_value}
use Rattle.std.specs.declared.sync.Arc.{Arc}
use Rattle.std.proofs.Common.{Global}
use Rattle.lama_snapshot.specs.declared.snapshot.Snapshot.{Snapshot as Kept_snapshot}
use Rattle.std.proofs.lemmas.List.{length-map, get_or-map}
use Rattle.std.proofs.lemmas.List.Elements.{All-push}
use Rattle.std.proofs.lemmas.List.Sums.{sum_by_push}
use Rattle.lama_model.specs.Graph.{no_graph, IsNamedBelow}
use Rattle.lama_model.specs.Row.{row_at, edges_in, graph_of_rows}
use Rattle.lama_model.specs.Change.{RowChange, Change, change_to, row_after}
use Rattle.lama_model.specs.Bounds.{added_edges, killed_edges}
use Rattle.lama_model.specs.Fits.{Fits, HasIndexes}
use Rattle.lama_delta.specs.EdgeWrites.{edge_writes}
use Rattle.lama_delta.specs.RowWrites.{changes_below}
use Rattle.lama_delta.proofs.Effects.{changed_rows-graph}
use Rattle.lama_delta.proofs.Counted.{added-counted, old-counted, indexes-of}
use Rattle.lama_model.specs.Opening.{Opening, opening_of}
use Rattle.lama_model.specs.Journal.{newest_of, reply, reply_at, is_accepted, edges_added}
use Rattle.lama_model.specs.declared.calls.Write.{Write}
use Rattle.lama_model.specs.declared.calls.Call.{Call}
use Rattle.lama_model.specs.declared.calls.Call.TheVariants.{Write as Writes, Checkpoint, LookAt, Install, Retire}
use Rattle.lama_model.specs.declared.calls.Entry.{Entry}
use Rattle.lama_model.specs.declared.answers.Reply.{Reply}
use Rattle.lama_model.specs.declared.answers.Reply.TheVariants.{Accepted, Count, Snapshot, Kept, Refused}
use Rattle.lama_model.specs.declared.answers.Refusal.{Refusal}
use Rattle.lama_model.specs.declared.answers.Refusal.TheVariants.{FullKept, FullNumbers, NoSnapshot}
use Rattle.lama_model.proofs.StandingLemmas.{Meets, accepted_write, named-more, effect-count}
use Rattle.lama_snapshot.specs.Snap.{Snap, no_snap}
use Rattle.lama_book.specs.Book.{Book, brief, answers, newest_number, last_snap, with_write, next_change, IsWhole, IsRoomier, HasEntry, HasNext, HasCheckpoint, IsNext}
use Rattle.lama_book.specs.Relation.{IsBookOf}
use Rattle.lama_book.proofs.Answering.{answers-reply}
use Rattle.lama_book.proofs.Keeping.{roomier}

-- what the book with room answers is what the journal answers
pub told : (o : Opening) (b m : Book) → IsRoomier b m → (call : Call) → IsBookOf o b → answers m call ≡ reply o b.journal call
told o b m r call of = answers-reply o m (roomier o b m r of) call ∙ ap (λ (x : Book). reply o x.journal call) r.book

pub newest-brief : (b : Book) → newest_of (opening_of (newest_number b) no_graph) (brief b.count b.added b.oldest) ≡ newest_number b
newest-brief b = omega arith

-- the reply to a call that names a snapshot
kept-refused : (b : Book) (k m : ℕ) (found : ℕ → Reply) → m ≡ newest_number b → (k < b.oldest) ⊎ (newest_number b < k) → cond (ltb k b.oldest || ltb m k) (Refused (NoSnapshot k b.oldest m)) (found m) ≡ Refused (NoSnapshot k b.oldest (newest_number b))
kept-refused b k m found is out =
    ap (λ n. cond (ltb k b.oldest || ltb n k) (Refused (NoSnapshot k b.oldest n)) (found n)) is
    ∙ ap (λ t. cond t (Refused (NoSnapshot k b.oldest (newest_number b))) (found (newest_number b))) (by out)
  where
    or-true : (x : Bool) → (x || true) ≡ true
    or-true true = refl
    or-true false = refl

    by : (k < b.oldest) ⊎ (newest_number b < k) → (ltb k b.oldest || ltb (newest_number b) k) ≡ true
    by (inl low) = (let t : ltb k b.oldest ≡ true = grind (arith, nat_tests, low) in ap (λ x. x || ltb (newest_number b) k) t)
    by (inr high) = (let t : ltb (newest_number b) k ≡ true = grind (arith, nat_tests, high) in ap (λ x. ltb k b.oldest || x) t ∙ or-true (ltb k b.oldest))

kept-found : (b : Book) (k m : ℕ) (found : ℕ → Reply) → m ≡ newest_number b → b.oldest ≤ k → k ≤ newest_number b → cond (ltb k b.oldest || ltb m k) (Refused (NoSnapshot k b.oldest m)) (found m) ≡ found (newest_number b)
kept-found b k m found is low high =
    let t : ltb k b.oldest ≡ false = grind (arith, nat_tests, low) in
    let u : ltb (newest_number b) k ≡ false = grind (arith, nat_tests, high) in
    ap (λ n. cond (ltb k b.oldest || ltb n k) (Refused (NoSnapshot k b.oldest n)) (found n)) is
    ∙ (ap (λ x. cond (x || ltb (newest_number b) k) (Refused (NoSnapshot k b.oldest (newest_number b))) (found (newest_number b))) t
    ∙ ap (λ x. cond (false || x) (Refused (NoSnapshot k b.oldest (newest_number b))) (found (newest_number b))) u)

pub look_at-refused : (b : Book) (k : ℕ) → (k < b.oldest) ⊎ (newest_number b < k) → answers b (LookAt k) ≡ Refused (NoSnapshot k b.oldest (newest_number b))
unfolding reply_at
look_at-refused b k out = kept-refused b k (newest_of (opening_of (newest_number b) no_graph) (brief b.count b.added b.oldest)) (λ n. Snapshot k) (newest-brief b) out

pub look_at-found : (b : Book) (k : ℕ) → b.oldest ≤ k → k ≤ newest_number b → answers b (LookAt k) ≡ Snapshot k
unfolding reply_at
look_at-found b k low high = kept-found b k (newest_of (opening_of (newest_number b) no_graph) (brief b.count b.added b.oldest)) (λ n. Snapshot k) (newest-brief b) low high

pub retire-refused : (b : Book) (k : ℕ) → (k < b.oldest) ⊎ (newest_number b < k) → answers b (Retire k) ≡ Refused (NoSnapshot k b.oldest (newest_number b))
unfolding reply_at
retire-refused b k out = kept-refused b k (newest_of (opening_of (newest_number b) no_graph) (brief b.count b.added b.oldest)) (λ n. Kept k n) (newest-brief b) out

pub retire-found : (b : Book) (k : ℕ) → b.oldest ≤ k → k ≤ newest_number b → answers b (Retire k) ≡ Kept k (newest_number b)
unfolding reply_at
retire-found b k low high = kept-found b k (newest_of (opening_of (newest_number b) no_graph) (brief b.count b.added b.oldest)) (λ n. Kept k n) (newest-brief b) low high

pub install-refused : (b : Book) (k : ℕ) → (k < b.oldest) ⊎ (newest_number b < k) → answers b (Install k) ≡ Refused (NoSnapshot k b.oldest (newest_number b))
unfolding reply_at
install-refused b k out = kept-refused b k (newest_of (opening_of (newest_number b) no_graph) (brief b.count b.added b.oldest)) (λ n. Snapshot k) (newest-brief b) out

pub install-found : (b : Book) (k : ℕ) → b.oldest ≤ k → k ≤ newest_number b → answers b (Install k) ≡ Snapshot k
unfolding reply_at
install-found b k low high = kept-found b k (newest_of (opening_of (newest_number b) no_graph) (brief b.count b.added b.oldest)) (λ n. Snapshot k) (newest-brief b) low high

-- the replies to checkpoints
pub checkpoint-numbers : (b : Book) → 100000000 ≤ newest_number b → answers b Checkpoint ≡ Refused FullNumbers
unfolding reply_at
checkpoint-numbers b many =
    let t : leb 100000000 (newest_number b) ≡ true = grind (arith, nat_tests, many) in
    ap (λ m. cond (leb 100000000 m) (Refused FullNumbers) (cond (leb 4096 (m + 1 - b.oldest)) (Refused FullKept) (Snapshot (m + 1)))) (newest-brief b)
    ∙ ap (λ x. cond x (Refused FullNumbers) (cond (leb 4096 (newest_number b + 1 - b.oldest)) (Refused FullKept) (Snapshot (newest_number b + 1)))) t

pub checkpoint-kept : (b : Book) → newest_number b < 100000000 → 4096 ≤ length b.kept → answers b Checkpoint ≡ Refused FullKept
unfolding reply_at
checkpoint-kept b few many =
    let t : leb 100000000 (newest_number b) ≡ false = grind (arith, nat_tests, few) in
    let u : leb 4096 (newest_number b + 1 - b.oldest) ≡ true = grind (arith, nat_tests, many) in
    ap (λ m. cond (leb 100000000 m) (Refused FullNumbers) (cond (leb 4096 (m + 1 - b.oldest)) (Refused FullKept) (Snapshot (m + 1)))) (newest-brief b)
    ∙ (ap (λ x. cond x (Refused FullNumbers) (cond (leb 4096 (newest_number b + 1 - b.oldest)) (Refused FullKept) (Snapshot (newest_number b + 1)))) t
    ∙ ap (λ x. cond x (Refused FullKept) (Snapshot (newest_number b + 1))) u)

pub checkpoint-made : (b : Book) → newest_number b < 100000000 → 0 < length b.kept → length b.kept < 4096 → answers b Checkpoint ≡ Snapshot (newest_number b + 1)
unfolding reply_at
checkpoint-made b few some kept =
    let t : leb 100000000 (newest_number b) ≡ false = grind (arith, nat_tests, few) in
    let u : leb 4096 (newest_number b + 1 - b.oldest) ≡ false = grind (arith, nat_tests, some, kept) in
    ap (λ m. cond (leb 100000000 m) (Refused FullNumbers) (cond (leb 4096 (m + 1 - b.oldest)) (Refused FullKept) (Snapshot (m + 1)))) (newest-brief b)
    ∙ (ap (λ x. cond x (Refused FullNumbers) (cond (leb 4096 (newest_number b + 1 - b.oldest)) (Refused FullKept) (Snapshot (newest_number b + 1)))) t
    ∙ ap (λ x. cond x (Refused FullKept) (Snapshot (newest_number b + 1))) u)

-- an accepted write meets the limits
pub write-meets : (b : Book) (w : Write) → b.count ≤ 4194304 → b.added ≤ 33554432 → is_accepted (answers b (Writes w)) ≡ true → Meets (brief b.count b.added b.oldest) w
unfolding reply_at
write-meets b w few many accepted = accepted_write (brief b.count b.added b.oldest) w few many accepted

adds-push : (ws : List Write) (w : Write) → sum_by edges_added (ws ++ w ∷ []) ≡ sum_by edges_added ws + edges_added w
adds-push ws w = sum_by_push edges_added ws w

-- and the book with it is whole
pub write-whole : (b : Book) (w : Write) (journal : List Entry) (spare : ℕ) → IsWhole b → is_accepted (answers b (Writes w)) ≡ true → length journal ≤ 4194304 →
    (let n : Book = record (with_write b w) { journal = journal; spare = spare } in IsWhole n)
write-whole b w journal spare h accepted calls =
    let m = write-meets b w h.few_vertices h.few_added accepted in
    let up = effect-count w (record { count = b.count; edges = [] }) in
    let grows = h.grows in
    let room = h.room in
    let more = adds-push b.pending w in
    record {
      few_calls = calls;
      some_kept = h.some_kept;
      few_kept = h.few_kept;
      number = h.number;
      few_vertices = m.vertices;
      few_added = m.edges;
      named = named-more b.count (with_write b w).count (b.pending ++ w ∷ []) up (All-push (IsNamedBelow b.count) b.pending w h.named m.named);
      last = h.last;
      grows = omega (arith, grows, up);
      room = omega (arith, room, more);
      run = h.run;
    }

-- the next snapshot, and then the entry
pub next-entry : (a b c : Book) (e : Entry) → HasNext a b → HasEntry b c e → HasCheckpoint a c e
next-entry a b c e n h =
    let last : last_snap c ≡ last_snap b = ap last_snap h.book in
    let x = n.spare in
    let y = h.spare in
    record {
      next = subst (IsNext a) (sym last) n.next;
      book = h.book
          ∙ (ap (λ (z : Book). let r : Book = record z { journal = z.journal ++ e ∷ []; spare = c.spare } in r) n.book
          ∙ ap (λ (s : Snap). let r : Book = record a { journal = a.journal ++ e ∷ []; kept = a.kept ++ s ∷ []; pending = []; spare = c.spare } in r) (sym last));
      spare = omega (arith, x, y);
    }

-- the rows of the change of the pending writes
next-rows-are : (b : Book) → (next_change b).rows ≡ changes_below (last_snap b).rows (edge_writes b.pending) b.count
next-rows-are b = changed_rows-graph (last_snap b).rows b.pending b.count

-- it adds no more edges than they do
pub next-added : (b : Book) → added_edges (next_change b) ≤ sum_by edges_added b.pending
next-added b =
    let a = ap (sum_by (λ (r : RowChange). length r.added)) (next-rows-are b) in
    let n = added-counted (last_snap b).rows b.pending b.count in
    omega (arith, a, n)

-- and fits the newest snapshot
pub next-fits : (b : Book) → IsWhole b → newest_number b < 100000000 → Fits (last_snap b).number (last_snap b).rows (next_change b)
next-fits b h few =
    let k = ap (sum_by (λ (r : RowChange). length r.killed)) (next-rows-are b) in
    let s = ap (sum_by (λ (r : RowChange). length r.set)) (next-rows-are b) in
    let old = old-counted (last_snap b).rows (edge_writes b.pending) b.count in
    let last = h.last in
    let room = h.room in
    let most = h.few_added in
    let added = next-added b in
    let some = h.some_kept in
    record {
      next = omega (arith, last);
      limit = omega (arith, few);
      grows = h.grows;
      vertices = h.few_vertices;
      indexes = subst (All (HasIndexes (last_snap b).rows)) (sym (next-rows-are b)) (indexes-of (last_snap b).rows (edge_writes b.pending) b.count);
      edges = omega (arith, room, most, added);
      touched = omega (arith, room, most, added, k, s, old);
    }

-- what an apply answers, of the snapshot x and the change w
pub record IsApplied (s x : Snap) (w : Change) : Type 0 where
  pub number : s.number ≡ w.number
  pub count : length s.rows ≡ w.count
  pub rows : (v : ℕ) → v < w.count → row_at s.rows v ≡ row_after w.rows v (row_at x.rows v)
  pub base : s.base ≡ x.base
  pub changes : s.changes ≡ x.changes ++ w ∷ []
  pub edges : edges_in s.rows + killed_edges w ≡ edges_in x.rows + added_edges w

pub next-from : (b : Book) (s x : Snap) (w : Change) → x ≡ last_snap b → w ≡ next_change b → IsApplied s x w → IsNext b s
next-from b s x w is change applied =
    let P : Snap × Change → Type 0 = λ p. IsApplied s p.0 p.1 in
    let a : IsApplied s (last_snap b) (next_change b) = subst P (λ j. (is j, change j)) applied in
    let added = next-added b in
    let edges = a.edges in
    record { number = a.number; count = a.count; rows = a.rows; base = a.base; changes = a.changes; edges = omega (arith, edges, added) }

pub next-fits-from : (b : Book) (x : Snap) (w : Change) → IsWhole b → newest_number b < 100000000 → x ≡ last_snap b → w ≡ next_change b → Fits x.number x.rows w
next-fits-from b x w whole few is change =
    let P : Snap × Change → Type 0 = λ p. Fits p.0.number p.0.rows p.1 in
    subst P (λ j. (sym is j, sym change j)) (next-fits b whole few)

-- an answer that is no refusal is accepted
pub accepted-from : (r : Reply) → ((x : Refusal) → r ≡ Refused x → ⊥) → is_accepted r ≡ true
accepted-from Accepted no-refusal = refl
accepted-from (Count n) no-refusal = refl
accepted-from (Snapshot k) no-refusal = refl
accepted-from (Kept a b) no-refusal = refl
accepted-from (Refused x) no-refusal = absurd (no-refusal x refl)

-- the newest snapshot as it is read from the fields
pub read-last : (items : List (Arc Kept_snapshot Global)) (b : Book) (len : ℕ) (a : Arc Kept_snapshot Global) (x : Snap) → map arc_value items ≡ b.kept → len ≡ length items → 0 < length b.kept → a ≡ get_or items (len - 1) a → x ≡ arc_value a → x ≡ last_snap b
read-last items b len a x kept is some at reads =
    let size = length-map items arc_value in
    let same = ap length kept in
    reads ∙ (ap arc_value at ∙ (sym (get_or-map arc_value items (len - 1) a no_snap (omega (arith, is, size, same, some))) ∙ (ap (λ xs. get_or xs (len - 1) no_snap) kept ∙ ap (λ i. get_or b.kept i no_snap) (let e : len - 1 ≡ length b.kept - 1 = omega (arith, is, size, same) in e))))

-- the change as it is made from the fields
pub made-change : (b : Book) (x : Snap) (w v : Change) (writes : List Write) (n count : ℕ) → x ≡ last_snap b → w ≡ v → v ≡ change_to (graph_of_rows x.rows) writes (n + 1) count → writes ≡ b.pending → n ≡ newest_number b → count ≡ b.count → w ≡ next_change b
made-change b x w v writes n count last same is pending number many =
    same ∙ (is ∙ (ap (λ (y : Snap). change_to (graph_of_rows y.rows) writes (n + 1) count) last
    ∙ (ap (λ ws. change_to (graph_of_rows (last_snap b).rows) ws (n + 1) count) pending
    ∙ (ap (λ m. change_to (graph_of_rows (last_snap b).rows) b.pending (m + 1) count) number ∙ ap (λ m. change_to (graph_of_rows (last_snap b).rows) b.pending (newest_number b + 1) m) many))))
