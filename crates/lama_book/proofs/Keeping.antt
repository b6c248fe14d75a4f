-- A book goes on standing for its journal.
use Rattle.std.proofs.Common.{◌≡◌, ◌∙◌, ℕ, ◌+◌, ◌-◌, ◌≤◌, [], ◌∷◌, ◌++◌, length, get_or, Bool, true, false, cond, leb, refl, sym, ap, subst, arith}
use Rattle.std.specs.Prelude.{fold, max}
use Rattle.lama_model.specs.Graph.{Graph, effect}
use Rattle.lama_model.specs.Row.{AreRowsOf}
use Rattle.lama_model.specs.Opening.{Opening, first_number}
use Rattle.lama_model.specs.Journal.{Standing, newest_of, graph_of, floor_of, standing, reply_at, is_accepted, edges_added, done, after}
use Rattle.lama_model.specs.declared.calls.Write.{Write}
use Rattle.lama_model.specs.declared.calls.Write.TheVariants.{Vertices, Add, Remove, Weigh}
use Rattle.lama_model.specs.declared.calls.Call.{Call}
use Rattle.lama_model.specs.declared.calls.Call.TheVariants.{Write as Writes, Look, LookAt}
use Rattle.lama_model.specs.declared.calls.Entry.{Entry}
use Rattle.lama_model.specs.declared.answers.Reply.TheVariants.{Refused}
use Rattle.lama_model.specs.declared.answers.Refusal.{Refusal}
use Rattle.lama_model.proofs.StandingLemmas.{standing-push, is_standing}
use Rattle.lama_model.proofs.JournalLaws.{Extends, extends-done, graph_of-extends, change_of-extends}
use Rattle.lama_snapshot.specs.Snap.{Snap, no_snap}
use Rattle.lama_book.specs.Book.{Book, answers, with_write, IsRoomier, HasEntry, HasWrite}
use Rattle.lama_book.specs.Relation.{IsSnapshotOf, Agrees, IsBookOf}
use Rattle.lama_book.proofs.Answering.{answers-reply}

-- more room changes nothing
pub roomier : (o : Opening) (b b' : Book) → IsRoomier b b' → IsBookOf o b → IsBookOf o b'
roomier o b b' r h = subst (IsBookOf o) (sym r.book) h

-- an entry whose call leaves what stands
pub stays : (o : Opening) (b b' : Book) (e : Entry) → HasEntry b b' e → after o (standing o b.journal) e.call ≡ standing o b.journal → IsBookOf o b → IsBookOf o b'
stays o b b' e r same h =
    subst (IsBookOf o) (sym r.book)
    (subst (λ s. Agrees o s b.kept b.pending b.count b.added b.oldest) (sym (standing-push o b.journal e ∙ same)) h)

both : {A : Type 0} (b : Bool) (x : A) → cond b x x ≡ x
both true x = refl
both false x = refl

pub after-look : (o : Opening) (s : Standing) → after o s Look ≡ s
unfolding after
after-look o s = both (is_accepted (reply_at o s Look)) s

pub after-look_at : (o : Opening) (s : Standing) (k : ℕ) → after o s (LookAt k) ≡ s
unfolding after
after-look_at o s k = both (is_accepted (reply_at o s (LookAt k))) s

pub after-refused : (o : Opening) (s : Standing) (call : Call) (r : Refusal) → reply_at o s call ≡ Refused r → after o s call ≡ s
unfolding after
after-refused o s call r is = ap (λ x. cond (is_accepted x) (done call s) s) is

pub after-accepted : (o : Opening) (s : Standing) (call : Call) → is_accepted (reply_at o s call) ≡ true → after o s call ≡ done call s
unfolding after
after-accepted o s call is = ap (λ b. cond b (done call s) s) is

-- a refused call leaves the book standing for its journal
pub refused-stays : (o : Opening) (b b' : Book) (e : Entry) (r : Refusal) → HasEntry b b' e → answers b e.call ≡ Refused r → IsBookOf o b → IsBookOf o b'
refused-stays o b b' e r h is of = stays o b b' e h (after-refused o (standing o b.journal) e.call r (sym (answers-reply o b of e.call) ∙ is)) of

-- without an install more all floors are as they were
floor-same : (o : Opening) (s t : Standing) (k : ℕ) → t.installed ≡ s.installed → floor_of o s k ≡ floor_of o t k
floor-same o s t k same = ap (λ ks. fold (λ f i. cond (leb i k) (max f i) f) (first_number o) ks) (sym same)

-- a snapshot stays that of its number where more stands
pub snapshot-extends : (o : Opening) (s t : Standing) (k : ℕ) (x : Snap) → Extends o s t → length s.written ≡ length s.made → t.installed ≡ s.installed → k ≤ newest_of o s → IsSnapshotOf o s k x → IsSnapshotOf o t k x
snapshot-extends o s t k x ext same floors le h =
    let f : floor_of o s k ≡ floor_of o t k = floor-same o s t k floors in
    let len = h.len in
    record {
      number = h.number;
      rows = subst (AreRowsOf x.rows) (sym (graph_of-extends o s t ext k le)) h.rows;
      floor = h.floor ∙ f;
      base = subst (λ i. AreRowsOf x.base.rows (graph_of o t i)) f (subst (AreRowsOf x.base.rows) (sym (graph_of-extends o s t ext (floor_of o s k) (omega (arith, len, le)))) h.base);
      len = omega (arith, len, f);
      changes = λ j low high. h.changes j (omega (arith, low, f)) high ∙ sym (change_of-extends o s t ext same j (omega (arith, high, le)));
    }

effect-counts : (w : Write) (g : Graph) (n : ℕ) → n ≡ g.count → (effect w (record { count = n; edges = [] })).count ≡ (effect w g).count
effect-counts (Vertices k) g n is = ap (λ m. m + k) is
effect-counts (Add u v w) g n is = is
effect-counts (Remove u v) g n is = is
effect-counts (Weigh u v w) g n is = is

-- an accepted write is pending
pub write-stays : (o : Opening) (b b' : Book) (w : Write) (e : Entry) → HasWrite b b' w e → e.call ≡ Writes w → is_accepted (answers b (Writes w)) ≡ true → IsBookOf o b → IsBookOf o b'
write-stays o b b' w e h call accepted of =
    subst (IsBookOf o) (sym h.book)
    (subst (λ t. Agrees o t b.kept (with_write b w).pending (with_write b w).count (with_write b w).added b.oldest) (sym becomes) (record {
      is = of.is;
      pending_is = ap (λ ws. ws ++ w ∷ []) of.pending_is;
      count_is = effect-counts w s.graph b.count of.count_is;
      added_is = ap (λ n. n + edges_added w) of.added_is;
      oldest_is = of.oldest_is;
      numbers = of.numbers;
      each = λ k low high. snapshot-extends o s (done (Writes w) s) k (get_or b.kept (k - s.oldest) no_snap) (extends-done o s (Writes w)) (is_standing o of.is b.journal).written refl high (of.each k low high);
    }))
  where
    s : Standing
    s = standing o b.journal

    becomes : standing o (b.journal ++ e ∷ []) ≡ done (Writes w) s
    becomes = standing-push o b.journal e ∙ (ap (after o s) call ∙ after-accepted o s (Writes w) (ap is_accepted (sym (answers-reply o b of (Writes w))) ∙ accepted))
