-- A book answers what its journal answers.
use Rattle.std.proofs.Common.{◌≡◌, ℕ, ◌+◌, ◌-◌, cond, leb, ltb, ◌||◌, refl, sym, ap, subst, arith}
use Rattle.lama_model.specs.Graph.{no_graph}
use Rattle.lama_model.specs.Opening.{Opening, opening_of}
use Rattle.lama_model.specs.Journal.{Standing, newest_of, standing, reply, reply_at, reply_to_write}
use Rattle.lama_model.specs.declared.calls.Write.{Write}
use Rattle.lama_model.specs.declared.calls.Write.TheVariants.{Vertices, Add, Remove, Weigh}
use Rattle.lama_model.specs.declared.calls.Call.{Call}
use Rattle.lama_model.specs.declared.calls.Call.TheVariants.{Write as Writes, Checkpoint, Look, LookAt, Install, Retire}
use Rattle.lama_model.specs.declared.answers.Reply.TheVariants.{Snapshot, Kept, Refused}
use Rattle.lama_model.specs.declared.answers.Refusal.TheVariants.{FullKept, FullNumbers, NoSnapshot}
use Rattle.lama_book.specs.Book.{Book, brief, answers, newest_number}
use Rattle.lama_book.specs.Relation.{IsBookOf}

brief-write : (s : Standing) (w : Write) → reply_to_write (brief s.graph.count s.added s.oldest) w ≡ reply_to_write s w
unfolding reply_to_write
brief-write s (Vertices n) = refl
brief-write s (Add u v w) = refl
brief-write s (Remove u v) = refl
brief-write s (Weigh u v w) = refl

-- an answer asks only for the counts, the oldest and the newest number
brief-reply : (o : Opening) (s : Standing) (n : ℕ) → newest_of (opening_of n no_graph) (brief s.graph.count s.added s.oldest) ≡ newest_of o s → (call : Call) → reply_at (opening_of n no_graph) (brief s.graph.count s.added s.oldest) call ≡ reply_at o s call
unfolding reply_at
brief-reply o s n is (Writes w) = brief-write s w
brief-reply o s n is Checkpoint = ap (λ m. cond (leb 100000000 m) (Refused FullNumbers) (cond (leb 4096 (m + 1 - s.oldest)) (Refused FullKept) (Snapshot (m + 1)))) is
brief-reply o s n is Look = ap (λ m. Snapshot m) is
brief-reply o s n is (LookAt k) = ap (λ m. cond (ltb k s.oldest || ltb m k) (Refused (NoSnapshot k s.oldest m)) (Snapshot k)) is
brief-reply o s n is (Install k) = ap (λ m. cond (ltb k s.oldest || ltb m k) (Refused (NoSnapshot k s.oldest m)) (Snapshot k)) is
brief-reply o s n is (Retire k) = ap (λ m. cond (ltb k s.oldest || ltb m k) (Refused (NoSnapshot k s.oldest m)) (Kept k m)) is

pub newest-is : (o : Opening) (b : Book) → IsBookOf o b → newest_number b ≡ newest_of o (standing o b.journal)
newest-is o b h = let n = h.numbers in omega (arith, n)

pub answers-reply : (o : Opening) (b : Book) → IsBookOf o b → (call : Call) → answers b call ≡ reply o b.journal call
answers-reply o b h call =
    let s = standing o b.journal in
    let n = newest-is o b h in
    let P : ℕ × ℕ × ℕ → Type 0 = λ p. reply_at (opening_of (newest_number b) no_graph) (brief p.0 p.1 p.2) call ≡ reply_at o s call in
    subst P (λ j. (sym h.count_is j, sym h.added_is j, sym h.oldest_is j)) (brief-reply o s (newest_number b) (omega (arith, n)) call)
