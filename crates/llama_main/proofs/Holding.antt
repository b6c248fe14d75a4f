-- What a call on the store's book leaves, and what a look finds.
use Rattle.std.proofs.Common.{◌≡◌, ◌≢◌, ◌∙◌, ℕ, ◌-◌, ◌≤◌, List, [], ◌∷◌, ◌++◌, get_or, refl, sym, ap, subst, arith, Option, Some, None}
use Rattle.std.specs.Prelude.{MatchOption}
use Rattle.std.proofs.lemmas.List.Sums.{fold-append}
use Rattle.lama_model.specs.Opening.{IsOpening, empty_opening}
use Rattle.lama_model.specs.Journal.{Standing, standing, after, begun, newest_of, graph_of, floor_of, reply_at}
use Rattle.lama_model.specs.Text.{entry}
use Rattle.lama_model.specs.declared.calls.Call.{Call}
use Rattle.lama_model.specs.declared.calls.Call.TheVariants.{Look, LookAt}
use Rattle.lama_model.specs.declared.calls.Entry.{Entry}
use Rattle.lama_model.specs.declared.answers.Reply.{Reply}
use Rattle.lama_model.specs.declared.answers.Reply.TheVariants.{Snapshot}
use Rattle.lama_model.proofs.StandingLemmas.{standing-push}
use Rattle.lama_snapshot.specs.Snap.{Snap, no_snap}
use Rattle.lama_book.specs.Book.{Book, last_snap, snap_at, newest_number}
use Rattle.lama_book.specs.Relation.{IsSnapshotOf, IsBookOf}
use Rattle.lama_book.proofs.Checkpointing.{newest-of}
use Rattle.lama_book.proofs.Answering.{newest-is}
use Rattle.lama_book.proofs.Telling.{told-before}
use Rattle.lama_book.proofs.Keeping.{after-look, after-look_at}
use Rattle.llama_main.specs.Store.{Held, held_by, called, IsFound, IsTold, AreOfGraph}
use Rattle.llama_main.proofs.Limits.{graph-within}

-- one entry more
pub held_by-push : (journal : List Entry) (call : Call) → held_by (journal ++ entry 0 call ∷ []) ≡ called (held_by journal) call
unfolding standing
held_by-push journal call =
    ap (λ t. let h : Held = record { journal = journal ++ entry 0 call ∷ []; standing = t } in h) (fold-append (λ (s : Standing) (e : Entry). after empty_opening s e.call) (begun empty_opening) journal (entry 0 call ∷ []))

-- what a call leaves where its entry stands at the end of the journal
pub holds : (j j' : List Entry) (h : Held) (call : Call) → j' ≡ j ++ record { caller = 0; call = call } ∷ [] → held_by j ≡ h → held_by j' ≡ called h call
holds j j' h call is held = ap held_by is ∙ (held_by-push j call ∙ ap (λ x. called x call) held)

-- the snapshot of a number is found under it
found : (journal : List Entry) (t : Standing) (k : ℕ) (r : Reply) (x : Snap) → t ≡ standing empty_opening journal → r ≡ Snapshot k → k ≤ newest_of empty_opening (standing empty_opening journal) → IsOpening empty_opening → IsSnapshotOf empty_opening (standing empty_opening journal) k x → IsFound t r x
found journal t k r x same is within opening of = record {
  reply = is ∙ ap (λ n. Snapshot n) (sym of.number);
  told = subst (λ u. IsTold u x) (sym same) (record {
    rows = subst (λ n. AreOfGraph x.rows (graph_of empty_opening (standing empty_opening journal) n)) (sym of.number) (record { rows = of.rows; graph = graph-within opening journal k within });
    floor = of.floor ∙ ap (floor_of empty_opening (standing empty_opening journal)) (sym of.number);
    before = λ j v low high. let n = of.number in told-before empty_opening journal k j v x opening of within low (omega (arith, high, n));
  });
}

reply-look : (s : Standing) → reply_at empty_opening s Look ≡ Snapshot (newest_of empty_opening s)
unfolding reply_at
reply-look s = refl

pub look-reply : (b : Book) (x : Snap) (n : ℕ) → IsBookOf empty_opening b → x ≡ last_snap b → n ≡ x.number → Snapshot n ≡ reply_at empty_opening (standing empty_opening b.journal) Look
look-reply b x n of is number =
    ap (λ k. Snapshot k) (number ∙ (ap (λ (y : Snap). y.number) is ∙ (newest-of empty_opening b of).number)) ∙ sym (reply-look (standing empty_opening b.journal))

pub look-found : (b : Book) (j : List Entry) (x : Snap) (n : ℕ) → IsBookOf empty_opening b → j ≡ b.journal ++ record { caller = 0; call = Look } ∷ [] → x ≡ last_snap b → n ≡ x.number → IsFound (standing empty_opening j) (Snapshot n) x
look-found b j x n of longer is number =
    let s = standing empty_opening b.journal in
    let k = newest_of empty_opening s in
    let new = newest-of empty_opening b of in
    found b.journal (standing empty_opening j) k (Snapshot n) x (ap (standing empty_opening) longer ∙ (standing-push empty_opening b.journal (record { caller = 0; call = Look }) ∙ after-look empty_opening s))
    (ap (λ m. Snapshot m) (number ∙ (ap (λ (y : Snap). y.number) is ∙ new.number))) (omega arith) of.is (subst (IsSnapshotOf empty_opening s k) (sym is) new)

-- a kept snapshot is that of its number
at-found : (b : Book) (j : List Entry) (x : Snap) (k : ℕ) (r : Reply) → IsBookOf empty_opening b → j ≡ b.journal ++ record { caller = 0; call = LookAt k } ∷ [] → r ≡ Snapshot k → b.oldest ≤ k → k ≤ newest_number b → x ≡ snap_at b k → IsFound (standing empty_opening j) r x
at-found b j x k r of longer reply low high is =
    let s = standing empty_opening b.journal in
    let old = of.oldest_is in
    let n = newest-is empty_opening b of in
    let at : get_or b.kept (k - s.oldest) no_snap ≡ x = ap (λ i. get_or b.kept (k - i) no_snap) (sym old) ∙ sym is in
    found b.journal (standing empty_opening j) k r x (ap (standing empty_opening) longer ∙ (standing-push empty_opening b.journal (record { caller = 0; call = LookAt k }) ∙ after-look_at empty_opening s k)) reply
    (omega (arith, high, n)) of.is
    (subst (IsSnapshotOf empty_opening s k) at (of.each k (omega (arith, low, old)) (omega (arith, high, n))))

pub look_at-found : {A : Type 0} (value : A → Snap) (b : Book) (j : List Entry) (k : ℕ) (r : Reply) (o : Option A) → IsBookOf empty_opening b → j ≡ b.journal ++ record { caller = 0; call = LookAt k } ∷ [] →
    MatchOption o ((n : ℕ) → r ≢ Snapshot n) (λ a. (r ≡ Snapshot k) × (b.oldest ≤ k) × (k ≤ newest_number b) × (value a ≡ snap_at b k)) →
    MatchOption o ((n : ℕ) → r ≢ Snapshot n) (λ a. IsFound (standing empty_opening j) r (value a))
look_at-found value b j k r None of longer h = h
look_at-found value b j k r (Some a) of longer h = at-found b j (value a) k r of longer h.0 h.1 h.2 h.3
