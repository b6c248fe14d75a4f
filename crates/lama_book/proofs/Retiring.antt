-- A retirement: what is answered, and what is kept after it.
use Rattle.std.proofs.Common.{◌≡◌, ◌∙◌, ℕ, ◌+◌, ◌-◌, ◌<◌, ◌≤◌, List, [], ◌∷◌, ◌++◌, length, get_or, map, drop, take, max, refl, sym, ap, subst, arith}
use Rattle.std.proofs.Math.Seq.{take-append_seam}
use Rattle.std.proofs.lemmas.List.{length-drop, get_or-drop, drop-map}
use Rattle.std.specs.Prelude.{sum_by}
use Rattle.lama_model.specs.Row.{edges_in}
use Rattle.lama_model.specs.Opening.{Opening}
use Rattle.lama_model.specs.Journal.{Standing, newest_of, is_accepted, edges_added, standing, done, after}
use Rattle.lama_model.specs.declared.calls.Call.TheVariants.{Retire}
use Rattle.lama_model.specs.declared.calls.Entry.{Entry}
use Rattle.lama_model.proofs.StandingLemmas.{standing-push, is_standing}
use Rattle.lama_model.proofs.JournalLaws.{extends-done}
use Rattle.lama_snapshot.specs.Snap.{Snap, no_snap}
use Rattle.lama_book.specs.Book.{Book, newest_number, last_snap, IsWhole, HasEntry, IsForgotten, HasRetired}
use Rattle.lama_book.specs.Relation.{IsSnapshotOf, Agrees, IsBookOf}
use Rattle.lama_merge.proofs.Runs.{rest}
use Rattle.lama_book.proofs.Answering.{answers-reply}
use Rattle.lama_book.proofs.Keeping.{snapshot-extends, after-accepted}
use Rattle.lama_book.proofs.Calls.{retire-found}

-- of those that stay the last one is the newest still
last-drop : (n : ℕ) (xs : List Snap) → n < length xs → get_or (drop n xs) (length (drop n xs) - 1) no_snap ≡ get_or xs (length xs - 1) no_snap
last-drop n xs lt =
    let size = length-drop n xs in
    get_or-drop n xs (length (drop n xs) - 1) no_snap ∙ ap (λ i. get_or xs i no_snap) (let e : n + (length (drop n xs) - 1) ≡ length xs - 1 = omega (arith, size, lt) in e)

pub forgotten-whole : (b : Book) (k : ℕ) → IsWhole b → b.oldest ≤ k → k ≤ newest_number b → (let n : Book = record b { kept = drop (k - b.oldest) b.kept; oldest = k } in IsWhole n)
forgotten-whole b k h low high =
    let some = h.some_kept in
    let size = length-drop (k - b.oldest) b.kept in
    let few = h.few_kept in
    let number = h.number in
    let last = last-drop (k - b.oldest) b.kept (omega (arith, low, high, some)) in
    let was = h.last in
    let same : (let n : Book = record b { kept = drop (k - b.oldest) b.kept; oldest = k } in last_snap n) ≡ last_snap b = last in
    record {
      few_calls = h.few_calls;
      some_kept = omega (arith, size, low, high, some);
      few_kept = omega (arith, size, few);
      number = omega (arith, size, number, low, high, some);
      few_vertices = h.few_vertices;
      few_added = h.few_added;
      named = h.named;
      last = subst (λ (x : Snap). x.number + 1 ≡ k + length (drop (k - b.oldest) b.kept)) (sym same) (omega (arith, was, size, low, high, some));
      grows = subst (λ (x : Snap). length x.rows ≤ b.count) (sym same) h.grows;
      room = subst (λ (x : Snap). edges_in x.rows + sum_by edges_added b.pending ≤ b.added) (sym same) h.room;
      run = rest b.kept (k - b.oldest) (omega (arith, low, high, some)) h.run;
    }

-- the snapshots that go, and then the entry
pub forgotten-entry : (a b c : Book) (k : ℕ) (e : Entry) → IsForgotten a b k → HasEntry b c e → HasRetired a c k e
forgotten-entry a b c k e f h =
    let s = h.spare in
    let same = ap (λ (x : Book). x.spare) f in
    record {
      book = h.book ∙ ap (λ (z : Book). let r : Book = record z { journal = z.journal ++ e ∷ []; spare = c.spare } in r) f;
      spare = omega (arith, s, same);
    }

-- what is kept are the snapshots of their numbers still
pub retire-stays : (o : Opening) (b b' : Book) (k : ℕ) (e : Entry) → HasRetired b b' k e → e.call ≡ Retire k → b.oldest ≤ k → k ≤ newest_number b → IsBookOf o b → IsBookOf o b'
retire-stays o b b' k e h call low high of =
    subst (IsBookOf o) (sym h.book)
    (subst (λ t. Agrees o t (drop (k - b.oldest) b.kept) b.pending b.count b.added k) (sym becomes) (record {
      is = of.is;
      pending_is = of.pending_is;
      count_is = of.count_is;
      added_is = of.added_is;
      oldest_is = let was = of.oldest_is in omega (arith, was, low);
      numbers = let size = length-drop (k - b.oldest) b.kept in let numbers = of.numbers in omega (arith, size, numbers, low, high);
      each = λ j from upto. at j from upto;
    }))
  where
    s : Standing
    s = standing o b.journal

    becomes : standing o (b.journal ++ e ∷ []) ≡ done (Retire k) s
    becomes = standing-push o b.journal e ∙ (ap (after o s) call ∙ after-accepted o s (Retire k) (ap is_accepted (sym (answers-reply o b of (Retire k)) ∙ retire-found b k low high)))

    at : (j : ℕ) → max s.oldest k ≤ j → j ≤ newest_of o s → IsSnapshotOf o (done (Retire k) s) j (get_or (drop (k - b.oldest) b.kept) (j - max s.oldest k) no_snap)
    at j from upto =
        let was = of.oldest_is in
        let here : get_or b.kept (j - s.oldest) no_snap ≡ get_or (drop (k - b.oldest) b.kept) (j - max s.oldest k) no_snap =
        ap (λ i. get_or b.kept i no_snap) (let e : j - s.oldest ≡ k - b.oldest + (j - max s.oldest k) = omega (arith, was, low, from) in e)
        ∙ sym (get_or-drop (k - b.oldest) b.kept (j - max s.oldest k) no_snap) in
        subst (IsSnapshotOf o (done (Retire k) s) j) here
        (snapshot-extends o s (done (Retire k) s) j (get_or b.kept (j - s.oldest) no_snap) (extends-done o s (Retire k)) (is_standing o of.is b.journal).written refl upto
        (of.each j (omega (arith, from)) upto))

-- what is left of a list that was turned round by so many and cut
pub kept-rest : {X Y : Type 0} (f : X → Y) (gone : ℕ) (xs turned rest : List X) (stay : ℕ) → turned ≡ drop gone xs ++ take gone xs → rest ≡ take stay turned → stay ≡ length xs - gone
    → map f rest ≡ drop gone (map f xs)
kept-rest f gone xs turned rest stay turn cut size =
    let n : stay ≡ length (drop gone xs) = size ∙ sym (length-drop gone xs) in
    ap (map f) (cut ∙ ((λ j. take (n j) (turn j)) ∙ take-append_seam (drop gone xs) (take gone xs))) ∙ sym (drop-map f gone xs)
