-- One more snapshot is kept.
use Rattle.std.proofs.Common.{◌≡◌, ℕ, ◌-◌, ◌<◌, ◌≤◌, List, [], ◌∷◌, ◌++◌, length, get_or, sym, ap, subst, ◌∙◌, arith, length-append}
use Rattle.std.proofs.Math.Seq.{get_or-append_seam}
use Rattle.std.proofs.lemmas.List.{length_push}
use Rattle.std.proofs.lemmas.List.Elements.{All-nil}
use Rattle.std.proofs.lemmas.Bool.Decides.{nat_tests}
use Rattle.lama_snapshot.specs.Snap.{Snap, no_snap}
use Rattle.lama_model.specs.Graph.{IsNamedBelow}
use Rattle.lama_model.specs.Row.{edges_in}
use Rattle.lama_merge.proofs.Runs.{longer}
use Rattle.lama_book.specs.Book.{Book, newest_number, last_snap, next_change, IsWhole, IsNext, HasNext}
use Rattle.lama_book.specs.Shown.{least}
use Rattle.lama_book.proofs.Calls.{next-fits}

-- where one of two numbers is greater, the smaller of them and a third is no less
pub least-more : (a b c d : ℕ) → b ≤ c → least (least a b) d ≤ least (least a c) d
least-more a b c d le = grind (arith, nat_tests, le)

-- the snapshot that was kept last is the newest
last-is : (ss : List Snap) (s : Snap) → get_or (ss ++ s ∷ []) (length (ss ++ s ∷ []) - 1) no_snap ≡ s
last-is ss s =
    let at : length (ss ++ s ∷ []) - 1 ≡ length ss = omega (arith, length-append ss (s ∷ [])) in
    ap (λ k. get_or (ss ++ s ∷ []) k no_snap) at ∙ get_or-append_seam ss s [] no_snap

-- and the book with it is whole
pub next-whole : (b : Book) (s : Snap) (spare : ℕ) → IsWhole b → IsNext b s → newest_number b < 100000000 → length b.kept < 4096 → (let n : Book = record b { kept = b.kept ++ s ∷ []; pending = []; spare = spare } in IsWhole n)
next-whole b s spare h next few room =
    let n : Book = record b { kept = b.kept ++ s ∷ []; pending = []; spare = spare } in
    let last : last_snap n ≡ s = last-is b.kept s in
    let size = length_push b.kept s in
    let some = h.some_kept in
    let was = h.last in
    let number = next.number in
    let named = ap (λ (x : Snap). x.number) last in
    let grows = ap (λ (x : Snap). length x.rows) last in
    let count = next.count in
    let edges = ap (λ (x : Snap). edges_in x.rows) last in
    let more = next.edges in
    let fewer = h.room in
    record {
      few_calls = h.few_calls;
      some_kept = omega (arith, size);
      few_kept = omega (arith, size, room);
      number = omega (arith, size, few, some);
      few_vertices = h.few_vertices;
      few_added = h.few_added;
      named = All-nil (IsNamedBelow b.count);
      last = omega (arith, named, number, size, some);
      grows = omega (arith, grows, count);
      room = omega (arith, edges, more, fewer);
      run = longer b.kept s (next_change b) some h.run (omega (arith, number, was, some)) next.base next.changes (next-fits b h few) next.count next.rows;
    }

pub next-kept : (old new : Book) (s : Snap) → IsNext old s → new ≡ record old { kept = old.kept ++ s ∷ []; pending = []; spare = new.spare } → old.spare ≤ new.spare → HasNext old new
next-kept old new s is book le =
    let last : last_snap new ≡ s = ap last_snap book ∙ last-is old.kept s in
    record {
      next = subst (IsNext old) (sym last) is;
      book = book ∙ ap (λ x. record old { kept = old.kept ++ x ∷ []; pending = []; spare = new.spare }) (sym last);
      spare = le;
    }
