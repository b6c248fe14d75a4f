use Rattle.std.proofs.Common.{◌≡◌, ◌-◌, ◌≤◌, [], ◌∷◌, ◌++◌, ◌∙◌, List, ap, sym, length, map, subst, arith}
use Rattle.std.specs.Prelude.{vec_capacity}
use Rattle.std.specs.Arc.{arc_value}
use Rattle.std.proofs.lemmas.List.{map_push}
use Rattle.lama_model.specs.declared.calls.Write.{Write}
use Rattle.lama_snapshot.specs.Snap.{Snap}
use Rattle.lama_book.specs.Book.{Book, newest_number, IsWhole, IsNext}
use Rattle.lama_book.specs.Shown.{shown}
use Rattle.lama_book.proofs.Kept.{least-more, next-kept, next-whole}
use Rattle.lama_book.proofs.book.Book.keep_next.Goals as goal

pub returns-clause-next : goal.returns-clause-next
returns-clause-next g c =
    let old : Book = c.args.self.now in
    let new : Book = shown (record { alloc = c.self.inside.alloc; journal = c.self.inside.journal; delta = c.clear.new.self; kept = c.push.new.self; count = c.self.inside.count; added = c.self.inside.added; oldest = c.self.inside.oldest }) in
    let next = c.in_ok-next.next in
    let kept : new.kept ≡ (shown c.self.inside).kept ++ next ∷ [] =
    ap (map arc_value) c.in_ok-push.ensures.items ∙ map_push arc_value c.self.inside.kept.items c.in_ok-next-2.next
    ∙ ap (λ s. (shown c.self.inside).kept ++ s ∷ []) c.in_ok-next-2.ensures.ok in
    let book : new ≡ record (shown c.self.inside) { kept = (shown c.self.inside).kept ++ next ∷ []; pending = []; spare = new.spare } =
    λ j. record (shown c.self.inside) { kept = kept j; pending = c.clear.ensures.writes j; spare = new.spare } in
    next-kept old new next c.in_ok-next.ensures.next
    (book ∙ ap (λ (b : Book). record b { kept = b.kept ++ next ∷ []; pending = []; spare = new.spare }) c.self.view_is)
    (subst (λ (b : Book). b.spare ≤ new.spare) c.self.view_is
    (least-more (vec_capacity c.self.inside.journal - length c.self.inside.journal.items) c.self.inside.delta.spare c.clear.new.self.spare 4194304 c.clear.ensures.no_less))

pub invariant_of-self-2 : goal.invariant_of-self-2
invariant_of-self-2 g c =
    let b : Book = shown c.self.inside in
    let new : Book = shown (record { alloc = c.self.inside.alloc; journal = c.self.inside.journal; delta = c.clear.new.self; kept = c.push.new.self; count = c.self.inside.count; added = c.self.inside.added; oldest = c.self.inside.oldest }) in
    let next = c.in_ok-next.next in
    let kept : new.kept ≡ b.kept ++ next ∷ [] =
    ap (map arc_value) c.in_ok-push.ensures.items ∙ map_push arc_value c.self.inside.kept.items c.in_ok-next-2.next
    ∙ ap (λ s. b.kept ++ s ∷ []) c.in_ok-next-2.ensures.ok in
    let few = c.requires.number in
    let room = c.requires.kept in
    let n = ap newest_number c.self.view_is in
    let size = ap (λ (x : Book). length x.kept) c.self.view_is in
    let P : List Snap × List Write → Type 0 = λ p. (let r : Book = record new { kept = p.0; pending = p.1 } in IsWhole r) in
    subst P (λ j. (sym kept j, sym c.clear.ensures.writes j)) (next-whole b next new.spare c.self.invariant (subst (λ (x : Book). IsNext x next) (sym c.self.view_is) c.in_ok-next.ensures.next) (omega (arith, few, n)) (omega (arith, room, size)))
