use Rattle.std.proofs.Common.{◌≡◌, ◌∙◌, length, map, refl, ap, sym, subst, arith}
use Rattle.std.specs.Arc.{arc_value}
use Rattle.std.proofs.lemmas.List.{length-map}
use Rattle.lama_merge.specs.Rebase.{snap_of, IsAmong, IsRebased}
use Rattle.lama_book.specs.Book.{Book, IsWhole, IsOnto}
use Rattle.lama_book.specs.Shown.{shown}
use Rattle.lama_book.proofs.Installing.{is-among, onto-whole}
use Rattle.lama_book.proofs.book.Book.put_onto.Given as given
use Rattle.lama_book.proofs.book.Book.put_onto.Goals as goal

pub rebase-requires-clause-among : goal.rebase-requires-clause-among
rebase-requires-clause-among g c =
    let m = arc_value c.args.merged.now in
    let whole : IsWhole c.args.self.now = subst IsWhole c.self.view_is c.self.invariant in
    let kept : c.args.self.now.kept ≡ map arc_value c.deref.result.now = sym (ap (λ (x : Book). x.kept) c.self.view_is) ∙ ap (map arc_value) (sym c.deref.ensures.value) in
    subst (IsAmong m) kept (is-among c.args.self.now m whole c.requires.low c.requires.high c.requires.rows)

-- the fields with the new snapshots
onto-here : (g : given.Over) (c : goal.After-drop-self-inside g) → (let i = c.self.inside in IsOnto (shown i) (shown (record { alloc = i.alloc; journal = i.journal; delta = i.delta; kept = c.in_ok-self-inside.field-0; count = i.count; added = i.added; oldest = i.oldest })) (arc_value c.args.merged.now))
onto-here g c =
    let value = c.deref.ensures.value in
    let new = c.in_ok-self-inside.field-0.items in
    let a = length-map new arc_value in
    let b = length-map c.self.inside.kept.items arc_value in
    let len = c.in_ok-self-inside.ensures.len in
    let old = ap length value in
    record {
      book = refl;
      len = omega (arith, a, b, len, old);
      each = λ i lt. subst (λ xs. IsRebased (arc_value c.args.merged.now) (snap_of (map arc_value xs) i) (snap_of (map arc_value new) i)) value (c.in_ok-self-inside.ensures.each i (omega (arith, lt, b, old)));
    }

pub invariant_of-self : goal.invariant_of-self
invariant_of-self g c = onto-whole _ _ (arc_value c.args.merged.now) (onto-here g c) c.self.invariant

pub returns-clause-onto : goal.returns-clause-onto
returns-clause-onto g c =
    let i = c.self.inside in
    let new : Book = shown (record { alloc = i.alloc; journal = i.journal; delta = i.delta; kept = c.in_ok-self-inside.field-0; count = i.count; added = i.added; oldest = i.oldest }) in
    subst (λ (b : Book). IsOnto b new (arc_value c.args.merged.now)) c.self.view_is (onto-here g c)
