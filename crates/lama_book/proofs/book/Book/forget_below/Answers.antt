use Rattle.std.proofs.Common.{◌∙◌, ◌-◌, List, ap, arith, drop, length, subst, sym}
use Rattle.std.specs.Arc.{arc_value}
use Rattle.lama_snapshot.specs.Snap.{Snap}
use Rattle.lama_book.specs.Book.{Book, IsWhole}
use Rattle.lama_book.specs.Shown.{shown}
use Rattle.lama_book.proofs.Retiring.{forgotten-whole, kept-rest}
use Rattle.lama_book.proofs.book.Book.forget_below.Goals as goal

pub invariant_of-self : goal.invariant_of-self
invariant_of-self c =
    let b : Book = shown c.self.inside in
    let t : Book = shown (record { alloc = c.self.inside.alloc; journal = c.self.inside.journal; delta = c.self.inside.delta; kept = c.truncate.new.self; count = c.self.inside.count; added = c.self.inside.added; oldest = c.args.k }) in
    let low = c.requires.low in
    let high = c.requires.high in
    let oldest = ap (λ (x : Book). x.oldest) c.self.view_is in
    let many = ap (λ (x : Book). length x.kept) c.self.view_is in
    let items = c.self.inside.kept.ok.0 in
    let kept = kept-rest arc_value (c.args.k - c.self.inside.oldest) c.self.inside.kept.items c.rotate_left.new.self.items c.truncate.new.self.items _ c.rotate_left.ensures.items c.truncate.ensures.items
    (omega (arith, c.len.ensures, items)) in
    let whole = forgotten-whole b c.args.k c.self.invariant (omega (arith, low, oldest)) (omega (arith, high, oldest, many)) in
    subst (λ ks. (let n : Book = record t { kept = ks } in IsWhole n)) (sym kept) whole

pub returns : goal.returns
returns c =
    let b : Book = shown c.self.inside in
    let items = c.self.inside.kept.ok.0 in
    let kept = kept-rest arc_value (c.args.k - c.self.inside.oldest) c.self.inside.kept.items c.rotate_left.new.self.items c.truncate.new.self.items _ c.rotate_left.ensures.items c.truncate.ensures.items
    (omega (arith, c.len.ensures, items)) in
    ap (λ (ks : List Snap). let n : Book = record b { kept = ks; oldest = c.args.k } in n) kept
    ∙ ap (λ (x : Book). let n : Book = record x { kept = drop (c.args.k - x.oldest) x.kept; oldest = c.args.k } in n) c.self.view_is
