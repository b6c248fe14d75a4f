use Rattle.std.proofs.Common.{◌≡◌, ap, subst, arith}
use Rattle.std.specs.Arc.{arc_value}
use Rattle.lama_book.specs.Book.{Book, IsWhole}
use Rattle.lama_book.proofs.Calls.{next-from, next-fits-from, read-last, made-change}
use Rattle.lama_book.proofs.book.Book.next_snapshot.Goals as goal
use Rattle.lama_book.specs.Book.{last_snap, next_change}

pub apply-requires : goal.apply-requires
apply-requires g c =
    let b : Book = c.args.self.now in
    let whole : IsWhole b = subst IsWhole c.self.view_is c.self.invariant in
    let last : c.deref-last.result.now ≡ last_snap b = read-last c.self.inside.kept.items b c.len.result c.index.result.now c.deref-last.result.now (ap (λ (x : Book). x.kept) c.self.view_is) (let l = c.len.ensures in omega (arith, l)) whole.some_kept c.index.ensures c.deref-last.ensures in
    let change : arc_value c.in_ok-new.field-0 ≡ next_change b = made-change b c.deref-last.result.now (arc_value c.in_ok-new.field-0) c.in_ok-change.change c.self.inside.delta.writes c.newest-number.result c.self.inside.count last c.in_ok-new.ensures.ok c.in_ok-change.ensures (ap (λ (x : Book). x.pending) c.self.view_is) c.newest-number.ensures (ap (λ (x : Book). x.count) c.self.view_is) in
    next-fits-from b c.deref-last.result.now (arc_value c.in_ok-new.field-0) whole c.requires last change

pub returns-clause-next : goal.returns-clause-next
returns-clause-next g c =
    let b : Book = c.args.self.now in
    let whole : IsWhole b = subst IsWhole c.self.view_is c.self.invariant in
    let last : c.deref-last.result.now ≡ last_snap b = read-last c.self.inside.kept.items b c.len.result c.index.result.now c.deref-last.result.now (ap (λ (x : Book). x.kept) c.self.view_is) (let l = c.len.ensures in omega (arith, l)) whole.some_kept c.index.ensures c.deref-last.ensures in
    let change : arc_value c.in_ok-new.field-0 ≡ next_change b = made-change b c.deref-last.result.now (arc_value c.in_ok-new.field-0) c.in_ok-change.change c.self.inside.delta.writes c.newest-number.result c.self.inside.count last c.in_ok-new.ensures.ok c.in_ok-change.ensures (ap (λ (x : Book). x.pending) c.self.view_is) c.newest-number.ensures (ap (λ (x : Book). x.count) c.self.view_is) in
    let e = c.in_ok-next.ensures in
    next-from b c.in_ok-next.next c.deref-last.result.now (arc_value c.in_ok-new.field-0) last change (record { number = e.number; count = e.count; rows = e.rows; base = e.base; changes = e.changes; edges = e.edges })
