use Rattle.std.proofs.Common.{◌≡◌, ◌∙◌, [], ◌∷◌, ◌+◌, length, map, ap, arith}
use Rattle.std.specs.Arc.{arc_value}
use Rattle.lama_book.proofs.book.Book.new.Goals as goal
use Rattle.lama_snapshot.specs.Snap.{Snap, floor_of}
use Rattle.lama_model.specs.Row.{edges_in}
use Rattle.lama_book.proofs.OpeningLemmas.{new-book, new-whole}

pub returns-clause-book : goal.returns-clause-book
returns-clause-book c = λ o h.
    let x = c.args.opening in
    let here : c.deref-snapshot.result.now ≡ x = c.deref-snapshot.ensures ∙ c.opening.view_is in
    new-book o x c.new.result.items (map arc_value c.in_ok-vec.field-0.items) c.new-2.result.writes c.count-count.result c.edge_count-added.result c.number-oldest.result h
    c.new.ensures.items (ap (map arc_value) c.in_ok-vec.ensures.items ∙ ap (λ y. y ∷ []) c.opening.view_is) c.new-2.ensures
    (c.count-count.ensures.count ∙ ap (λ (s : Snap). length s.rows) here) (c.edge_count-added.ensures.edges ∙ ap (λ (s : Snap). edges_in s.rows) here) (c.number-oldest.ensures.is ∙ ap (λ (s : Snap). s.number) here)

pub invariant_of-result : goal.invariant_of-result
invariant_of-result c =
    let x = c.args.opening in
    let here : c.deref-snapshot.result.now ≡ x = c.deref-snapshot.ensures ∙ c.opening.view_is in
    let e = c.edge_count-added.ensures in
    let n = c.number-oldest.ensures in
    let size = n.changes in
    let is = n.is in
    let changes = ap (λ (s : Snap). length s.changes + floor_of s) here in
    let number = ap (λ (s : Snap). s.number) here in
    let limit = n.limit in
    let rows = ap (λ (s : Snap). length s.rows) here in
    let vertices = e.vertices in
    let edges = ap (λ (s : Snap). edges_in s.rows) here in
    let total = e.edges in
    let few = e.few in
    new-whole x _ c.new.result.items (map arc_value c.in_ok-vec.field-0.items) c.new-2.result.writes c.count-count.result c.edge_count-added.result c.number-oldest.result
    c.new.ensures.items (ap (map arc_value) c.in_ok-vec.ensures.items ∙ ap (λ y. y ∷ []) c.opening.view_is) c.new-2.ensures
    (c.count-count.ensures.count ∙ rows) (total ∙ edges) (is ∙ number)
    (omega (arith, size, is, changes, number)) (omega (arith, is, number, limit)) (omega (arith, rows, vertices)) (omega (arith, edges, total, few))
