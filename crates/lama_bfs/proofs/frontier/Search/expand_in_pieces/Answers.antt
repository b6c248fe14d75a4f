use Rattle.std.proofs.Common.{◌≡◌, ◌∙◌, ◌+◌, [], ◌∷◌, ap, arith, drop, sym}
use Rattle.std.specs.List.{flat_map}
use Rattle.std.proofs.lemmas.List.{drop_all, drop_more}
use Rattle.lama_bfs.specs.Frontier.{targets_of, new_targets, see_all}
use Rattle.lama_bfs.proofs.Seen.{Seen, see-append, skip-new}
use Rattle.lama_bfs.proofs.frontier.Search.expand_in_pieces.Goals as goal

pub loop-piece-preserved : goal.loop-piece-preserved
loop-piece-preserved g c =
    let ps = c.deref-piece-items.result.now in
    let i = c.loop-piece.piece-index in
    let p = c.piece-item.result in
    let s : Seen = (c.loop-piece.self.seen.items, c.loop-piece.self.next) in
    let rest = flat_map (λ p. p) (drop (i + 1) ps) in
    ap (see_all rest) (c.in_ok-mark_list.ensures ∙ ap (λ l. see_all l s) c.as_slice.ensures)
    ∙ (sym (see-append p rest s)
    ∙ (sym (ap (λ l. see_all (flat_map (λ p. p) l) s) (drop_more ps i p c.loop-piece-test.true ∙ ap (λ q. q ∷ drop (i + 1) ps) (sym c.piece-item.is)))
    ∙ c.loop-piece.invariant))

pub returns : goal.returns
returns g c =
    let rows = g.R.Rows.rows c.args.rows.now in
    let seen = c.args.self.now.seen.items in
    let next = c.args.self.now.next in
    let us = c.args.us.now in
    let ps = c.deref-piece-items.result.now in
    let s : Seen = (c.loop-piece.self.seen.items, c.loop-piece.self.next) in
    let none : drop c.loop-piece.piece-index ps ≡ [] = drop_all c.loop-piece.piece-index ps (omega (arith, c.loop-piece-test.false)) in
    sym (ap (λ l. see_all (flat_map (λ p. p) l) s) none)
    ∙ (c.loop-piece.invariant
    ∙ (ap (λ vs. see_all vs (seen, next)) (ap (flat_map (λ p. p)) c.deref-piece-items.ensures.value ∙ (c.in_ok-pieces.ensures ∙ ap (λ seen. new_targets rows seen us) c.deref.ensures.value))
    ∙ skip-new seen (targets_of rows us) next))
