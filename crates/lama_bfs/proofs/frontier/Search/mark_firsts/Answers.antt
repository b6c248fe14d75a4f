use Rattle.std.proofs.Common.{◌∙◌, ◌+◌, ◌∷◌, ap, drop, map, sym}
use Rattle.std.specs.List.{flat_map}
use Rattle.std.proofs.lemmas.List.{drop_more}
use Rattle.lama_bfs.specs.Frontier.{see_all}
use Rattle.lama_bfs.proofs.Seen.{Seen, see-append}
use Rattle.lama_bfs.proofs.frontier.Search.mark_firsts.Goals as goal

pub loop-first-preserved : goal.loop-first-preserved
loop-first-preserved g c =
    let fs = c.args.firsts.now in
    let i = c.loop-first.first-index in
    let f = c.loop-first-item.result in
    let s : Seen = (c.loop-first.self.seen.items, c.loop-first.self.next) in
    let rest = flat_map (λ first. first.0 ∷ map (λ p. p.0) (g.R.Rows.suffix c.args.rows.now first.1)) (drop (i + 1) fs) in
    ap (see_all rest) c.in_ok-mark_first.ensures
    ∙ (sym (see-append (f.0 ∷ map (λ p. p.0) (g.R.Rows.suffix c.args.rows.now f.1)) rest s)
    ∙ (sym (ap (λ l. see_all (flat_map (λ first. first.0 ∷ map (λ p. p.0) (g.R.Rows.suffix c.args.rows.now first.1)) l) s) (drop_more fs i f c.loop-first-test.true ∙ ap (λ q. q ∷ drop (i + 1) fs) (sym c.loop-first-item.is)))
    ∙ c.loop-first.invariant))
