use Rattle.std.proofs.Common.{◌≡◌, ◌∷◌, drop, map}
use Rattle.std.specs.List.{flat_map}
use Rattle.lama_bfs.specs.Frontier.{see_all}
use Rattle.lama_bfs.proofs.frontier.Search.mark_firsts.Given as goal

abbrev pub invariant-loop-first : goal.invariant-loop-first
invariant-loop-first g l = see_all (flat_map (λ first. first.0 ∷ map (λ p. p.0) (g.R.Rows.suffix l.rows first.1)) (drop l.first-index l.firsts)) (l.self.seen.items, l.self.next)
    ≡ see_all (flat_map (λ first. first.0 ∷ map (λ p. p.0) (g.R.Rows.suffix l.rows first.1)) l.firsts) (l.initial.self.seen.items, l.initial.self.next)
