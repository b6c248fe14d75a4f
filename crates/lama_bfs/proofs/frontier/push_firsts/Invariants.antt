use Rattle.std.proofs.Common.{◌≡◌, ◌∷◌, ◌++◌, drop, map}
use Rattle.std.specs.Prelude.{filter}
use Rattle.std.specs.List.{flat_map}
use Rattle.lama_bfs.specs.Frontier.{is_unseen}
use Rattle.lama_bfs.proofs.frontier.push_firsts.Given as goal

abbrev pub invariant-loop-first : goal.invariant-loop-first
invariant-loop-first g l = l.found ++ filter (is_unseen l.seen) (flat_map (λ first. first.0 ∷ map (λ p. p.0) (g.R.Rows.suffix l.rows first.1)) (drop l.first-index l.firsts))
    ≡ l.initial.found ++ filter (is_unseen l.seen) (flat_map (λ first. first.0 ∷ map (λ p. p.0) (g.R.Rows.suffix l.rows first.1)) l.firsts)
