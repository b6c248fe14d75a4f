use Rattle.std.proofs.Common.{◌≡◌, ◌∷◌, ◌++◌, length, map}
use Rattle.std.specs.Prelude.{filter}
use Rattle.lama_bfs.specs.Frontier.{is_unseen}
use Rattle.lama_bfs.proofs.frontier.push_first.Given as goal

abbrev pub invariant-loop-target : goal.invariant-loop-target
invariant-loop-target g l = record {
  place : g.R.Rows.is_place l.rows l.at;
  left : l.found ++ filter (is_unseen l.seen) (map (λ p. p.0) (g.R.Rows.suffix l.rows l.at))
      ≡ l.fn.found ++ filter (is_unseen l.seen) (l.first ∷ map (λ p. p.0) (g.R.Rows.suffix l.rows l.fn.rest));
}

abbrev pub decreases-loop-target : goal.decreases-loop-target
decreases-loop-target g l = length (g.R.Rows.suffix l.rows l.at)
