use Rattle.std.proofs.Common.{◌≡◌, length, map}
use Rattle.lama_bfs.specs.Frontier.{see_all}
use Rattle.lama_bfs.proofs.frontier.Search.mark_rest.Given as goal

abbrev pub invariant-loop-target : goal.invariant-loop-target
invariant-loop-target g l = record {
  place : g.R.Rows.is_place l.rows l.at;
  left : see_all (map (λ p. p.0) (g.R.Rows.suffix l.rows l.at)) (l.self.seen.items, l.self.next)
      ≡ see_all (map (λ p. p.0) (g.R.Rows.suffix l.rows l.fn.start)) (l.initial.self.seen.items, l.initial.self.next);
}

abbrev pub decreases-loop-target : goal.decreases-loop-target
decreases-loop-target g l = length (g.R.Rows.suffix l.rows l.at)
