use Rattle.std.proofs.Common.{◌≡◌, ◌≤◌, ◌-◌, [], ◌∷◌, length, map}
use Rattle.std.specs.Prelude.{is_some}
use Rattle.lama_bfs.specs.Frontier.{IsRound}
use Rattle.lama_bfs.proofs.frontier.Search.follow.Given as goal

abbrev pub invariant-loop-v : goal.invariant-loop-v
invariant-loop-v g l = record {
  round : IsRound (g.R.Rows.rows l.rows) l.source l.level l.levels.items (l.u ∷ []);
  seen : l.self.seen.items ≡ map is_some l.levels.items;
  on : l.from ≤ l.level;
}

abbrev pub decreases-loop-v : goal.decreases-loop-v
decreases-loop-v g l = length (g.R.Rows.rows l.rows) - l.level
