use Rattle.std.proofs.Common.{◌≡◌, ◌≤◌, ◌-◌, drop, length}
use Rattle.lama_bfs.specs.Frontier.{targets_of, see_all}
use Rattle.lama_bfs.proofs.frontier.Search.expand_flat_ahead.Given as goal

abbrev pub invariant-loop-start : goal.invariant-loop-start
invariant-loop-start g l = record {
  within : l.start ≤ length l.us;
  left : see_all (targets_of (g.R.Rows.rows l.rows) (drop l.start l.us)) (l.self.seen.items, l.self.next)
      ≡ see_all (targets_of (g.R.Rows.rows l.rows) l.us) (l.initial.self.seen.items, l.initial.self.next);
}

abbrev pub decreases-loop-start : goal.decreases-loop-start
decreases-loop-start g l = length l.us - l.start
