use Rattle.std.proofs.Common.{◌≡◌, ◌≤◌, ◌-◌, ◌++◌, drop, length}
use Rattle.lama_bfs.specs.Frontier.{new_targets}
use Rattle.lama_bfs.proofs.frontier.new_flat_targets.Given as goal

abbrev pub invariant-loop-start : goal.invariant-loop-start
invariant-loop-start g l = record {
  within : l.start ≤ length l.us;
  left : l.found ++ new_targets (g.R.Rows.rows l.rows) l.seen (drop l.start l.us) ≡ new_targets (g.R.Rows.rows l.rows) l.seen l.us;
}

abbrev pub decreases-loop-start : goal.decreases-loop-start
decreases-loop-start g l = length l.us - l.start
