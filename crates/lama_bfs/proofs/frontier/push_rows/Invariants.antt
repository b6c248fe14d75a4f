use Rattle.std.proofs.Common.{◌≡◌, ◌++◌, drop}
use Rattle.lama_bfs.specs.Frontier.{new_targets}
use Rattle.lama_bfs.proofs.frontier.push_rows.Given as goal

abbrev pub invariant-loop-u : goal.invariant-loop-u
invariant-loop-u g l = l.found ++ new_targets (g.R.Rows.rows l.rows) l.seen (drop l.u-index l.us) ≡ l.initial.found ++ new_targets (g.R.Rows.rows l.rows) l.seen l.us
