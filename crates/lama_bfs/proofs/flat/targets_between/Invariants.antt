use Rattle.std.proofs.Common.{◌≡◌, ◌-◌, ◌++◌}
use Rattle.std.specs.List.{range_with_len}
use Rattle.lama_bfs.specs.Frontier.{targets_of}
use Rattle.lama_bfs.proofs.flat.targets_between.Given as goal

abbrev pub invariant-loop-u : goal.invariant-loop-u
invariant-loop-u g l = l.targets.items ++ targets_of (g.R.Rows.rows l.rows) (range_with_len l.u (l.end - l.u))
    ≡ targets_of (g.R.Rows.rows l.rows) (range_with_len l.start (l.end - l.start))
