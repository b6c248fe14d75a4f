use Rattle.std.proofs.Common.{◌≡◌, ◌++◌, ◌-◌}
use Rattle.std.specs.List.{range_with_len}
use Rattle.lama_model.specs.Row.{edges_from}
use Rattle.lama_model.proofs.edge_pairs.edges_between.Given as goal

abbrev pub invariant-loop-u : goal.invariant-loop-u
invariant-loop-u g l = l.found.items ++ edges_from (g.R.Rows.rows l.rows) (range_with_len l.u (l.end - l.u))
    ≡ edges_from (g.R.Rows.rows l.rows) (range_with_len l.start (l.end - l.start))
