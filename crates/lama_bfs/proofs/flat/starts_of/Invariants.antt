use Rattle.std.proofs.Common.{◌≡◌, ◌+◌, map}
use Rattle.std.specs.List.{range_with_len}
use Rattle.lama_bfs.specs.Flat.{edges_below}
use Rattle.lama_bfs.proofs.flat.starts_of.Given as goal

abbrev pub invariant-loop-u : goal.invariant-loop-u
invariant-loop-u g l = record {
  end : l.end ≡ edges_below (g.R.Rows.rows l.rows) l.u;
  starts : l.starts.items ≡ map (edges_below (g.R.Rows.rows l.rows)) (range_with_len 0 (l.u + 1));
}
