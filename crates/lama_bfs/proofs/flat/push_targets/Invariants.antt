use Rattle.std.proofs.Common.{◌≡◌, ◌++◌, length}
use Rattle.lama_model.specs.Row.{row_at}
use Rattle.lama_bfs.specs.Flat.{firsts}
use Rattle.lama_bfs.proofs.flat.push_targets.Given as goal

abbrev pub invariant-loop-target : goal.invariant-loop-target
invariant-loop-target g l = record {
  place : g.R.Rows.is_place l.rows l.at;
  left : l.targets.items ++ firsts (g.R.Rows.suffix l.rows l.at) ≡ l.initial.targets.items ++ firsts (row_at (g.R.Rows.rows l.rows) l.u);
}

abbrev pub decreases-loop-target : goal.decreases-loop-target
decreases-loop-target g l = length (g.R.Rows.suffix l.rows l.at)
