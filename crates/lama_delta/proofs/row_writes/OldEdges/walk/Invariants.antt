use Rattle.std.proofs.Common.{◌≡◌, ◌≤◌, ◌-◌, ◌++◌, length}
use Rattle.std.specs.Ordering.{nat_cmp}
use Rattle.std.specs.BTreeMap.{get}
use Rattle.lama_model.specs.Row.{row_at}
use Rattle.lama_delta.specs.RowWrites.{gone_from, set_from}
use Rattle.lama_delta.proofs.row_writes.OldEdges.walk.Given as goal

abbrev pub invariant-loop-target : goal.invariant-loop-target
invariant-loop-target g l = record {
  place : g.R.Rows.is_place l.rows l.at;
  degree : l.degree ≡ length (row_at (g.R.Rows.rows l.rows) l.source);
  left : length (g.R.Rows.suffix l.rows l.at) ≡ l.left;
  within : l.left ≤ l.degree;
  killed : l.self.killed.items ++ gone_from (l.degree - l.left) (get nat_cmp l.fates) (g.R.Rows.suffix l.rows l.at) ≡ l.initial.self.killed.items ++ gone_from 0 (get nat_cmp l.fates) (row_at (g.R.Rows.rows l.rows) l.source);
  set : l.self.set.items ++ set_from (l.degree - l.left) (get nat_cmp l.fates) (g.R.Rows.suffix l.rows l.at) ≡ l.initial.self.set.items ++ set_from 0 (get nat_cmp l.fates) (row_at (g.R.Rows.rows l.rows) l.source);
}

abbrev pub decreases-loop-target : goal.decreases-loop-target
decreases-loop-target g l = length (g.R.Rows.suffix l.rows l.at)
