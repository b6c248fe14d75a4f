use Rattle.std.proofs.Common.{length, ◌-◌}
use Rattle.lama_delta.specs.Seen.{seen_rows}
use Rattle.lama_delta.specs.RowWrites.{change_at}
use Rattle.lama_delta.proofs.Groups.{Grouped}
use Rattle.lama_delta.proofs.grouping.group_by_source.Given as goal

abbrev pub invariant-loop-start : goal.invariant-loop-start
invariant-loop-start g l = Grouped (change_at (g.R.Rows.rows l.rows) l.writes) l.writes l.start (seen_rows l.changes.items)

abbrev pub decreases-loop-start : goal.decreases-loop-start
decreases-loop-start g l = length l.writes - l.start
