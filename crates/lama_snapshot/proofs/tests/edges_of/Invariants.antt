use Rattle.std.proofs.Common.{length}
use Rattle.lama_snapshot.proofs.tests.edges_of.Given as goal

abbrev pub invariant-loop-target : goal.invariant-loop-target
invariant-loop-target g l = record { place : g.R.Rows.is_place l.rows l.at }

abbrev pub decreases-loop-target : goal.decreases-loop-target
decreases-loop-target g l = length (g.R.Rows.suffix l.rows l.at)
