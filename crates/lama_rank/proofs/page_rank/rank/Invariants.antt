use Rattle.std.proofs.Common.{◌≡◌, ◌-◌, ◌≤◌}
use Rattle.lama_rank.proofs.Recursion.{shares_at}
use Rattle.lama_rank.proofs.page_rank.rank.Given as goal

abbrev pub invariant-loop-left : goal.invariant-loop-left
invariant-loop-left g l = record {
  within : l.left ≤ l.rounds - 1;
  shares : l.shares.items ≡ shares_at (g.R.Rows.rows l.rows) (l.rounds - 1 - l.left);
}

abbrev pub decreases-loop-left : goal.decreases-loop-left
decreases-loop-left g l = l.left
