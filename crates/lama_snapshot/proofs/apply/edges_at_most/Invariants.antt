use Rattle.std.proofs.Common.{◌≡◌, ◌≤◌, ◌+◌, length, take}
use Rattle.std.specs.Prelude.{sum_by}
use Rattle.lama_model.specs.Change.{RowChange}
use Rattle.lama_delta.specs.Seen.{seen_rows}
use Rattle.lama_snapshot.proofs.apply.edges_at_most.Given as goal

abbrev pub invariant-loop-row : goal.invariant-loop-row
invariant-loop-row l = record {
  total : sum_by (λ (r : RowChange). length r.added + length r.killed + length r.set) (take l.row-index (seen_rows l.rows)) ≡ l.total;
  within : l.total ≤ l.most;
}
