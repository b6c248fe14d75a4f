use Rattle.std.proofs.Common.{◌≡◌, length, take}
use Rattle.std.specs.Prelude.{sum_by}
use Rattle.lama_model.specs.Change.{RowChange}
use Rattle.lama_delta.specs.Seen.{seen_rows}
use Rattle.lama_snapshot.proofs.apply.edges_of.Given as goal

abbrev pub invariant-loop-row : goal.invariant-loop-row
invariant-loop-row l = record {
  added : sum_by (λ (r : RowChange). length r.added) (take l.row-index (seen_rows l.rows)) ≡ l.added;
  killed : sum_by (λ (r : RowChange). length r.killed) (take l.row-index (seen_rows l.rows)) ≡ l.killed;
}
