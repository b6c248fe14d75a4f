use Rattle.std.proofs.Common.{take}
use Rattle.std.specs.Prelude.{All}
use Rattle.lama_model.specs.Fits.{HasIndexes}
use Rattle.lama_delta.specs.Seen.{seen_rows}
use Rattle.lama_snapshot.proofs.snapshot.Snapshot.have_indexes.Given as goal

abbrev pub invariant-loop-row : goal.invariant-loop-row
invariant-loop-row l = All (HasIndexes l.self.rows) (take l.row-index (seen_rows l.rows))
