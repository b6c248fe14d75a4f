use Rattle.std.proofs.Common.{◌≤◌, ◌+◌, length, take}
use Rattle.lama_delta.specs.Seen.{seen_rows}
use Rattle.lama_snapshot.specs.Written.{IsEven, IsWritten, pages_for}
use Rattle.lama_snapshot.proofs.level.write_rows.Given as goal

abbrev pub invariant-loop-row : goal.invariant-loop-row
invariant-loop-row g l = record {
  even : IsEven l.writer;
  written : IsWritten l.number l.initial.edit.items (take l.row-index (seen_rows l.rows)) l.writer.slots l.writer.weights l.edit.items;
  made : l.pages ≤ l.initial.pages + l.row-index + pages_for (length l.writer.slots);
}
