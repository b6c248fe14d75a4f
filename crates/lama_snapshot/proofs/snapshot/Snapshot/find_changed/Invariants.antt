use Rattle.std.proofs.Common.{◌≡◌, take}
use Rattle.lama_delta.specs.Seen.{seen_rows}
use Rattle.lama_snapshot.specs.Found.{killed_slots, set_slots}
use Rattle.lama_snapshot.proofs.snapshot.Snapshot.find_changed.Given as goal

abbrev pub invariant-loop-row : goal.invariant-loop-row
invariant-loop-row l = record {
  killed : l.found.killed.items ≡ killed_slots l.self (take l.row-index (seen_rows l.rows));
  set : l.found.set.items ≡ set_slots l.self (take l.row-index (seen_rows l.rows));
}
