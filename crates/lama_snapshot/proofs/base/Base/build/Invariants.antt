use Rattle.std.proofs.Common.{◌≡◌, ◌+◌, ◌*◌, ◌/◌, length, take}
use Rattle.lama_snapshot.specs.Written.{IsEven}
use Rattle.lama_snapshot.specs.BaseRows.{base_slots, base_weights, base_records}
use Rattle.lama_snapshot.proofs.base.Base.build.Given as goal

abbrev pub invariant-loop-v : goal.invariant-loop-v
invariant-loop-v g l = record {
  even : IsEven l.writer;
  slots : l.writer.slots ≡ base_slots (take l.v (g.R.Rows.rows l.rows));
  weights : l.writer.weights ≡ base_weights (take l.v (g.R.Rows.rows l.rows));
  records : l.vertices ≡ base_records l.number 0 (take l.v (g.R.Rows.rows l.rows));
  made : l.pages ≡ l.initial.pages + 2 * ((length l.writer.slots + 255) / 256) + (l.v + 255) / 256;
}
