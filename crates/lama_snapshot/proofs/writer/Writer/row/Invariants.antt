use Rattle.std.proofs.Common.{◌≡◌, ◌+◌, ◌*◌, ◌/◌, ◌++◌, length, map}
use Rattle.lama_edges.specs.declared.records.Slot.TheVariants.{Edge}
use Rattle.lama_model.specs.Row.{row_at}
use Rattle.lama_snapshot.specs.Written.{IsEven}
use Rattle.lama_snapshot.proofs.writer.Writer.row.Given as goal

abbrev pub invariant-loop-target : goal.invariant-loop-target
invariant-loop-target g l = record {
  place : g.R.Rows.is_place l.rows l.at;
  slots : l.self.slots ++ map (λ p. Edge p.0) (g.R.Rows.suffix l.rows l.at) ≡ l.initial.self.slots ++ map (λ p. Edge p.0) (row_at (g.R.Rows.rows l.rows) l.v);
  weights : l.self.weights ++ map (λ p. p.1) (g.R.Rows.suffix l.rows l.at) ≡ l.initial.self.weights ++ map (λ p. p.1) (row_at (g.R.Rows.rows l.rows) l.v);
  even : IsEven l.self;
  count : length l.self.slots + length (g.R.Rows.suffix l.rows l.at) ≡ length l.initial.self.slots + length (row_at (g.R.Rows.rows l.rows) l.v);
  len : l.len + length (g.R.Rows.suffix l.rows l.at) ≡ length (row_at (g.R.Rows.rows l.rows) l.v);
  made : l.pages + 2 * ((length l.initial.self.slots + 255) / 256) ≡ l.initial.pages + 2 * ((length l.self.slots + 255) / 256);
}

abbrev pub decreases-loop-target : goal.decreases-loop-target
decreases-loop-target g l = length (g.R.Rows.suffix l.rows l.at)
