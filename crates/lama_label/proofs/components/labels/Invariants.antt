use Rattle.std.proofs.Common.{◌≡◌, ◌+◌, length, cond, false}
use Rattle.std.specs.Prelude.{sum}
use Rattle.std.specs.List.{range_with_len}
use Rattle.lama_model.specs.Row.{graph_of_rows}
use Rattle.lama_model.specs.Row.{edges_from}
use Rattle.lama_label.specs.Lowering.{AreLow, AreSettled}
use Rattle.lama_label.proofs.components.labels.Given as goal

abbrev pub invariant-loop-changed : goal.invariant-loop-changed
invariant-loop-changed g l = record {
  low : AreLow (graph_of_rows (g.R.Rows.rows l.rows)) l.labels.items;
  total : l.sum ≡ sum l.labels.items;
  settled : l.changed ≡ false → AreSettled (edges_from (g.R.Rows.rows l.rows) (range_with_len 0 (length (g.R.Rows.rows l.rows)))) l.labels.items;
}

abbrev pub decreases-loop-changed : goal.decreases-loop-changed
decreases-loop-changed g l = l.sum + l.sum + cond l.changed 1 0
