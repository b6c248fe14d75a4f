use Rattle.std.proofs.Common.{◌≡◌, ◌≤◌, ◌*◌, take}
use Rattle.lama_model.specs.Row.{edges_in}
use Rattle.lama_script.proofs.printers.count_edges.Given as goal

abbrev pub invariant-loop-v : goal.invariant-loop-v
invariant-loop-v g l = record {
  total : l.total ≡ edges_in (take l.v (g.R.Rows.rows l.rows));
  small : l.total ≤ l.v * 4294967295;
}
