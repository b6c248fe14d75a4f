use Rattle.std.proofs.Common.{◌≡◌, ◌++◌, take, drop, vec_len}
use Rattle.lama_model.specs.Lines.{edge_lines}
use Rattle.lama_script.proofs.printers.append_rows.Given as goal

abbrev pub invariant-loop-v : goal.invariant-loop-v
invariant-loop-v g l = record {
  so_far : l.out.items ++ edge_lines l.v (drop l.v (g.R.Rows.rows l.rows)) ≡ l.fn.out.items ++ edge_lines 0 (g.R.Rows.rows l.rows);
  begins : take (vec_len l.fn.out) l.out.items ≡ l.fn.out.items;
}
