use Rattle.std.proofs.Common.{◌≡◌, ◌++◌, take, length, vec_len}
use Rattle.std.specs.List.{flat_map}
use Rattle.lama_model.specs.Lines.{edge_line}
use Rattle.lama_script.proofs.printers.append_edges_of.Given as goal

abbrev pub invariant-loop-target : goal.invariant-loop-target
invariant-loop-target g l = record {
  place : g.R.Rows.is_place l.rows l.at;
  so_far : l.out.items ++ flat_map (edge_line l.fn.u) (g.R.Rows.suffix l.rows l.at) ≡ l.fn.out.items ++ flat_map (edge_line l.fn.u) (g.R.Rows.suffix l.rows l.fn.start);
  begins : take (vec_len l.fn.out) l.out.items ≡ l.fn.out.items;
}

abbrev pub decreases-loop-target : goal.decreases-loop-target
decreases-loop-target g l = length (g.R.Rows.suffix l.rows l.at)
