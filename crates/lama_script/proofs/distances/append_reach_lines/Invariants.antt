use Rattle.std.proofs.Common.{◌≡◌, ◌++◌, take, drop, vec_len}
use Rattle.lama_model.specs.Lines.{reach_text, vertex_lines}
use Rattle.lama_script.proofs.distances.append_reach_lines.Given as goal

abbrev pub invariant-loop-v : goal.invariant-loop-v
invariant-loop-v l = record {
  so_far : l.out.items ++ vertex_lines reach_text l.v (drop l.v l.reach) ≡ l.fn.out.items ++ vertex_lines reach_text 0 l.reach;
  begins : take (vec_len l.fn.out) l.out.items ≡ l.fn.out.items;
}
