use Rattle.std.proofs.Common.{◌≡◌, ◌++◌, take, drop, vec_len}
use Rattle.lama_model.specs.Lines.{number_text, vertex_lines}
use Rattle.lama_script.proofs.analyses.append_level_lines.Given as goal

abbrev pub invariant-loop-v : goal.invariant-loop-v
invariant-loop-v l = record {
  so_far : l.out.items ++ vertex_lines number_text l.v (drop l.v l.levels) ≡ l.fn.out.items ++ vertex_lines number_text 0 l.levels;
  begins : take (vec_len l.fn.out) l.out.items ≡ l.fn.out.items;
}
