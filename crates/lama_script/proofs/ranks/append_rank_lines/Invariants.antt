use Rattle.std.proofs.Common.{◌≡◌, ◌++◌, take, drop, vec_len, decimal}
use Rattle.lama_model.specs.Lines.{vertex_lines}
use Rattle.lama_script.proofs.ranks.append_rank_lines.Given as goal

abbrev pub invariant-loop-v : goal.invariant-loop-v
invariant-loop-v l = record {
  so_far : l.out.items ++ vertex_lines decimal l.v (drop l.v l.ranks) ≡ l.fn.out.items ++ vertex_lines decimal 0 l.ranks;
  begins : take (vec_len l.fn.out) l.out.items ≡ l.fn.out.items;
}
