use Rattle.std.proofs.Common.{◌*◌, ◌≤◌}
use Rattle.lama_model.proofs.edge_pairs.count_between.Given as goal

abbrev pub invariant-loop-v : goal.invariant-loop-v
invariant-loop-v g l = l.total ≤ l.v * 4294967295
