use Rattle.std.proofs.Common.{◌≡◌, drop}
use Rattle.lama_label.specs.Lowering.{take_edges}
use Rattle.lama_label.proofs.lowering.take_edges.Given as goal

abbrev pub invariant-loop-u : goal.invariant-loop-u
invariant-loop-u l = take_edges (drop l.u-index l.edges) l.labels ≡ take_edges l.edges l.initial.labels
