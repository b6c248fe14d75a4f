use Rattle.std.proofs.Common.{◌≡◌, drop}
use Rattle.std.specs.List.{flat_map}
use Rattle.lama_label.specs.Lowering.{take_edges}
use Rattle.lama_label.proofs.lowering.take_lists.Given as goal

abbrev pub invariant-loop-list : goal.invariant-loop-list
invariant-loop-list l = take_edges (flat_map (λ list. list.items) (drop l.list-index l.lists)) l.labels ≡ take_edges (flat_map (λ list. list.items) l.lists) l.initial.labels
