use Rattle.std.proofs.Common.{◌≡◌, ◌+◌, ◌/◌, take, length}
use Rattle.lama_edges.specs.Table.{table_slots}
use Rattle.lama_edges.proofs.table.EdgeTable.build.Given as goal

abbrev pub invariant-loop-fragment : goal.invariant-loop-fragment
invariant-loop-fragment g l =
    (l.slots ≡ table_slots (take l.fragment-index l.fragments)) ×
    (l.pages ≡ l.initial.pages + (length l.slots + 255) / 256)
