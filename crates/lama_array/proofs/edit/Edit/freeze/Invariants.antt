use Rattle.std.proofs.Common.{◌≡◌, map}
use Rattle.std.specs.Arc.{arc_value}
use Rattle.lama_array.specs.Held.{records_of}
use Rattle.lama_array.proofs.edit.Edit.freeze.Given as goal

abbrev pub invariant-loop-page : goal.invariant-loop-page
invariant-loop-page g l = map arc_value l.table.items ≡ map records_of l.yielded
