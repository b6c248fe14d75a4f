use Rattle.std.proofs.Common.{◌≡◌, false, map, replicate, take}
use Rattle.std.specs.Arc.{arc_value}
use Rattle.lama_array.specs.Held.{is_own, records_of}
use Rattle.lama_array.proofs.version.VArray.edit.Given as goal

abbrev pub invariant-loop-page : goal.invariant-loop-page
invariant-loop-page g l = record {
  records : map records_of l.held.items ≡ map arc_value (take l.page-index l.page-items);
  owned : map is_own l.held.items ≡ replicate l.page-index false;
}
