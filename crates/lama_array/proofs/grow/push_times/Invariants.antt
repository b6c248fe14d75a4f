use Rattle.std.proofs.Common.{◌≡◌, ◌++◌, false, length, map, replicate, take}
use Rattle.std.specs.Arc.{arc_value}
use Rattle.lama_array.specs.Held.{is_own, records_of}
use Rattle.lama_array.proofs.grow.push_times.Given as goal

abbrev pub invariant-loop : goal.invariant-loop
invariant-loop g l = record {
  records : map records_of l.held.items ≡ map records_of l.initial.held.items ++ replicate l.counter (arc_value l.page);
  owned : map is_own l.held.items ≡ map is_own l.initial.held.items ++ replicate l.counter false;
  first : take (length l.initial.held.items) l.held.items ≡ l.initial.held.items;
}
