use Rattle.std.proofs.Common.{◌≡◌, map, take}
use Rattle.std.specs.Arc.{arc_value}
use Rattle.lama_snapshot.proofs.apply.push_level.Given as goal

abbrev pub invariant-loop-older : goal.invariant-loop-older
invariant-loop-older l = map arc_value l.all.items ≡ map arc_value (take l.older-index l.levels)
