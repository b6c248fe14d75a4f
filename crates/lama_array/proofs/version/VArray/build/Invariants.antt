use Rattle.std.proofs.Common.{◌≡◌, ◌+◌, ◌/◌, take}
use Rattle.lama_array.proofs.version.VArray.build.Given as goal

abbrev pub invariant-loop-x : goal.invariant-loop-x
invariant-loop-x g l = record {
  items : l.builder ≡ take l.x-index l.items;
  made : l.pages ≡ l.initial.pages + (l.x-index + 255) / 256;
}
