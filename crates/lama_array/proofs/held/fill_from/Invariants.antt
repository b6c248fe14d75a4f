use Rattle.std.proofs.Common.{◌≡◌, ◌<◌, length}
use Rattle.lama_array.proofs.Filled.{filled}
use Rattle.lama_array.proofs.held.fill_from.Given as goal

abbrev pub invariant-loop-i : goal.invariant-loop-i
invariant-loop-i g l = record {
  so_far : l.page ≡ filled l.fn.from l.i l.x l.initial.page;
  whole : l.fn.from < l.i → length l.initial.page ≡ 256;
}
