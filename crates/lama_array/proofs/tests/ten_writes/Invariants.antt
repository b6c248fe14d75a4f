use Rattle.std.proofs.Common.{◌≡◌, ◌+◌, ◌<◌, ◌≤◌, true, length}
use Rattle.lama_array.specs.Draft.{owns}
use Rattle.lama_array.proofs.tests.ten_writes.Given as goal

abbrev pub invariant-loop-i : goal.invariant-loop-i
invariant-loop-i g l = record {
  room : 256 ≤ length l.edit.items;
  none : l.i ≡ 0 → l.pages ≡ l.initial.pages;
  one : 0 < l.i → owns l.edit 0 ≡ true;
  made : l.pages ≤ l.initial.pages + 1;
}
