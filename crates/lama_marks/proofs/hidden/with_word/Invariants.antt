use Rattle.std.proofs.Common.{◌≤◌, ◌+◌, take}
use Rattle.lama_marks.specs.Places.{AreMarked}
use Rattle.lama_marks.proofs.hidden.with_word.Given as goal

abbrev pub invariant-loop-place : goal.invariant-loop-place
invariant-loop-place g l = record {
  marked : AreMarked (take l.place-index l.places) l.word l.initial.edit.items l.edit.items;
  made : l.pages ≤ l.initial.pages + l.place-index;
}
