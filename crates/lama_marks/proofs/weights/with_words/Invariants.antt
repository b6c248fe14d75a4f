use Rattle.std.proofs.Common.{◌≤◌, ◌+◌, take, map}
use Rattle.lama_marks.specs.Places.{AreWritten}
use Rattle.lama_marks.specs.Narrow.{worded}
use Rattle.lama_marks.proofs.weights.with_words.Given as goal

abbrev pub invariant-loop-place : goal.invariant-loop-place
invariant-loop-place g l = record {
  written : AreWritten (map worded (take l.place-index l.places)) l.initial.edit.items l.edit.items;
  made : l.pages ≤ l.initial.pages + l.place-index;
}
