use Rattle.std.specs.Prelude.{◌≡◌, ◌++◌, Ok, map}
use Rattle.lama_work.proofs.pieces.all_ok.Given as goal

abbrev pub invariant-loop-answer : goal.invariant-loop-answer
invariant-loop-answer g l = map Ok l.all.items ++ l.answer-iterator.rest.items ≡ l.initial.answer-iterator.rest.items
