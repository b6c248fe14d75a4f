use Rattle.std.proofs.Common.{◌≡◌, ◌+◌, ◌/◌, take, length}
use Rattle.lama_marks.proofs.weights.Weights.build.Given as goal

abbrev pub invariant-loop-weight : goal.invariant-loop-weight
invariant-loop-weight g l =
    (l.builder ≡ take l.weight-index l.weights) ×
    (l.pages ≡ l.initial.pages + (length l.builder + 255) / 256)
