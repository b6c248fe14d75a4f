use Rattle.std.proofs.Common.{◌≡◌, ◌<◌, ℕ, true}
use Rattle.lama_model.specs.Distances.{reach_at}
use Rattle.lama_paths.specs.Certificate.{is_within}
use Rattle.lama_paths.proofs.certificate.are_within.Given as goal

abbrev pub invariant-loop-v : goal.invariant-loop-v
invariant-loop-v l = (k : ℕ) → k < l.v → is_within l.count (reach_at l.reach k) ≡ true
