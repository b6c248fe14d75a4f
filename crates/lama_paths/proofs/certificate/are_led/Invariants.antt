use Rattle.std.proofs.Common.{◌≡◌, ◌<◌, ℕ, true}
use Rattle.lama_paths.specs.Certificate.{is_led}
use Rattle.lama_paths.proofs.certificate.are_led.Given as goal

abbrev pub invariant-loop-v : goal.invariant-loop-v
invariant-loop-v l = (k : ℕ) → k < l.v → is_led l.source l.reach l.words k ≡ true
