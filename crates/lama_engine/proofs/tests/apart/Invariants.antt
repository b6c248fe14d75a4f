use Rattle.std.proofs.Common.{◌≡◌, ◌++◌, map}
use Rattle.lama_engine.proofs.tests.apart.Given as goal

abbrev pub invariant-loop-pass : goal.invariant-loop-pass
invariant-loop-pass l = l.passes.items ++ map (λ t. t.0) l.pass-iterator.rest.items ≡ map (λ t. t.0) l.initial.pass-iterator.rest.items
