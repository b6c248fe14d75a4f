use Rattle.std.proofs.Common.{◌≡◌, take}
use Rattle.lama_paths.specs.Search.{told}
use Rattle.lama_paths.proofs.search.Search.finish.Given as goal

abbrev pub invariant-loop-step : goal.invariant-loop-step
invariant-loop-step g l = l.reach.items ≡ told g.S.Sum.value (take l.step-index l.step-items)
