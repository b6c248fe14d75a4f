use Rattle.std.proofs.Common.{◌<◌}
use Rattle.std.specs.Prelude.{All}
use Rattle.lama_paths.proofs.tests.rows_of.Given as goal

abbrev pub invariant-loop-source : goal.invariant-loop-source
invariant-loop-source l = All (λ e. (e.source < l.count) × (e.target < l.count)) l.within.items
