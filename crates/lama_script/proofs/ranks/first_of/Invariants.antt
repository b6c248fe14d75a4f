use Rattle.std.proofs.Common.{◌≡◌, ◌-◌, length}
use Rattle.std.specs.Prelude.{◌==◌, slice_index}
use Rattle.lama_model.specs.Levels.{first_from}
use Rattle.lama_script.proofs.ranks.first_of.Given as goal

abbrev pub invariant-loop-v : goal.invariant-loop-v
invariant-loop-v l = first_from (λ v. slice_index l.ranks v == l.rank) l.v (length l.ranks - l.v) ≡ first_from (λ v. slice_index l.ranks v == l.rank) 0 (length l.ranks)
