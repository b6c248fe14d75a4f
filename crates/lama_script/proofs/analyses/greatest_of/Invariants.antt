use Rattle.std.proofs.Common.{◌≡◌, drop, map}
use Rattle.std.specs.Prelude.{fold, max, slice_index}
use Rattle.lama_script.proofs.analyses.greatest_of.Given as goal

abbrev pub invariant-loop-label : goal.invariant-loop-label
invariant-loop-label l = fold max l.greatest (map (slice_index l.counts) (drop l.label-index l.labels)) ≡ fold max 0 (map (slice_index l.counts) l.labels)
