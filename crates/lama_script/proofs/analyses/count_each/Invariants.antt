use Rattle.std.proofs.Common.{◌≡◌, ◌<◌, ℕ, length, take, get_or}
use Rattle.lama_model.specs.Lines.{occurrences}
use Rattle.lama_script.proofs.analyses.count_each.Given as goal

abbrev pub invariant-loop-label : goal.invariant-loop-label
invariant-loop-label l = record {
  len : length l.counts ≡ length l.fn.counts;
  each : (v : ℕ) → v < length l.counts → get_or l.counts v 0 ≡ occurrences (take l.label-index l.labels) v;
}
