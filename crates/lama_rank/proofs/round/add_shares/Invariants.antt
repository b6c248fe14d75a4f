use Rattle.std.proofs.Common.{◌≡◌, ℕ, ◌+◌, ◌<◌, drop, length}
use Rattle.std.specs.Prelude.{slice_index}
use Rattle.lama_rank.specs.Rounds.{handed}
use Rattle.lama_rank.proofs.round.add_shares.Given as goal

abbrev pub invariant-loop-u : goal.invariant-loop-u
invariant-loop-u l = record {
  len : length l.sums ≡ length l.initial.sums;
  each : (i : ℕ) → i < length l.sums → slice_index l.sums i + handed l.shares (drop l.u-index l.edges) (l.start + i) ≡ slice_index l.initial.sums i + handed l.shares l.edges (l.start + i);
}
