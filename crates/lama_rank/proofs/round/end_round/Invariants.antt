use Rattle.std.proofs.Common.{◌≡◌, ℕ, ◌+◌, ◌≤◌, ◌<◌, length}
use Rattle.std.specs.Prelude.{slice_index}
use Rattle.lama_model.specs.Ranks.{rank_of_sum}
use Rattle.lama_rank.specs.Rounds.{left_of}
use Rattle.lama_rank.proofs.round.end_round.Given as goal

abbrev pub invariant-loop-i : goal.invariant-loop-i
invariant-loop-i l = record {
  len : length l.sums ≡ length l.initial.sums;
  done : (k : ℕ) → k < l.i → slice_index l.sums k ≡ left_of l.last (slice_index l.degrees (l.start + k)) (rank_of_sum (slice_index l.initial.sums k));
  rest : (k : ℕ) → l.i ≤ k → slice_index l.sums k ≡ slice_index l.initial.sums k;
}
