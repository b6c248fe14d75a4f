use Rattle.std.proofs.Common.{◌≡◌, ℕ, ◌+◌, ◌<◌, ◌≤◌, drop, length, map}
use Rattle.std.specs.Prelude.{All, slice_index}
use Rattle.lama_rank.specs.Rounds.{handed, edges_of_block}
use Rattle.lama_rank.proofs.round.add_parts.Given as goal

abbrev pub invariant-loop-part : goal.invariant-loop-part
invariant-loop-part l = record {
  len : length l.sums ≡ length l.initial.sums;
  ends : All (λ e. (e.0 < length l.shares) × (l.start ≤ e.1) × (e.1 < l.start + length l.initial.sums)) (edges_of_block (map (λ part. map (λ list. list.items) part.items) (drop l.part-index l.parts)) l.k);
  each : (i : ℕ) → i < length l.sums
      → slice_index l.sums i + handed l.shares (edges_of_block (map (λ part. map (λ list. list.items) part.items) (drop l.part-index l.parts)) l.k) (l.start + i)
      ≡ slice_index l.initial.sums i + handed l.shares (edges_of_block (map (λ part. map (λ list. list.items) part.items) l.parts) l.k) (l.start + i);
}
