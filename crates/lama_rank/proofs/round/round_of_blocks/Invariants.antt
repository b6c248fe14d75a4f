use Rattle.std.proofs.Common.{◌≡◌, ◌++◌, ◌-◌, map}
use Rattle.std.specs.List.{range_with_len}
use Rattle.lama_rank.specs.Rounds.{after_block, blocks_of}
use Rattle.lama_rank.proofs.round.round_of_blocks.Given as goal

abbrev pub invariant-loop-k : goal.invariant-loop-k
invariant-loop-k l = map (λ block. block.items) l.all.items ++ map (after_block l.last l.degrees l.shares (blocks_of l.blocks (map (λ part. map (λ list. list.items) part.items) l.parts))) (range_with_len l.k (l.end - l.k))
    ≡ map (after_block l.last l.degrees l.shares (blocks_of l.blocks (map (λ part. map (λ list. list.items) part.items) l.parts))) (range_with_len l.first (l.end - l.first))
