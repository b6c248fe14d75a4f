use Rattle.std.proofs.Common.{◌≡◌, ◌++◌, drop}
use Rattle.std.specs.List.{flat_map}
use Rattle.lama_rank.proofs.round.push_blocks.Given as goal

abbrev pub invariant-loop-block : goal.invariant-loop-block
invariant-loop-block l = l.all.items ++ flat_map (λ block. block.items) (drop l.block-index l.blocks) ≡ l.initial.all.items ++ flat_map (λ block. block.items) l.blocks
