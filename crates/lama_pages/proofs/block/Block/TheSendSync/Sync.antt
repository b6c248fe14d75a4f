-- Threads may share a block where they may share its records.
use denote.RattleType.{RattleType}
use denote.Param.Send.{IsSync}
use Rattle.core.specs.declared.alloc.Allocator.{Ghosts}
use Rattle.lama_pages.proofs.Crosses.{block-sync}
use Rattle.lama_pages.specs.contracts.block.Block.{the_row}

pub sync : (T A : RattleType) (g : Ghosts A.Denot) → IsSync T → IsSync (the_row T A g)
sync = block-sync
