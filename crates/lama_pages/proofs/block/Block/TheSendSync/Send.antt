-- A block may go to another thread where its records may and its allocator frees in any thread.
use denote.RattleType.{RattleType}
use denote.Param.Send.{IsSend, Frees}
use Rattle.core.specs.declared.alloc.Allocator.{Ghosts}
use Rattle.lama_pages.proofs.Crosses.{block-send}
use Rattle.lama_pages.specs.contracts.block.Block.{the_row}

pub send : (T A : RattleType) (g : Ghosts A.Denot) → IsSend T → IsSend A → Frees g g.dealloc_token → IsSend (the_row T A g)
send T A g s _ f = block-send T A g s f
