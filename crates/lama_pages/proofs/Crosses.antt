-- What a block owns and lends may cross threads where its records may.
use Rattle.std.proofs.Common.{length}
use mir.Syntax.{ty_array}
use mir.Raw.{raw}
use base.Shift.{Keyless}
use denote.RattleType.{RattleType}
use denote.Array.{Array}
use denote.Memory.{lone}
use denote.RawPtr.{Ptr, block_ptr, null_ptr, in_block}
use denote.Struct.Struct.{exits_of}
use denote.Struct.Owning.{shape, fields, to}
use denote.Param.Send.{IsSend, IsSync, AllSend, array_send, array_sync, owning_send, struct_send, struct_sync, sendable}
use Rattle.core.specs.Allocator.{block_with_items}
use Rattle.core.specs.declared.alloc.Allocator.{Ghosts}
use Rattle.std_alloc.proofs.SendSync.{FreesAnywhere, lies, quiet, seen}
use Rattle.lama_pages.specs.contracts.block.Block as B

module _ (T A : RattleType) (g : Ghosts A.Denot) where
  owned-keyless : IsSend T → FreesAnywhere A.Denot g → (d : (B.the_row T A g).Denot) (p : Ptr) → Keyless (in_block p (block_with_items (g.dealloc_token d.alloc) T p (length d.written) 256 d.written))
  owned-keyless s f d null_ptr = tt
  owned-keyless s f d (block_ptr b o) =
      (lies (Array T (length d.written)) (array_send T (length d.written) s) (block_ptr b o) d.written, (tt, f.frees d.alloc (raw (ty_array (lone T.mir) 256)) (block_ptr b o)))

  pub block-send : IsSend T → FreesAnywhere A.Denot g → IsSend (B.the_row T A g)
  block-send s f =
      let O = B.the_type T A g in let all : AllSend (fields O) = (search sendable, (search sendable, tt)) in
      owning_send O all (λ d. (tt, owned-keyless s f d d.start)) (λ k. quiet (to O) (exits_of k (fields O)) ((struct_send (shape O) all).leaving k))

  pub block-sync : IsSync T → IsSync (B.the_row T A g)
  block-sync y =
      let O = B.the_type T A g in
      record { shared = λ d b o κ. ((struct_sync (shape O) (search sendable, (search sendable, tt))).shared (to O d) b o κ, (tt, seen (Array T (length d.written)) (array_sync T (length d.written) y) d.start d.written κ)) }
