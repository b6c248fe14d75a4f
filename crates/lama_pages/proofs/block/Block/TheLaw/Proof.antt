-- A `&` to a block lends the bound on its size and its written places, and neither the room behind them nor the right to free it.
use Rattle.std.proofs.Common.{◌*◌, ◌-◌, List, ◌++◌, [], length, sym, subst}
use seplogic.Ra.Ura.{Ura}
use mir.Syntax.{Ty, ty_array}
use mir.Raw.{raw}
use base.Fraction.{full_share}
use base.Fml.{Fml, Lft, Incl-trans, fsep}
use types.Logic.{Logic}
use contract.BorrowLft.{meet_⊑_left}
use denote.RattleType.{RattleType}
use denote.Array.{Array}
use denote.ArrayMemory.{Single}
use denote.Memory.{lone}
use denote.Param.Laws.{Laws}
use denote.Param.Shared.{copy_shared}
use denote.RawPtr.{Ptr, block_ptr, null_ptr, lies_at, room_for, in_block, ◌+ₚ◌}
use denote.Shares.{Shares, Shares-less, Shares-Array}
use denote.Sharing.{said}
use denote.Struct.Field.{RawPtr-field}
use denote.Struct.Laws.{RawPtr-copy, field_copy}
use denote.Struct.Lending.{lent_at, Lends, Lends-both, Lends-false, Lends-first, Lends-lies, Lends-said, of_Lends}
use Rattle.core.specs.Allocator.{block_with_items}
use Rattle.core.specs.Mem.{type_size}
use Rattle.core.specs.declared.alloc.Allocator.{Ghosts}
use Rattle.core.specs.contracts.marker.PhantomData as marker
use Rattle.std_alloc.proofs.SharedLaws.{lent_shr_laws}
use Rattle.lama_pages.specs.Block.{fits}
use Rattle.lama_pages.specs.contracts.block.Block as B
use Rattle.lama_pages.proofs.block.Block.TheLaw.Statement.{statement}

module _ {M : Type 1} {𝓤 : Ura M} (𝓛 : Logic 𝓤) (t : Ty → Ptr → Fml) (R : RattleType) (L : Laws R) (l : Lft) (s : Shares 𝓛 R l) (xs : List R.Denot) where
  -- the written places are the first part of what the block owns
  lends-written : (p : Ptr) → Lends 𝓛 (in_block p (block_with_items t R p (length xs) 256 xs)) (lent_at (Array R (length xs)) p xs) l
  lends-written null_ptr = Lends-false 𝓛 (lent_at (Array R (length xs)) null_ptr xs) l
  lends-written (block_ptr b o) =
      let p : Ptr = block_ptr b o in
      Lends-first 𝓛 (lies_at (Array R (length xs)) full_share p xs) (fsep (room_for (raw (ty_array (lone R.mir) (256 - length xs))) (p +ₚ (length xs * type_size R))) (t (raw (ty_array (lone R.mir) 256)) p))
      (lent_at (Array R (length xs)) p xs) l
      (Lends-lies 𝓛 (Array R (length xs)) l p xs (Shares-Array 𝓛 R (subst Single (sym L.one) tt) (length xs) l s xs))

pub shares : (R A : RattleType) (g : Ghosts A.Denot) (L : Laws R) (K : Laws A) → statement R A g L K
shares R A g L K =
    of_Lends (B.struct R A g) (B.the_codes R.Denot A.Denot R.coded A.coded (marker.the_row A).coded) (B.the_heap R A g) (B.the_lent R A g) (λ d p. lent_shr_laws R L.shr_laws d.start (length d.written) 256 d.written)
    (copy_shared RawPtr-field RawPtr-copy, (copy_shared (marker.the_field A) (field_copy (marker.the_type A) tt), tt))
    (λ M 𝓤 𝓛 d p.
    let l = (B.the_row R A g).lives in
    Lends-both 𝓛 (fits R) (in_block d.start (block_with_items (g.dealloc_token d.alloc) R d.start (length d.written) 256 d.written)) (said (fits R)) (lent_at (Array R (length d.written)) d.start d.written) l
    (Lends-said 𝓛 (fits R) tt l)
    (lends-written 𝓛 (g.dealloc_token d.alloc) R L l (Shares-less 𝓛 R R.lives l (Incl-trans (meet_⊑_left (R.lives ++ (A.lives ++ [])) _) (meet_⊑_left R.lives (A.lives ++ []))) (L.shares 𝓛)) d.written d.start))
