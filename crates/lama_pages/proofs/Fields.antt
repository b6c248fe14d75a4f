-- The machine value of a block is its pointer, and a `&` to a block shows the pointer and the written places.
use Rattle.std.proofs.Common.{◌≡◌, ℕ, ◌+◌, ◌*◌, ◌<◌, T, zero, suc, List, [], ◌∷◌, ◌++◌, length, get_or, refl, ap, ◌∙◌, not-suc-le-zero, le_of_suc-le-suc}
use seplogic.Ra.Ura.{Ura}
use mir.Syntax.{ty_ptr, ty_struct, tcons, tnil}
use mir.Val.{Val, vstruct, vcons, vnil, of_list, has_ty, WT}
use base.Logic.{ent, sep, emp}
use base.Fml.{Lft, fhide}
use types.Logic.{Logic, sem}
use types.Kit.{‵, ◌⊛◌, ◌$◌, ◌∵◌, !, qed, by, keep, drop, move, use1, split, rewrite, fsplit, done}
use denote.RattleType.{RattleType}
use denote.Index.{place, place_is}
use denote.Laws.{Is}
use denote.Memory.{hidden_shr, shared_of, each_shared, mem}
use denote.Opens.{hide, unhide}
use denote.RawPtr.{Ptr, RawPtr, block_ptr, null_ptr, ptr_val, InBlock}
use denote.Shadow.{makes_shadow}
use denote.Struct.Lending.{lent_out}
use denote.Struct.Struct.{Struct}
use denote.Struct.Owning.{shape}
use Rattle.core.specs.declared.alloc.Allocator.{Ghosts}
use Rattle.core.specs.contracts.marker.PhantomData as marker
use Rattle.lama_pages.specs.Block.{block_lends}
use Rattle.lama_pages.specs.contracts.block.Block as B

abbrev pub block_val : Ptr → Val
block_val p = vstruct (vcons (ptr_val p) (vcons (vstruct vnil) vnil))

pub block_good : (p : Ptr) → InBlock p → T (has_ty (ty_struct [] (tcons ty_ptr (tcons (ty_struct [] tnil) tnil))) (block_val p)) × WT (block_val p)
block_good (block_ptr b o) i = (tt, (tt, (tt, tt)))
block_good null_ptr i = absurd i

module _ (R W : RattleType) (g : Ghosts W.Denot) where
  abbrev pub BlockData : RattleType
  BlockData = Struct (shape (B.the_type R W g))

  pub block_told : (p : Ptr) (vs : List Val) → Is BlockData (p, (tt, tt)) vs → vs ≡ block_val p ∷ []
  block_told p vs is =
      is.1.0 ∙ ap (λ (ws : List Val). vstruct (of_list (ws ++ (is.0.1.0 ++ []))) ∷ []) is.1.1.0
      ∙ ap (λ (ws : List Val). vstruct (of_list (ptr_val p ∷ (ws ++ []))) ∷ []) is.1.1.1.0.1.0

  module _ {M : Type 1} {𝓤 : Ura M} (𝓛 : Logic 𝓤) where
    pub block_made : (p : Ptr) → ent 𝓤 (emp 𝓤) (sem 𝓛 (BlockData.own_val (p, (tt, tt)) (block_val p ∷ [])))
    block_made p =
        makes_shadow 𝓛 (BlockData.own_val (p, (tt, tt)) (block_val p ∷ [])) (λ vss. (tt, (tt, ((λ uss. (tt, tt)), tt))))
        ((ptr_val p ∷ [], (vstruct vnil ∷ [], tt)), (refl, (refl, ((tt, (refl, tt)), tt))))

    -- what a `&` to a block shows
    pub block_shown : (κ : Lft) (d : (B.the_row R W g).Denot) (b o : ℕ)
        → ent 𝓤 (sem 𝓛 (hidden_shr (B.the_row R W g) κ d b o)) (sep 𝓤 (sem 𝓛 (hidden_shr RawPtr κ d.start b (o + 0))) (sem 𝓛 (block_lends R d.start d.written κ)))
    block_shown κ d b o =
        qed 𝓛 (‵ (hidden_shr (B.the_row R W g) κ d b o) ∷ []) ∵
        use1 𝓛 (‵ (hidden_shr BlockData κ (d.start, (tt, tt)) b o) ⊛ ‵ (fhide (B.the_lent R W g d d.start κ)))
        (lent_out 𝓛 (B.struct R W g) (B.the_codes R.Denot W.Denot R.coded W.coded (marker.the_row W).coded) (B.the_heap R W g) (B.the_lent R W g) κ d b o) $ split ! $
        unhide ! $ fsplit ! $ fsplit ! $ move ! (3 ∷ []) $ unhide ! $ keep ! (1 ∷ 0 ∷ []) $ done !

module _ (R : RattleType) {M : Type 1} {𝓤 : Ura M} (𝓛 : Logic 𝓤) (κ : Lft) (b : ℕ) where
  -- of records side by side that are lent, the one at i
  one_placed : (xs : List R.Denot) (i : ℕ) (d : R.Denot) (o : ℕ) → i < length xs
      → ent 𝓤 (sem 𝓛 (each_shared xs (shared_of R) (mem R).size b o κ)) (sem 𝓛 (hidden_shr R κ (get_or xs i d) b (place (mem R).size o i)))
  one_placed [] i d o l = absurd (not-suc-le-zero l)
  one_placed (x ∷ xs) zero d o l = qed 𝓛 (‵ (each_shared (x ∷ xs) (shared_of R) (mem R).size b o κ) ∷ []) ∵ fsplit ! $ keep ! (0 ∷ []) $ hide ! $ done !
  one_placed (x ∷ xs) (suc i) d o l =
      qed 𝓛 (‵ (each_shared (x ∷ xs) (shared_of R) (mem R).size b o κ) ∷ []) ∵ fsplit ! $ drop ! $
      by ! (one_placed xs i d (o + (mem R).size) (le_of_suc-le-suc l))

  pub one_lent : (xs : List R.Denot) (i : ℕ) (d : R.Denot) (o : ℕ) → i < length xs
      → ent 𝓤 (sem 𝓛 (each_shared xs (shared_of R) (mem R).size b o κ)) (sem 𝓛 (hidden_shr R κ (get_or xs i d) b (i * (mem R).size + o)))
  one_lent xs i d o l =
      qed 𝓛 (‵ (each_shared xs (shared_of R) (mem R).size b o κ) ∷ []) ∵ use1 𝓛 (‵ (hidden_shr R κ (get_or xs i d) b (place (mem R).size o i))) (one_placed xs i d o l) $
      rewrite ! 0 (λ (k : ℕ). ‵ (hidden_shr R κ (get_or xs i d) b k)) (place_is (mem R).size o i) refl $ done !
