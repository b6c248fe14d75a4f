-- `free` makes room of the written places, and hands the whole block back to the allocator.
use Rattle.std.proofs.Common.{◌≡◌, ℕ, ◌+◌, ◌-◌, ◌*◌, ◌^◌, ◌<◌, ◌≤◌, T, List, [], ◌∷◌, length, refl, sym, ap, subst, arith, w64}
use Rattle.std.proofs.raw_atomic.Walks.{proved}
use mir.Syntax.{Ty, ty_array, ty_unit, named}
use mir.Val.{Val, vunit, vint, vptr, has_ty, WT}
use mir.MapTy.{inst_fn}
use base.Logic.{SProp, never, id⊢}
use base.Fml.{Fml, ftrue, fsep, froom, flft, Incl-trans}
use prog.Memory.{align, capped}
use prog.Capped.{capped_fits}
use types.Kit.{‵, raw, ◌⊛◌, given, later, at_ret, ◌$◌, ◌∵◌, !, qed, move, keep, drop, use1, use2, use3, split, join, learn, rewrite, fsplit, fjoin, feq_i, flt_l, await, suffices, done}
use types.Part.{whole, sub}
use types.Run.{stop, fld, lit, unit_lit, size_word, align_word, no_more, and_then, of_opd, bin, first, blocks, exec, returns, enter}
use types.ByLocal.{alloc_all, pass_all, free_all, look_at, get, get_in, is, sets, lands_last, env}
use contract.BorrowLft.{◌⊑◌}
use contract.Monad.{fact}
use contract.Running.{tables}
use denote.Exit.{yes, no}
use denote.RattleType.{RattleType, owns}
use denote.Builtin.{RefOf}
use denote.Param.{param}
use denote.RawPtr.{Ptr, InBlock, ptr_val, in_block, in_a_block}
use denote.Ref.{shr_vals, shr_Tells}
use denote.Signature.{plain, types_at}
use denote.Steps.{nothing}
use denote.Triple.Call.{calls_at_last}
use denote.Triple.Table.{framed}
use denote.Triple.Walked.{Stays, stay_dropped, walk_of, ends_at, Goes-dropped}
use Rattle.core.proofs.alloc.Calls.{Al, token, Gives, at_gives, Gives-goes, Gives-Gives}
use Rattle.core.proofs.mem.Param as P
use Rattle.core.proofs.slots.Bodies.{after}
use Rattle.core.proofs.slots.Leases.{uncapped, block_ty, block_size, block_align, args}
use Rattle.core.specs.Allocator.{block_with_items}
use Rattle.std_alloc.proofs.RawLayout.{as_raw, as_written}
use Rattle.std_alloc.proofs.VecSteps.El.{El, elτ, sz}
use Rattle.std_alloc.proofs.VecSteps.Rows.{all_room}
use Rattle.lama_pages.proofs.Fields.{block_val, block_told, block_good}
use Rattle.lama_pages.specs.Block.{block_owns}
use Rattle.lama_pages.specs.contracts.block.Block.{the_row}
use Rattle.lama_pages.specs.contracts.block.free.{ended, clauses}
use Rattle.lama_pages.specs.contracts.block.free.Key.{name as #self}
use Rattle.lama_pages.proofs.block.free.Statement.{statement}
use Rattle.lama_pages.proofs.block.free.Code as code

pub free_spec : {M : Type 1} → statement M
free_spec 𝓤 𝓛 𝓜 𝓡 wired X U L LU g d dd met _ =
    let H = 𝓛.H in let 𝓣 = tables 𝓤 H 𝓜 𝓡 𝓡.env in let R : RattleType = param 0 X in let W : RattleType = param 1 U in let En = ended X U g d dd in
    let Z : Al = record { row = U; laws = LU; g = g; d = d; drops = dd } in let K : P.El = record { row = X; laws = L } in let E : El = record { row = X; laws = L; al = Z } in let fn = inst_fn (args K Z) code.function in
    let Row : RattleType = the_row R W g in let heap = RefOf (0 ∷ []) tt (plain (λ _. W)) (λ _. tt) in let c = clauses X U g d dd 𝓛 𝓜.mem 𝓡.returns in
    let hs : Stays En.signature.params En.kept = (stay_dropped heap yes, (stay_dropped (plain (λ _. Row)) no, tt)) in
    proved 𝓛 En hs c 𝓜 𝓡 (Goes-dropped 𝓛 3 heap yes (λ κs x f. refl), (Goes-dropped 𝓛 3 (plain (λ _. Row)) no (λ κs x f. refl), tt)) (#self (args K Z)) fn (code.unfolded 𝓤 H 𝓜 𝓡 wired (X, (U, tt)) d dd)
    (λ κs. (shr_vals, ((λ x. block_val x.start ∷ []), tt))) (λ κs. (shr_Tells (named 0) κs.0 W, ((λ x vs is. block_told R W g x.start vs is.0), tt))) (λ κs qs bounds a gh are.
    let κ = κs.0 in let q = qs.0 in let hp : ℕ × ℕ = a.0.ref_ptr in let h : U.Denot = a.0.now in let k = a.1.0 in let p : Ptr = k.start in let xs : List X.Denot = k.written in let n : ℕ = length xs in
    let s : ℕ = sz E in let al : ℕ = capped (align (elτ E)) in let τ : Ty = block_ty K 256 in
    let y : (walk_of 𝓛 En hs c).Ghost = ((κs, qs, bounds, a, (vptr hp.0 hp.1 ∷ [], (block_val p ∷ [], tt))), gh) in let Post : Val → SProp 𝓤 = (walk_of 𝓛 En hs c).post y in
    let others : Fml = fsep (flft κs.1.0 qs.1.0) (fsep (flft κs.1.1.0 qs.1.1.0) ftrue) in
    qed 𝓛 (((‵ (flft κ q) ⊛ ‵ others) ⊛ ‵ (owns (types_at En.signature.params κs) a y.0.4)) ∷ raw (fact 𝓤 _) ∷ given (κs.1.1.0 ⊑ U.lives) (‵ ftrue) ∷ given ((n ≤ 256) × (k.alloc ≡ h)) (‵ ftrue) ∷ []) ∵
    keep ! (2 ∷ 3 ∷ 0 ∷ []) $ learn ! (λ within. drop ! $ learn ! (λ asked. drop ! $ split ! $ split ! $ move ! (2 ∷ []) $ fsplit ! $ fsplit ! $ drop ! $ move ! (1 ∷ []) $ fsplit ! $ fsplit ! $ drop ! $
    rewrite ! 0 (λ (r : U.Denot). ‵ (block_owns (g.dealloc_token r) R p xs)) asked.1 refl $ fsplit ! $ flt_l ! (λ fit.
    in_a_block ! p (λ r. in_block r (block_with_items (token Z h) R r n 256 xs)) (id⊢ 𝓤 (never 𝓤)) (λ b o at.
    let bytes : 256 * s < 2 ^ 64 = omega arith in
    fsplit ! $ move ! (1 ∷ []) $ fsplit ! $ as_written ! (ty_array (elτ E) (256 - n)) b (o + n * s) $ move ! (2 ∷ 0 ∷ []) $
    use2 𝓛 (‵ (froom (ty_array (elτ E) 256) b o)) (all_room E 𝓛 b o n 256 xs asked.0) $ as_raw ! (ty_array (elτ E) 256) b o $
    keep ! (0 ∷ 1 ∷ 3 ∷ 4 ∷ 5 ∷ []) $
    enter ! 𝓣.C 𝓣.Λ fn (vptr hp.0 hp.1 ∷ block_val p ∷ []) Post $ alloc_all ! (λ l. pass_all ! refl ((tt, tt), (block_good p (subst InBlock (sym at) tt), tt)) $ let Ev = env fn.locals l in
    let t : (Gives Z 𝓛 𝓜.mem 𝓡.returns).Ghost = at_gives Z 𝓛 𝓜.mem 𝓡.returns κ q hp h b o (256 * s) al τ in
    sets ! (is ! (of_opd ! (get_in ! (fld ! refl (stop !)) (sub ! 0 refl (whole !)))) (ap ptr_val at)) refl (tt, tt) $ first ! $ blocks ! $ sets ! (of_opd ! (get ! refl)) refl (tt, tt) $
    sets ! (is ! (bin ! (lit ! tt) (size_word !) (record { fits = subst (λ (j : ℕ). j < 2 ^ 64) (sym (uncapped 256 s bytes)) bytes })) (ap (vint w64) (uncapped 256 s bytes))) refl (tt, record { fits = bytes }) $
    move ! (2 ∷ 3 ∷ []) $ join ! $ move ! (1 ∷ 2 ∷ 0 ∷ []) $ use3 𝓛 (raw ((Gives Z 𝓛 𝓜.mem 𝓡.returns).pre t))
    (Gives-goes Z 𝓛 𝓜.mem 𝓡.returns κ q hp h (Incl-trans bounds.0 within) b o (256 * s) al τ (block_size K 256 bytes) (block_align K 256) bytes (capped_fits (align (elτ E)))) $
    calls_at_last ! (framed 𝓤 H 𝓜 𝓣) (Gives Z 𝓛 𝓜.mem 𝓡.returns) (met.deallocate dd) t (and_then ! (get ! refl) (and_then ! (get ! refl) (and_then ! (get ! refl) (and_then ! (align_word !) (no_more !))))) (λ v.
    use1 𝓛 (later (given (v ≡ vunit) (‵ (flft κ q)))) (Gives-Gives Z 𝓛 𝓜.mem 𝓡.returns κ q hp h b o (256 * s) al τ v) $ await ! tt $ learn ! (λ e.
    lands_last ! refl (subst (λ (u : Val). T (has_ty ty_unit u) × WT u) (sym e) (tt, tt)) $ exec ! 𝓣.C 𝓣.Λ Ev (after 2 fn.body) (at_ret Ev Post) $
    sets ! (of_opd ! (unit_lit !)) refl (tt, tt) $ returns ! (look_at ! 0 refl) $ free_all ! refl $
    suffices ! _ (ends_at 𝓛 En hs c y vunit tt (tt, (tt, tt)) (tt, (tt, tt))) $
    join ! $ feq_i ! (List Val) (vunit ∷ []) (vunit ∷ []) refl $ nothing ! $ nothing ! $ fjoin ! $ nothing ! $ fjoin ! $ join ! $ move ! (1 ∷ 0 ∷ []) $ join ! $
    nothing ! $ keep ! (1 ∷ 0 ∷ []) $ done !))))))))
