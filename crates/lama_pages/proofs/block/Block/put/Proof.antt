-- `put` writes one place of the block, over whatever it held.
use Rattle.std.proofs.Common.{◌≡◌, ℕ, ◌+◌, ◌*◌, ◌^◌, ◌<◌, ◌≤◌, List, [], ◌∷◌, length, refl, sym, ap, subst, ◌∙◌, arith, w64}
use Rattle.std.proofs.raw_atomic.Walks.{proved_at}
use seplogic.Ra.Ura.{Ura}
use mir.Syntax.{Fn}
use mir.Val.{Val, vunit, vint, vptr}
use mir.MapTy.{inst_fn}
use base.Fraction.{full_share}
use base.Logic.{SProp, ent, never, id⊢}
use base.Fml.{Fml, ftrue, fsep, froom, flft}
use prog.Model.{Model}
use prog.Wp.{WpFn, Env}
use types.Logic.{Logic}
use types.Kit.{‵, raw, ◌⊛◌, given, at_ret, ◌$◌, ◌∵◌, !, qed, move, keep, drop, use1, use2, split, join, learn, rewrite, fsplit, fsplit3, fjoin, fjoin3, feq_i, flt_l, flt_i, suffices, done}
use types.Part.{whole, sub, look_in}
use types.Run.{init, stop, fld, load, size_lit, unit_lit, of_opd, bin, assigns_last, first, blocks, exec, returns, enter}
use types.ByLocal.{alloc_all, pass_all, free_all, look_at, get, through, sets, env}
use contract.Monad.{fact}
use contract.Running.{Running, tables}
use denote.Exit.{yes, no}
use denote.RattleType.{RattleType, owns}
use denote.Builtin.{usize}
use denote.Laws.{Is, shows}
use denote.Memory.{cell_at, part_at}
use denote.Param.{param}
use denote.RawPtr.{Ptr, block_ptr, in_block, in_a_block}
use denote.Signature.{plain, types_at}
use denote.Steps.{nothing, opens, closes, peeks}
use denote.Triple.Clauses.{Clauses, Ended}
use denote.Triple.Entry.{Vals}
use denote.Triple.Walked.{says, Stays, stay_dropped, stay_ref, walk_of, ends_at, Goes-dropped, Goes-ref}
use Rattle.core.proofs.mem.Param as P
use Rattle.core.proofs.ptr.Rows.{times_below, one_below}
use Rattle.core.proofs.slots.Bodies.{after}
use Rattle.core.proofs.slots.Leases.{args}
use Rattle.core.specs.Allocator.{block_with_items}
use Rattle.std_alloc.proofs.VecSteps.El.{El, R, elτ, sz, Good}
use Rattle.std_alloc.proofs.VecSteps.Rows.{el_in}
use Rattle.lama_pages.proofs.Fields.{BlockData, block_val, block_told}
use Rattle.lama_pages.proofs.Memory.{Place, place}
use Rattle.lama_pages.specs.Block.{with_record}
use Rattle.lama_pages.specs.contracts.block.Block.{the_row}
use Rattle.lama_pages.specs.contracts.block.Block.put as F
use Rattle.lama_pages.specs.contracts.block.Block.put.Key.{name as #self}
use Rattle.lama_pages.proofs.block.Block.put.Statement.{statement}
use Rattle.lama_pages.proofs.block.Block.put.Code as code

module _ (E : El) where
  abbrev here : Fn
  here = inst_fn (args (record { row = E.row; laws = E.laws }) E.al) code.function

  abbrev ended : Ended
  ended = F.ended E.row E.al.row E.al.g E.al.d E.al.drops

  abbrev Row : RattleType
  Row = the_row (R E) (param 1 E.al.row) E.al.g

  abbrev stayed : Stays ended.signature.params ended.kept
  stayed = (stay_ref (0 ∷ []) tt (plain (λ _. Row)), (stay_dropped (plain (λ _. usize)) yes, (stay_dropped (plain (λ _. R E)) no, tt)))

  module _ {M : Type 1} {𝓤 : Ura M} (𝓛 : Logic 𝓤) (𝓜 : Model 𝓤 𝓛.H) (𝓡 : Running 𝓤 𝓛.H 𝓜) where
    open 𝓛 use {H}

    abbrev held : Clauses 𝓤 ended
    held = F.clauses E.row E.al.row E.al.g E.al.d E.al.drops 𝓛 𝓜.mem 𝓡.returns

    abbrev Bound : Type 0
    Bound = (walk_of 𝓛 ended stayed held).Ghost

    abbrev Goes : Bound → Type 1
    Goes y = ent 𝓤 ((walk_of 𝓛 ended stayed held).pre y) (WpFn 𝓤 H (tables 𝓤 H 𝓜 𝓡 𝓡.env).C (tables 𝓤 H 𝓜 𝓡 𝓡.env).Λ here ((walk_of 𝓛 ended stayed held).args y) ((walk_of 𝓛 ended stayed held).post y))

    abbrev at : (z : Bound) → Vals ended.signature z.0.0 → Bound
    at z vss = ((z.0.0, z.0.1, z.0.2, z.0.3, vss), z.1)

    abbrev spelled : Bound → Val → Bound
    spelled z v = at z (vptr z.0.3.0.ref_ptr.0 z.0.3.0.ref_ptr.1 ∷ [], (vint w64 z.0.3.1.0 ∷ [], (v ∷ [], tt)))

    walk : (z : Bound) → z.0.3.1.0 < 2 ^ 64 → (v : Val) → Good E v → Goes (spelled z v)
    walk z fi v good =
        let κs = z.0.0 in let qs = z.0.1 in let κ = κs.0 in let q = qs.0 in
        let rb : ℕ = z.0.3.0.ref_ptr.0 in let ro : ℕ = z.0.3.0.ref_ptr.1 in let h = z.0.3.0.now in let i : ℕ = z.0.3.1.0 in let x = z.0.3.1.1.0 in let xs = h.written in
        let s : ℕ = sz E in let 𝓣 = tables 𝓤 H 𝓜 𝓡 𝓡.env in let t = E.al.g.dealloc_token h.alloc in
        let Post : Val → SProp 𝓤 = (walk_of 𝓛 ended stayed held).post (spelled z v) in
        let others : Fml = fsep (flft κs.1.0 qs.1.0) (fsep (flft κs.1.1.0 qs.1.1.0) ftrue) in
        let new : Row.Denot = record { start = h.start; by = h.by; written = with_record xs i x; alloc = h.alloc } in
        qed 𝓛 (((‵ (flft κ q) ⊛ ‵ others) ⊛ ‵ (owns (types_at ended.signature.params κs) z.0.3 (spelled z v).0.4)) ∷ raw (fact 𝓤 _) ∷ raw (fact 𝓤 _) ∷ given ((i < 256) × (i ≤ length xs)) (‵ ftrue) ∷ []) ∵
        keep ! (3 ∷ 0 ∷ []) $ learn ! (λ asked. drop ! $
        split ! $ split ! $ move ! (2 ∷ []) $ fsplit3 ! $ fsplit3 ! $ move ! (4 ∷ []) $ fsplit ! $ keep ! (3 ∷ 4 ∷ 6 ∷ 0 ∷ 7 ∷ []) $
        enter ! 𝓣.C 𝓣.Λ here (vptr rb ro ∷ vint w64 i ∷ v ∷ []) Post $ alloc_all ! (λ l. pass_all ! refl ((tt, tt), ((tt, record { fits = fi }), (good, tt))) $
        let Ev : Env 𝓤 H = env here.locals l in
        opens ! tt Row {h = h} rb ro (λ vs. move ! (1 ∷ []) $ fsplit ! $
        peeks ! (BlockData (R E) (param 1 E.al.row) E.al.g) (Is (BlockData (R E) (param 1 E.al.row) E.al.g)) (shows 𝓛 (BlockData (R E) (param 1 E.al.row) E.al.g)) (h.start, (tt, tt)) vs (λ is.
        move ! (1 ∷ []) $ fsplit ! $ flt_l ! (λ fit. in_a_block ! h.start (λ p. in_block p (block_with_items t (R E) p (length xs) 256 xs)) (id⊢ 𝓤 (never 𝓤)) (λ b o at_b.
        let word : vs ≡ block_val (block_ptr b o) ∷ [] = block_told (R E) (param 1 E.al.row) E.al.g h.start vs is ∙ ap (λ (p : Ptr). block_val p ∷ []) at_b in
        let Cell = λ (ws : List Val). ‵ (cell_at full_share Row.mir ws rb ro) in
        let spot : Place E 𝓛 t b o xs i = place E 𝓛 t b o xs i asked.0 asked.1 in
        let small : s < 2 ^ 63 = one_below 256 s (2 ^ 63) (omega arith) fit in let tiny : s < 2 ^ 64 = omega arith in
        let part : i * s < 2 ^ 63 = times_below i 256 s (2 ^ 63) (omega arith) fit in let far : i * s < 2 ^ 64 = omega arith in
        rewrite ! 2 Cell word refl $
        use1 𝓛 (‵ (froom (elτ E) b (i * s + o)) ⊛ ‵ spot.rest) spot.taken $ split ! $
        -- [the room; the other places; the fields' value; the struct's cell; the open borrow, in three; what x owns; the other tokens]
        first ! $ blocks ! $
        sets ! (of_opd ! (load ! (through ! refl (fld ! refl (stop !))) (look_in ! 3 (sub ! 0 refl (whole !))))) refl (tt, tt) $
        sets ! (bin ! (get ! refl) (size_lit ! (record { fits = tiny })) (record { fits = far })) refl (tt, record { fits = far }) $
        sets ! (bin ! (get ! refl) (get ! refl) tt) refl (tt, tt) $ sets ! (of_opd ! (get ! refl)) refl good $
        assigns_last ! (of_opd ! (get ! refl)) (through ! refl (stop !)) (init ! 0 refl good) $
        exec ! 𝓣.C 𝓣.Λ Ev (after 1 here.body) (at_ret Ev Post) $ sets ! (of_opd ! (unit_lit !)) refl (tt, tt) $
        move ! (0 ∷ 7 ∷ []) $ use2 𝓛 (‵ (part_at (R E) full_share x b (i * s + o))) (el_in E 𝓛 full_share x b (i * s + o) v) $
        use2 𝓛 (‵ (block_with_items t (R E) (block_ptr b o) (length new.written) 256 new.written)) (spot.put_back x) $
        rewrite ! 0 (λ (p : Ptr). ‵ (in_block p (block_with_items t (R E) p (length new.written) 256 new.written))) (sym at_b) refl $
        flt_i ! (256 * s) (2 ^ 63) fit $ fjoin ! $ move ! (1 ∷ []) $ fjoin ! $ rewrite ! 1 Cell (sym word) refl $ move ! (1 ∷ []) $ closes ! tt Row new vs rb ro $
        returns ! (look_at ! 0 refl) $ free_all ! refl $
        suffices ! _ (ends_at 𝓛 ended stayed held (spelled z v) vunit tt (new, (tt, (tt, tt))) (tt, (tt, (tt, tt)))) $ says ! (refl, refl) $
        feq_i ! (List Val) (vptr rb ro ∷ []) (vptr rb ro ∷ []) refl $ fjoin3 ! $ nothing ! $ nothing ! $ fjoin ! $ nothing ! $ fjoin ! $ move ! (1 ∷ 0 ∷ []) $ fjoin ! $
        move ! (1 ∷ 2 ∷ []) $ join ! $ feq_i ! (List Val) (vunit ∷ []) (vunit ∷ []) refl $ keep ! (1 ∷ 2 ∷ 0 ∷ []) $ done !))))))

pub put_spec : {M : Type 1} → statement M
put_spec 𝓤 𝓛 𝓜 𝓡 wired X U L LU g d dd met _ =
    let E : El = record { row = X; laws = L; al = record { row = U; laws = LU; g = g; d = d; drops = dd } } in
    proved_at 𝓛 (ended E) (stayed E) (held E 𝓛 𝓜 𝓡) 𝓜 𝓡
    (Goes-ref 𝓛 3 0 tt (plain (λ _. Row E)), (Goes-dropped 𝓛 3 (plain (λ _. usize)) yes (λ κs x f. refl), (Goes-dropped 𝓛 3 (plain (λ _. R E)) no (λ κs x f. refl), tt)))
    (#self (args (record { row = X; laws = L }) E.al)) (here E) (code.unfolded 𝓤 𝓛.H 𝓜 𝓡 wired (X, (U, tt)) d dd)
    (λ y are.
    let got = P.one (record { row = X; laws = L }) y.0.4.1.1.0 ((P.lawful (record { row = X; laws = L }) 𝓛).typed y.0.3.1.1.0 y.0.4.1.1.0 are.1.1.0) in
    subst (λ (vss : Vals (ended E).signature y.0.0). Goes E 𝓛 𝓜 𝓡 (at E 𝓛 𝓜 𝓡 y vss)) (sym (λ k. (are.0.0 k, (are.1.0.0 k, (got.1 k, tt))))) (walk E 𝓛 𝓜 𝓡 y are.1.0.1 got.0 got.2))
