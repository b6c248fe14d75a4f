-- `item_at` hands on the `&` to the item at `i` that a `&` to the vector holds.
use Rattle.std.proofs.Common.{◌≡◌, ℕ, ◌+◌, ◌*◌, ◌^◌, ◌<◌, List, [], ◌∷◌, length, get_or, refl, subst, ◌∙◌, arith, w64}
use Rattle.std.proofs.raw_atomic.Walks.{proved}
use mir.Syntax.{named, ty_ptr}
use mir.Val.{Val, vint, vptr}
use mir.MapTy.{inst_fn}
use base.Fraction.{full_share}
use base.Logic.{SProp, never, fst∗}
use base.Fml.{Fml, ftrue, fsep, fhide, fat, flft}
use types.Logic.{sem}
use types.Kit.{‵, raw, ◌⊛◌, given, at_ret, ◌$◌, ◌∵◌, !, qed, move, keep, drop, use1, split, join, learn, rewrite, fsplit, fjoin, feq_i, flt_l, suffices, done}
use types.Run.{stop, addr, size_lit, of_opd, bin, first, blocks, exec, returns, enter}
use types.ByLocal.{alloc_all, pass_all, free_all, look_at, take_at, give_at, get, through, sets, sets_last, env}
use contract.Monad.{fact}
use contract.Running.{tables}
use denote.Exit.{yes}
use denote.RattleType.{RattleType, owns}
use denote.Array.{Array}
use denote.Builtin.{RefOf, usize}
use denote.Memory.{hidden_shr, shared_of}
use denote.Opens.{unhide}
use denote.Param.{param}
use denote.Plain.{uint_vals, uint_Tells}
use denote.RawPtr.{Ptr, RawPtr, null_ptr, ptr_val, block_of, count_of, in_a_block, rawptr_vals, rawptr_Tells, rawptr_Lawful}
use denote.Ref.{shr_vals, shr_Tells}
use denote.Signature.{plain, types_at}
use denote.Steps.{nothing}
use denote.Struct.Lending.{lent_at, lent_out}
use denote.Struct.Owning.{shape}
use denote.Struct.Struct.{Struct}
use denote.Triple.Walked.{says, Stays, stay_dropped, walk_of, ends_at, Goes-dropped}
use Rattle.core.proofs.alloc.Calls.{Al}
use Rattle.core.proofs.mem.Param as P
use Rattle.core.proofs.ptr.Rows.{times_below, one_below}
use Rattle.core.proofs.slice.Lists.{hd, any-default}
use Rattle.core.proofs.slots.Bodies.{after}
use Rattle.core.proofs.slots.Leases.{args}
use Rattle.std_alloc.specs.contracts.vec.Vec as V
use Rattle.std_alloc.proofs.VecSteps.El.{El, sz}
use Rattle.lama_pages.proofs.Fields.{one_lent}
use Rattle.lama_array.specs.contracts.table.item_at.{ended, clauses}
use Rattle.lama_array.specs.contracts.table.item_at.Key.{name as #self}
use Rattle.lama_array.proofs.table.item_at.Statement.{statement}
use Rattle.lama_array.proofs.table.item_at.Code as code

pub item_at_spec : {M : Type 1} → statement M
item_at_spec 𝓤 𝓛 𝓜 𝓡 wired X U L LU g d dd met _ =
    let H = 𝓛.H in let 𝓣 = tables 𝓤 H 𝓜 𝓡 𝓡.env in let R : RattleType = param 0 X in let W : RattleType = param 1 U in let En = ended X U g d dd in
    let K : P.El = record { row = X; laws = L } in let Z : Al = record { row = U; laws = LU; g = g; d = d; drops = dd } in let E : El = record { row = X; laws = L; al = Z } in let fn = inst_fn (args K Z) code.function in
    let Row : RattleType = V.the_row R W g in let items = RefOf (0 ∷ []) tt (plain (λ _. Row)) (λ _. tt) in let c = clauses X U g d dd 𝓛 𝓜.mem 𝓡.returns in
    let hs : Stays En.signature.params En.kept = (stay_dropped items yes, (stay_dropped (plain (λ _. RawPtr)) yes, (stay_dropped (plain (λ _. usize)) yes, tt))) in
    proved 𝓛 En hs c 𝓜 𝓡 (Goes-dropped 𝓛 3 items yes (λ κs x f. refl), (Goes-dropped 𝓛 3 (plain (λ _. RawPtr)) yes (λ κs x f. refl), (Goes-dropped 𝓛 3 (plain (λ _. usize)) yes (λ κs x f. refl), tt)))
    (#self (args K Z)) fn (code.unfolded 𝓤 H 𝓜 𝓡 wired (X, (U, tt)) d dd)
    (λ κs. (shr_vals, (rawptr_vals, (uint_vals w64, tt)))) (λ κs. (shr_Tells (named 0) κs.0 Row, (rawptr_Tells, (uint_Tells w64, tt)))) (λ κs qs bounds a gh are.
    let κ = κs.0 in let q = qs.0 in let rb : ℕ = a.0.ref_ptr.0 in let ro : ℕ = a.0.ref_ptr.1 in let h = a.0.now in let p : Ptr = a.1.0 in let i : ℕ = a.1.1.0 in let s : ℕ = sz E in let xs : List X.Denot = h.items in
    let y : (walk_of 𝓛 En hs c).Ghost = ((κs, qs, bounds, a, (vptr rb ro ∷ [], (ptr_val p ∷ [], (vint w64 i ∷ [], tt)))), gh) in let Post : Val → SProp 𝓤 = (walk_of 𝓛 En hs c).post y in
    let others : Fml = fsep (flft κs.1.0 qs.1.0) (fsep (flft κs.1.1.0 qs.1.1.0) ftrue) in
    qed 𝓛 (((‵ (flft κ q) ⊛ ‵ others) ⊛ ‵ (owns (types_at En.signature.params κs) a y.0.4)) ∷ raw (fact 𝓤 _) ∷ raw (fact 𝓤 _) ∷ given ((p ≡ h.ptr) × (i < h.len)) (‵ ftrue) ∷ []) ∵
    keep ! (3 ∷ 0 ∷ []) $ learn ! (λ asked. drop ! $
    let ix : i < length xs = subst (λ (k : ℕ). i < k) h.ok.0 asked.1 in let within : i < h.cap = omega (arith, asked.1, h.ok.1) in let dv : X.Denot = hd xs (omega arith) in let x : X.Denot = get_or xs i dv in
    split ! $ split ! $ move ! (2 ∷ []) $ fsplit ! $ fsplit ! $ drop ! $
    use1 𝓛 (‵ (hidden_shr (Struct (shape (V.the_type R W g))) κ (h.ptr, (h.len, (h.cap, (h.alloc, tt)))) rb ro) ⊛ ‵ (fhide (V.the_lent R W g h h.ptr κ)))
    (lent_out 𝓛 (V.struct R W g) (V.the_codes X.Denot U.Denot R.coded W.coded) (V.the_heap R W g) (V.the_lent R W g) κ h rb ro) $ split ! $ drop ! $
    unhide ! $ fsplit ! $ flt_l ! (λ fit.
    in_a_block ! h.ptr (λ r. lent_at (Array R h.len) r xs κ) (fst∗ 𝓤 (never 𝓤) (sem 𝓛 (shared_of (Array R h.len) xs (block_of null_ptr) (count_of null_ptr) κ))) (λ b o at. fsplit ! $ drop ! $ fsplit ! $ drop ! $
    use1 𝓛 (‵ (hidden_shr R κ x b (i * s + o))) (one_lent R 𝓛 κ b xs i dv o ix) $
    keep ! (2 ∷ 3 ∷ 0 ∷ []) $
    let small : s < 2 ^ 63 = one_below h.cap s (2 ^ 63) (omega arith) fit in let tiny : s < 2 ^ 64 = omega arith in
    let part : i * s < 2 ^ 63 = times_below i h.cap s (2 ^ 63) (omega arith) fit in let far : i * s < 2 ^ 64 = omega arith in
    enter ! 𝓣.C 𝓣.Λ fn (vptr rb ro ∷ ptr_val p ∷ vint w64 i ∷ []) Post $ alloc_all ! (λ l. pass_all ! refl ((tt, tt), (((rawptr_Lawful 𝓛).typed p (ptr_val p ∷ []) refl).0, ((tt, record { fits = are.1.1.0.1 }), tt))) $ let Ev = env fn.locals l in
    take_at ! 2 $ rewrite ! 0 (λ (r : Ptr). ‵ (fat full_share ty_ptr (l 2) 0 (ptr_val r))) (asked.0 ∙ at) refl $ give_at ! 2 $ first ! $ blocks ! $
    sets ! (bin ! (get ! refl) (size_lit ! (record { fits = tiny })) (record { fits = far })) refl (tt, record { fits = far }) $
    sets ! (bin ! (get ! refl) (get ! refl) tt) refl (tt, tt) $
    sets_last ! (addr ! (through ! refl (stop !))) refl (tt, tt) $
    exec ! 𝓣.C 𝓣.Λ Ev (after 1 fn.body) (at_ret Ev Post) $ sets ! (of_opd ! (get ! refl)) refl (tt, tt) $
    returns ! (look_at ! 0 refl) $ free_all ! refl $
    suffices ! _ (ends_at 𝓛 En hs c y (vptr b (i * s + o)) (record { ref_ptr = (b, i * s + o); now = x }) (tt, (tt, (tt, tt))) (tt, (tt, (tt, tt)))) $ says ! (any-default xs i dv x ix) $
    join ! $ move ! (1 ∷ []) $ feq_i ! (List Val) (vptr b (i * s + o) ∷ []) (vptr b (i * s + o) ∷ []) refl $ fjoin ! $
    nothing ! $ nothing ! $ fjoin ! $ nothing ! $ fjoin ! $ nothing ! $ fjoin ! $ keep ! (2 ∷ 0 ∷ 1 ∷ []) $ done !)))))
