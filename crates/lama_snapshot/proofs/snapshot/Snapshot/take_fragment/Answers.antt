use Rattle.std.proofs.Common.{◌≡◌, ◌∙◌, ◌+◌, ◌-◌, ◌<◌, List, ◌∷◌, ◌++◌, length, get_or, map, [], ap, sym, subst, arith, ℕ, eqb}
use Rattle.std.specs.Prelude.{slice_index}
use Rattle.std.specs.declared.vec.Vec.{Vec}
use Rattle.std.specs.declared.alloc.Global.{Global}
use Rattle.lama_snapshot.specs.declared.level.Cell.{Cell}
use Rattle.lama_snapshot.specs.Cells.{standing, mark_at}
use Rattle.lama_snapshot.specs.Chains.{place_cells}
use Rattle.lama_snapshot.proofs.Fragment.{place-step, take-step, pass-step}
use Rattle.lama_snapshot.proofs.snapshot.Snapshot.take_fragment.Goals as goal
use Rattle.lama_snapshot.proofs.snapshot.Snapshot.take_fragment.Goals.{then-stands+in_ok-push, else-stands}

pub stands-requires : goal.stands-requires
stands-requires c =
    let snap = c.args.self.now in let at = c.args.start in let l = c.loop-left in
    let step = place-step c.self.inside snap c.self.view_is c.self.invariant.snap at.v at.level l.place l.left l.invariant.place c.loop-left-test.true in
    let same = l.invariant.marks ∙ ap (λ k. get_or snap.columns.marks k []) l.invariant.table in
    subst (λ (xs : List ℕ). l.place < length xs) (sym same) step.cell.mark

pub overflow_add-place : goal.overflow_add-place
overflow_add-place c =
    let snap = c.args.self.now in let at = c.args.start in let l = c.loop-left in
    let step = place-step c.self.inside snap c.self.view_is c.self.invariant.snap at.v at.level l.place l.left l.invariant.place c.loop-left-test.true in
    let n = step.few in
    omega (arith, n)

pub loop-left-preserved : goal.loop-left-preserved
loop-left-preserved c =
    let snap = c.args.self.now in let at = c.args.start in let l = c.loop-left in let n = c.saturating_sub-table.result in
    let step = place-step c.self.inside snap c.self.view_is c.self.invariant.snap at.v at.level l.place l.left l.invariant.place c.loop-left-test.true in
    let e = l.invariant.end in let some = c.loop-left-test.true in
    let same = l.invariant.marks ∙ ap (λ k. get_or snap.columns.marks k []) l.invariant.table in
    let sees : c.stands.result ≡ eqb (mark_at snap.columns (record { table = at.level - snap.layout.floor; place = l.place })) 0 = c.stands.ensures ∙ ap (λ xs. eqb (slice_index xs l.place) 0) same in
    let cell : record { table = n; place = l.place } ≡ record { table = at.level - snap.layout.floor; place = l.place } = λ j. record { table = l.invariant.table j; place = l.place } in
    let row = place_cells snap.layout at.v at.level l.place l.left in let rest = place_cells snap.layout at.v at.level (l.place + 1) (l.left - 1) in
    let whole = c.args.cells.now.items ++ map (λ p. p.1) (standing snap.columns (place_cells snap.layout at.v at.level at.offset at.left)) in
    let so_far : c.if-stands.cells.items ++ map (λ p. p.1) (standing snap.columns rest) ≡ whole = elim c.if-stands.branch [
      | then-stands+in_ok-push w ↦ take-step snap.columns l.cells.items c.if-stands.cells.items whole row (step.target, record { table = at.level - snap.layout.floor; place = l.place }) rest step.reads l.invariant.so_far
          (sym sees ∙ w.if-stands.true) (ap (λ (x : Vec Cell Global). x.items) w.cells-is ∙ (w.in_ok-push.ensures.items ∙ ap (λ k. l.cells.items ++ k ∷ []) cell))
      | else-stands w ↦ pass-step snap.columns l.cells.items c.if-stands.cells.items whole row (step.target, record { table = at.level - snap.layout.floor; place = l.place }) rest step.reads l.invariant.so_far
          (sym sees ∙ w.if-stands.false) (ap (λ (x : Vec Cell Global). x.items) w.cells-is)
    ] in
    record { place = step.rest; end = omega (arith, e, some); table = l.invariant.table; marks = l.invariant.marks; so_far = so_far }
