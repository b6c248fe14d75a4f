use Rattle.std.proofs.Common.{◌∙◌, ◌-◌, length, ap, sym, subst, refl, arith}
use Rattle.lama_snapshot.specs.declared.level.SnapshotAt.{SnapshotAt}
use Rattle.lama_snapshot.specs.Chains.{place_cells}
use Rattle.lama_snapshot.proofs.NextLemmas.{floor-is}
use Rattle.lama_snapshot.proofs.Fragment.{StandsAt, FragmentStep, place-step, fragment-returns}
use Rattle.lama_snapshot.proofs.snapshot.Snapshot.next_cell.Goals as goal
use Rattle.lama_snapshot.proofs.snapshot.Snapshot.next_cell.Goals.{then-at-eq0+else-at-eq0-2, else-at-eq0}

stands-at : (c : goal.After-saturating_sub) → StandsAt c.args.self.now.layout (length c.args.self.now.rows) c.args.start c.if-at-eq0.at
stands-at c =
    let snap = c.args.self.now in
    let P : SnapshotAt → Type 0 = StandsAt snap.layout (length snap.rows) c.args.start in
    elim c.if-at-eq0.branch [
      | then-at-eq0+else-at-eq0-2 w ↦ (
          let e = w.next_fragment-at.ensures in let some = w.if-at-eq0-2.false in let at = c.args.start in
          subst P (sym w.at-is) (record { place = e.place; some = omega (arith, some); from = e.v; same = e.cells ∙ ap (λ k. place_cells snap.layout at.v at.level at.offset k) (sym w.if-at-eq0.true) }))
      | else-at-eq0 w ↦ (let none = w.if-at-eq0.false in subst P (sym w.at-is) (record { place = c.requires; some = omega (arith, none); from = refl; same = refl }))
    ]

step-at : (c : goal.After-saturating_sub) → (let snap = c.args.self.now in let at = c.if-at-eq0.at in FragmentStep snap.layout snap.columns (length snap.rows) at.v at.level at.offset at.left)
step-at c =
    let snap = c.args.self.now in let at = c.if-at-eq0.at in let h = stands-at c in
    place-step c.self.inside snap c.self.view_is c.self.invariant.snap at.v at.level at.offset at.left h.place h.some

pub cell_at-requires-clause-few : goal.cell_at-requires-clause-few
cell_at-requires-clause-few c = (step-at c).few

pub returns : goal.returns
returns c =
    let snap = c.args.self.now in let e = c.cell_at.ensures in let r = c.cell_at.result in
    let floor = floor-is c.self.inside snap c.deref-base.result.now c.number.result c.self.view_is c.deref-base.ensures c.number.ensures.is in
    fragment-returns snap.layout snap.columns (length snap.rows) c.args.start c.if-at-eq0.at (stands-at c.before) (step-at c.before)
    r.0 r.1.v r.1.level r.1.offset r.1.left (e.table ∙ (c.saturating_sub.ensures ∙ ap (λ k. c.if-at-eq0.at.level - k) floor)) e.place e.v e.level e.offset e.rest
