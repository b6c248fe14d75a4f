use Rattle.std.proofs.Common.{◌≡◌, ◌∙◌, ap, sym}
use Rattle.lama_snapshot.specs.Cells.{standing}
use Rattle.lama_snapshot.specs.Chains.{place_cells}
use Rattle.lama_snapshot.proofs.Walks.{first-stands, first-hidden}
use Rattle.lama_snapshot.proofs.snapshot.Snapshot.next_standing.Goals as goal

pub returns-then-stands : goal.returns-then-stands
returns-then-stands c =
    let s = c.args.self.now in let cell = c.in-Some.cell in let at = c.in-Some.rest in let f = c.in-Some.ensures in
    let now = ap (standing s.columns) f.3.first ∙ first-stands s.columns (f.3.target, cell) (place_cells s.layout at.v at.level at.offset at.left) (sym (c.stands.ensures f.3.target) ∙ c.if-stands.true) in (
      f.0,
      f.1,
      f.2 ∙ c.loop-cell.invariant.from,
      record { target = f.3.target; slot_is = f.3.slot_is; first = sym c.loop-cell.invariant.same ∙ now },
    )

pub loop-cell-preserved : goal.loop-cell-preserved
loop-cell-preserved c =
    let s = c.args.self.now in let cell = c.in-Some.cell in let at = c.in-Some.rest in let f = c.in-Some.ensures in
    let now : standing s.columns (place_cells s.layout c.loop-cell.at.v c.loop-cell.at.level c.loop-cell.at.offset c.loop-cell.at.left) ≡ standing s.columns (place_cells s.layout at.v at.level at.offset at.left) =
    ap (standing s.columns) f.3.first ∙ first-hidden s.columns (f.3.target, cell) (place_cells s.layout at.v at.level at.offset at.left) (sym (c.stands.ensures f.3.target) ∙ c.if-stands.false) in
    record { place = f.0; from = f.2 ∙ c.loop-cell.invariant.from; same = sym now ∙ c.loop-cell.invariant.same }

pub returns : goal.returns
returns c = sym c.loop-cell.invariant.same ∙ ap (standing c.args.self.now.columns) c.in_default.ensures
