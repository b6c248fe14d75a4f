use Rattle.std.proofs.Common.{◌≡◌, ◌∙◌, ap, sym, subst}
use Rattle.std.specs.Arc.{arc_value}
use Rattle.lama_model.specs.Opening.{opening_of}
use Rattle.lama_snapshot.specs.BaseRows.{Numbered}
use Rattle.lama_book.specs.Relation.{Opens}
use Rattle.lama_book.proofs.OpeningLemmas.{opens}
use Rattle.lama_book.proofs.opening.Opening.from_rows.Goals as goal

pub returns-clause-opens : goal.returns-clause-opens
returns-clause-opens g c = λ h is of.
    let x = c.in_ok-snapshot.snapshot in
    let rows = g.R.Rows.rows c.args.rows.now in
    let base : arc_value c.in_ok-new.field-0 ≡ c.in_ok-base.base = c.in_ok-new.ensures.ok in
    let n = c.in_ok-snapshot.ensures.number ∙ (ap (λ (b : Numbered). b.number) base ∙ c.in_ok-base.ensures.number) in
    let rs = c.in_ok-snapshot.ensures.rows ∙ (ap (λ (b : Numbered). b.rows) base ∙ c.in_ok-base.ensures.rows) in
    let whole : c.in_ok-base.base ≡ (let b : Numbered = record { number = c.args.number; rows = rows } in b) =
    ap (λ k. let b : Numbered = record { number = k; rows = c.in_ok-base.base.rows } in b) c.in_ok-base.ensures.number ∙ ap (λ r. let b : Numbered = record { number = c.args.number; rows = r } in b) c.in_ok-base.ensures.rows in
    subst (Opens (opening_of c.args.number h)) (sym c.in_ok-new-2.ensures.ok)
    (opens c.args.number rows x n (c.in_ok-snapshot.ensures.base ∙ (base ∙ whole)) rs c.in_ok-snapshot.ensures.changes c.requires.number c.requires.vertices c.requires.edges h is of)
