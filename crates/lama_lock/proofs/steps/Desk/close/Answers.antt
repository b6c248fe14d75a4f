use Rattle.std.proofs.Common.{◌≡◌, ap, sym, ◌∙◌, subst, Some}
use mathlib.Core.Option.{some-injective}
use Rattle.lama_lock.specs.Views.{Keeps}
use Rattle.lama_lock.specs.Steps.{IsClosed}
use Rattle.lama_lock.proofs.Callers.{none-not-some, value_or}
use Rattle.lama_lock.proofs.Ends.{closes-of}
use Rattle.lama_lock.proofs.steps.Desk.close.Goals as goal

pub unreachable-requires : goal.unreachable-requires
unreachable-requires g c =
    let t = c.requires.all in
    let k = closes-of g.B.Kept.journal (Keeps g.B.Kept.fits g.B.Kept.room) c.args.self.table.shared.key _ _ c.args.seat.id _ t.0 t.1 c.close_with-closed.ensures.values.2 t.2 c.requires.some in
    none-not-some k.0 (sym c.in_default.is ∙ some-injective c.take-value.result (Some k.0) (sym c.take-value.ensures.value ∙ k.1))

pub returns : goal.returns
returns g c = λ ms is.
    let t = c.requires.all in
    let k = closes-of g.B.Kept.journal (Keeps g.B.Kept.fits g.B.Kept.room) c.args.self.table.shared.key _ _ c.args.seat.id _ t.0 t.1 c.close_with-closed.ensures.values.2 t.2 c.requires.some in
    let same : k.0 ≡ c.in-Some.value = λ i. value_or k.0 ((some-injective (Some k.0) c.take-value.result (sym k.1 ∙ c.take-value.ensures.value) ∙ c.in-Some.is) i) in
    subst (λ x. IsClosed g.B.Kept.journal (Keeps g.B.Kept.fits g.B.Kept.room) c.args.self.table.shared.key x ms) same
    (subst (λ l. IsClosed g.B.Kept.journal (Keeps g.B.Kept.fits g.B.Kept.room) c.args.self.table.shared.key k.0 l) (ap (λ v. v.members) (sym t.1 ∙ is)) k.2)
