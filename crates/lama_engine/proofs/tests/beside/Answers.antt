use Rattle.std.proofs.Common.{rules, ◌≡◌, ◌∙◌, ap, length, All, subst, sym}
use Rattle.lama_lock.specs.Hall.{IsPassOf, numbers}
use Rattle.lama_engine.proofs.Passes.{ran-ours, ran-numbers}
use Rattle.lama_engine.proofs.tests.beside.Goals as goal

pub returns-clause-ours : goal.returns-clause-ours
returns-clause-ours g c =
    let len : length c.in_ok-ran.ran.items ≡ length c.args.passes.items = search rules in
    subst (λ l. All (IsPassOf c.args.engine.now) l) (sym c.in_ok-passes.ensures)
    (ran-ours c.args.engine.now c.args.passes.items c.in_ok-ran.ran.items (length c.args.passes.items) len (λ i d lt. (c.in_ok-ran.ensures.each i d (search rules)).ours))

pub returns-clause-numbers : goal.returns-clause-numbers
returns-clause-numbers g c =
    let len : length c.in_ok-ran.ran.items ≡ length c.args.passes.items = search rules in
    ap (λ l. numbers l) c.in_ok-passes.ensures
    ∙ ran-numbers c.args.passes.items c.in_ok-ran.ran.items len (λ i d e lt. (c.in_ok-ran.ensures.each i d (search rules)).caller e)
