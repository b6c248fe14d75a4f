use Rattle.std.proofs.Common.{ℕ, ◌<◌, ◌∙◌, get_or, refl, subst, sym, arith}
use Rattle.lama_script.specs.Numbers.{IsLeading}
use Rattle.lama_script.proofs.Leading.{at-blank, at-end, weaker}
use Rattle.lama_script.proofs.grammar.leading_number.Goals as goal

pub returns-then-not-is_ascii_digit : goal.returns-then-not-is_ascii_digit
returns-then-not-is_ascii_digit c =
    let text = c.args.text.now in
    let i = c.loop-next.next-index in
    let count = c.loop-next.invariant.count in
    weaker c.leading_end.result (λ found is.
    let some : 0 < i = omega (arith, is.2, count) in
    subst (λ (p : ℕ × ℕ). IsLeading text p.0 p.1) (λ j. (sym is.0 j, sym (is.1 ∙ count) j))
    (at-blank text i c.loop-next.value c.loop-next.invariant.are (get_or text i 0) c.loop-next-test.true refl is.3 some)) c.leading_end.ensures

pub returns : goal.returns
returns c =
    let text = c.args.text.now in
    let i = c.loop-next.next-index in
    let count = c.loop-next.invariant.count in
    weaker c.some_number.result (λ found is.
    let some : 0 < i = omega (arith, is.2, count) in
    subst (λ (p : ℕ × ℕ). IsLeading text p.0 p.1) (λ j. (sym is.0 j, sym (is.1 ∙ count) j))
    (at-end text i c.loop-next.value c.loop-next.invariant.are c.loop-next-test.false c.loop-next.auto.next-index-end some)) c.some_number.ensures
