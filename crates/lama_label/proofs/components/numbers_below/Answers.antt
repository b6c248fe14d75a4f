use Rattle.std.proofs.Common.{◌≡◌, ◌∙◌, ◌+◌, ◌-◌, ◌++◌, ◌∷◌, [], ap, append_assoc, arith, suc, sym}
use Rattle.std.specs.List.{range_with_len}
use Rattle.std.proofs.lemmas.List.{append-nil}
use Rattle.lama_label.proofs.components.numbers_below.Goals as goal

pub loop-v-preserved : goal.loop-v-preserved
loop-v-preserved c =
    let v = c.loop-v.v in
    let n = c.args.count in
    let lt = c.loop-v-test.true in
    let step : n - v ≡ suc (n - (v + 1)) = omega (arith, lt) in
    let rest = range_with_len (v + 1) (n - (v + 1)) in
    ap (λ l. l ++ rest) c.in_ok-push.ensures.items
    ∙ (append_assoc c.loop-v.numbers.items (v ∷ []) rest
    ∙ (sym (ap (λ k. c.loop-v.numbers.items ++ range_with_len v k) step) ∙ c.loop-v.invariant))

pub returns : goal.returns
returns c =
    let over = c.loop-v-test.false in
    let none : c.args.count - c.loop-v.v ≡ 0 = omega (arith, over) in
    sym (append-nil c.loop-v.numbers.items) ∙ (sym (ap (λ k. c.loop-v.numbers.items ++ range_with_len c.loop-v.v k) none) ∙ c.loop-v.invariant)
