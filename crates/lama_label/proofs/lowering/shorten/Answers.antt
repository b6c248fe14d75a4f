use Rattle.std.proofs.Common.{◌≡◌, ◌∙◌, ◌+◌, ◌-◌, ap, arith, length, suc, sym}
use Rattle.std.specs.List.{range_with_len}
use Rattle.lama_label.specs.Lowering.{take_one, take_own}
use Rattle.lama_label.proofs.Lowered.{length-one}
use Rattle.lama_label.proofs.lowering.shorten.Goals as goal

pub loop-v-preserved : goal.loop-v-preserved
loop-v-preserved c =
    let v = c.loop-v.v in
    let n = length c.args.labels.now in
    let lt = c.loop-v-test.true in
    let step : n - v ≡ suc (n - (v + 1)) = omega (arith, lt) in
    record {
      len = ap length c.take_one.ensures ∙ (length-one (v, c.second-label.result) c.loop-v.labels ∙ c.loop-v.invariant.len);
      left =
          ap (take_own (range_with_len (v + 1) (n - (v + 1)))) (c.take_one.ensures ∙ ap (λ l. take_one (v, l) c.loop-v.labels) c.second-label.ensures)
          ∙ (sym (ap (λ k. take_own (range_with_len v k) c.loop-v.labels) step) ∙ c.loop-v.invariant.left);
    }

pub returns : goal.returns
returns c =
    let n = length c.args.labels.now in
    let over = c.loop-v-test.false in
    let none : n - c.loop-v.v ≡ 0 = omega (arith, over) in
    sym (ap (λ k. take_own (range_with_len c.loop-v.v k) c.loop-v.labels) none) ∙ c.loop-v.invariant.left
