use Rattle.std.proofs.Common.{◌≡◌, ◌∙◌, ℕ, Bool, ◌+◌, ◌-◌, Some, ap, arith, cond, false, length, suc, sym}
use Rattle.std.specs.Prelude.{◌==◌, slice_index}
use Rattle.std.proofs.lemmas.Bool.Decides.{nat_tests}
use Rattle.lama_model.specs.Levels.{first_from}
use Rattle.lama_script.proofs.ranks.first_of.Goals as goal

pub loop-v-preserved : goal.loop-v-preserved
loop-v-preserved c =
    let ranks = c.args.ranks.now in
    let v = c.loop-v.v in
    let n = length ranks in
    let test : ℕ → Bool = λ v. slice_index ranks v == c.args.rank in
    let lt = c.loop-v-test.true in
    let other = c.if-ranks-v.false in
    let step : n - v ≡ suc (n - (v + 1)) = omega (arith, lt) in
    let no : (slice_index ranks v == c.args.rank) ≡ false = grind (arith, nat_tests, other) in
    sym (ap (first_from test v) step ∙ ap (λ b. cond b (Some v) (first_from test (v + 1) (n - (v + 1)))) no) ∙ c.loop-v.invariant
