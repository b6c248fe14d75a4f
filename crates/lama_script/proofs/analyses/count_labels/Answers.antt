use Rattle.std.proofs.Common.{◌≡◌, ◌∙◌, ap, arith, drop}
use Rattle.std.proofs.lemmas.List.{drop_all}
use Rattle.lama_script.specs.Totals.{own_from}
use Rattle.lama_script.proofs.Owning.{own-count}
use Rattle.lama_script.proofs.analyses.count_labels.Goals as goal

pub returns : goal.returns
returns c =
    let labels = c.args.labels.now in
    let v = c.loop-v.v in
    let none : own_from v (drop v labels) ≡ 0 = ap (own_from v) (drop_all v labels c.loop-v-test.false) in
    let so_far = c.loop-v.invariant.so_far in
    let all : c.loop-v.count ≡ own_from 0 labels = omega (arith, none, so_far) in
    all ∙ own-count labels c.requires.first
