use Rattle.std.proofs.Common.{◌≡◌, ◌-◌, ◌++◌, ◌∙◌, sym, ap, arith, length, replicate, set, take}
use Rattle.lama_array.proofs.Filled.{filled, filled-all, filled-more, filled-whole}
use Rattle.lama_array.proofs.held.fill_from.Goals as goal

pub loop-i-preserved : goal.loop-i-preserved
loop-i-preserved g c =
    let start = c.args.page.now in
    let whole : length (filled c.args.from c.loop-i.i c.args.x start) ≡ 256 = ap length (sym c.loop-i.invariant.so_far) ∙ c.set.ensures.whole in
    record {
      so_far = c.set.ensures.records ∙ ap (λ p. set p c.loop-i.i c.args.x) c.loop-i.invariant.so_far
          ∙ filled-more 256 c.args.from c.loop-i.i c.args.x start (omega arith) (omega arith) whole;
      whole = λ _. filled-whole 256 c.args.from c.loop-i.i c.args.x start (omega arith) (omega arith) whole;
    }

pub returns : goal.returns
returns g c =
    let end : c.loop-i.i ≡ 256 = omega arith in
    let whole : length c.args.page.now ≡ 256 = c.loop-i.invariant.whole (omega arith) in
    c.loop-i.invariant.so_far
    ∙ filled-all 256 c.args.from c.loop-i.i c.args.x c.args.page.now (omega arith) (omega arith)
    ∙ ap (λ k. take c.args.from c.args.page.now ++ replicate (k - c.args.from) c.args.x) end
