use Rattle.std.proofs.Common.{◌∙◌, ◌-◌, ◌++◌, false, get_or, replicate, vec_len, ap, arith}
use Rattle.std.proofs.lemmas.List.{take_all}
use Rattle.lama_delta.proofs.Sieves.{append-keeps}
use Rattle.lama_delta.proofs.sieve.widen.Goals as goal

pub returns-clause-kept : goal.returns-clause-kept
returns-clause-kept c = λ i h.
    let old = c.args.marks.now.items in
    let more = replicate (4096 - vec_len c.args.marks.now) false in
    let lt = c.if-len-ge-MARKS.false in
    let n = c.len.ensures in
    ap (λ xs. get_or xs i false) c.in_ok-resize.ensures.items
    ∙ (ap (λ xs. get_or (xs ++ more) i false) (take_all 4096 old (omega (arith, lt, n))) ∙ append-keeps old more i h)
