use Rattle.std.proofs.Common.{◌≡◌, ◌+◌, ◌/◌, ◌++◌, [], ◌∙◌, ap, arith, map, replicate, subst, take}
use Rattle.std.specs.Prelude.{IfOk}
use Rattle.lama_array.specs.Held.{records_of}
use Rattle.lama_array.specs.Paged.{joined}
use Rattle.lama_array.proofs.Grown.{grown-at-edge, none-paged}
use Rattle.lama_array.proofs.version.VArray.filled.Goals as goal

pub returns-clause-items : goal.returns-clause-items
returns-clause-items g c =
    let count : 0 + c.pages_for.result ≡ (0 + c.args.n + 255) / 256 = omega (arith, c.pages_for.ensures) in
    let zero-first : c.args.n ≡ 0 + c.args.n = omega arith in
    let filled = replicate c.pages_for.result (replicate 256 c.args.x) in
    let is : take c.args.n (joined (map records_of c.push_filled.new.held.items)) ≡ replicate c.args.n c.args.x =
    ap (λ ps. take c.args.n (joined ps)) (c.in_ok-push_filled.ensures.records ∙ ap (λ hs. map records_of hs ++ filled) c.new-held.ensures.items)
    ∙ ap (λ k. take k (joined filled)) zero-first
    ∙ grown-at-edge 0 c.args.n c.pages_for.result c.args.x [] none-paged count (omega arith) in
    subst (λ items. IfOk c.freeze.result (λ version. version ≡ items)) is c.freeze.ensures
