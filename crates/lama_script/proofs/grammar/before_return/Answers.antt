use Rattle.std.proofs.Common.{◌-◌, ◌∙◌, sym, ap, cond, length, take}
use Rattle.lama_script.proofs.Returns.{without_return-ends}
use Rattle.lama_script.proofs.grammar.before_return.Goals as goal

pub returns-then-ends_with : goal.returns-then-ends_with
returns-then-ends_with c =
    let line = c.args.line.now in
    sym (without_return-ends line ∙ ap (λ t. cond t (take (length line - 1) line) line) (sym c.ends_with.ensures.value ∙ c.if-ends_with.true))

pub returns-else-ends_with : goal.returns-else-ends_with
returns-else-ends_with c =
    let line = c.args.line.now in
    sym (without_return-ends line ∙ ap (λ t. cond t (take (length line - 1) line) line) (sym c.ends_with.ensures.value ∙ c.if-ends_with.false))
