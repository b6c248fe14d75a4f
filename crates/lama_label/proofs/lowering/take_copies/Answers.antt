use Rattle.std.proofs.Common.{◌∙◌, ◌+◌, ◌∷◌, ap, drop, sym}
use Rattle.std.specs.List.{flat_map}
use Rattle.std.proofs.lemmas.List.{drop_more}
use Rattle.lama_label.specs.Lowering.{offered, take_all}
use Rattle.lama_label.proofs.Ranges.{take-append}
use Rattle.lama_label.proofs.lowering.take_copies.Goals as goal

pub loop-copy-preserved : goal.loop-copy-preserved
loop-copy-preserved c =
    let cs = c.args.copies.now in
    let i = c.loop-copy.copy-index in
    let one = c.copy-item.result in
    let ls = c.loop-copy.labels in
    let rest = flat_map (λ copy. offered 0 copy.items) (drop (i + 1) cs) in
    ap (take_all rest) (c.take_copy.ensures ∙ ap (λ l. take_all (offered 0 l) ls) c.deref.ensures.value)
    ∙ (sym (take-append (offered 0 one.items) rest ls)
    ∙ (sym (ap (λ l. take_all (flat_map (λ copy. offered 0 copy.items) l) ls) (drop_more cs i one c.loop-copy-test.true ∙ ap (λ q. q ∷ drop (i + 1) cs) (sym c.copy-item.is)))
    ∙ c.loop-copy.invariant))
