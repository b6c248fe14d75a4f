use Rattle.std.proofs.Common.{◌∙◌, ◌+◌, ◌∷◌, ap, drop, sym}
use Rattle.std.specs.List.{flat_map}
use Rattle.std.proofs.lemmas.List.{drop_more}
use Rattle.lama_label.specs.Lowering.{take_edges}
use Rattle.lama_label.proofs.Ranges.{edges-append}
use Rattle.lama_label.proofs.lowering.take_lists.Goals as goal

pub loop-list-preserved : goal.loop-list-preserved
loop-list-preserved c =
    let lists = c.args.lists.now in
    let i = c.loop-list.list-index in
    let one = c.list-item.result in
    let ls = c.loop-list.labels in
    let rest = flat_map (λ list. list.items) (drop (i + 1) lists) in
    ap (take_edges rest) (c.take_edges.ensures ∙ ap (λ l. take_edges l ls) c.deref.ensures.value)
    ∙ (sym (edges-append one.items rest ls)
    ∙ (sym (ap (λ l. take_edges (flat_map (λ list. list.items) l) ls) (drop_more lists i one c.loop-list-test.true ∙ ap (λ q. q ∷ drop (i + 1) lists) (sym c.list-item.is)))
    ∙ c.loop-list.invariant))
