use Rattle.std.proofs.Common.{◌++◌, codes, decimal, sum, true}
use Rattle.lama_model.specs.Lines.{labels_text, count_labels, most_with_one}
use Rattle.lama_script.proofs.Appending.{appended_last, totals_text, label_sum-pieces}
use Rattle.lama_script.proofs.analyses.append_label_sum.Goals as goal

pub returns-clause-ok : goal.returns-clause-ok
returns-clause-ok c =
    let old = c.args.out.now.items in
    let labels = c.args.labels.now in
    let first = codes "labels " ++ decimal c.args.k in
    let one = rw c.from.ensures at c.in_ok-append_number.ensures.ok in
    let last = rw (c.from-2.ensures, c.count_labels-count.ensures, c.from-3.ensures, c.in_ok-most.ensures, c.sum_of.ensures) at c.append_totals.ensures.ok in
    appended_last c.append_totals.result old first c.append_number.new.out.items (totals_text (count_labels labels) (most_with_one labels) (sum labels)) c.append_totals.new.out.items
    (labels_text c.args.k labels true) one (label_sum-pieces c.args.k labels) last
