use Rattle.std.proofs.Common.{◌++◌, codes, decimal}
use Rattle.lama_model.specs.Lines.{labels_text, vertex_lines, count_labels}
use Rattle.std.proofs.Common.{false}
use Rattle.lama_script.proofs.Appending.{appended, appended_last, labels-pieces}
use Rattle.lama_script.proofs.analyses.append_labels.Goals as goal

pub returns-clause-ok : goal.returns-clause-ok
returns-clause-ok c =
    let old = c.args.out.now.items in
    let labels = c.args.labels.now in
    let first = codes "labels " ++ decimal c.args.k in
    let second = codes " " ++ decimal (count_labels labels) ++ codes "\n" in
    let one = rw c.from.ensures at c.in_ok-append_number.ensures.ok in
    let two = rw (c.from-2.ensures, c.count_labels.ensures) at c.in_ok-append_named.ensures.ok in
    appended_last c.append_label_lines.result old (first ++ second) c.append_named.new.out.items (vertex_lines decimal 0 labels) c.append_label_lines.new.out.items
    (labels_text c.args.k labels false)
    (appended old first c.append_number.new.out.items second c.append_named.new.out.items one two)
    (labels-pieces c.args.k labels) c.append_label_lines.ensures.ok
