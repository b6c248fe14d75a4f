use Rattle.std.proofs.Common.{◌++◌, codes, decimal}
use Rattle.lama_model.specs.Lines.{refusal_line}
use Rattle.lama_model.specs.declared.answers.Refusal.TheVariants.{UnknownVertex}
use Rattle.lama_script.proofs.Appending.{appended, appended_last, unknown-pieces}
use Rattle.lama_script.proofs.printers.append_unknown.Goals as goal

pub returns-clause-ok : goal.returns-clause-ok
returns-clause-ok c =
    let old = c.args.out.now.items in
    let first = codes "unknown vertex " ++ decimal c.args.vertex in
    let second = codes " of " ++ decimal c.args.count in
    let one = rw c.from.ensures at c.in_ok-append_number.ensures.ok in
    let two = rw c.from-2.ensures at c.in_ok-append_number-2.ensures.ok in
    appended_last c.append_text.result old (first ++ second) c.append_number-2.new.out.items (codes "\n") c.append_text.new.out.items
    (refusal_line (UnknownVertex c.args.vertex c.args.count))
    (appended old first c.append_number.new.out.items second c.append_number-2.new.out.items one two)
    (unknown-pieces c.args.vertex c.args.count) c.append_text.ensures.ok
