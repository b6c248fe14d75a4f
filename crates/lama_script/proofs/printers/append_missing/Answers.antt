use Rattle.std.proofs.Common.{◌++◌, codes, decimal}
use Rattle.lama_model.specs.Lines.{refusal_line}
use Rattle.lama_model.specs.declared.answers.Refusal.TheVariants.{NoSnapshot}
use Rattle.lama_script.proofs.Appending.{appended, appended_last, missing-pieces}
use Rattle.lama_script.proofs.printers.append_missing.Goals as goal

pub returns-clause-ok : goal.returns-clause-ok
returns-clause-ok c =
    let old = c.args.out.now.items in
    let first = codes "no snapshot " ++ decimal c.args.asked in
    let second = codes " of " ++ decimal c.args.oldest in
    let third = codes " " ++ decimal c.args.newest in
    let one = rw c.from.ensures at c.in_ok-append_number.ensures.ok in
    let two = rw c.from-2.ensures at c.in_ok-append_number-2.ensures.ok in
    let three = rw c.from-3.ensures at c.in_ok-append_number-3.ensures.ok in
    appended_last c.append_text.result old ((first ++ second) ++ third) c.append_number-3.new.out.items (codes "\n") c.append_text.new.out.items
    (refusal_line (NoSnapshot c.args.asked c.args.oldest c.args.newest))
    (appended old (first ++ second) c.append_number-2.new.out.items third c.append_number-3.new.out.items
    (appended old first c.append_number.new.out.items second c.append_number-2.new.out.items one two) three)
    (missing-pieces c.args.asked c.args.oldest c.args.newest) c.append_text.ensures.ok
