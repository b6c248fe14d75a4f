use Rattle.std.proofs.Common.{◌++◌, codes, decimal}
use Rattle.lama_model.specs.Lines.{degrees_line}
use Rattle.lama_script.proofs.Appending.{appended, appended_last, degrees-pieces}
use Rattle.lama_script.proofs.ranks.append_degrees.Goals as goal

pub returns-clause-ok : goal.returns-clause-ok
returns-clause-ok c =
    let old = c.args.out.now.items in
    let d = c.args.d.now in
    let first = codes "degrees " ++ decimal c.args.k in
    let second = codes " " ++ decimal d.vertices in
    let third = codes " " ++ decimal d.edges in
    let fourth = codes " " ++ decimal d.greatest in
    let one = rw c.from.ensures at c.in_ok-append_number.ensures.ok in
    let two = rw c.from-2.ensures at c.in_ok-append_number-2.ensures.ok in
    let three = rw c.from-3.ensures at c.in_ok-append_number-3.ensures.ok in
    let four = rw c.from-4.ensures at c.in_ok-append_number-4.ensures.ok in
    let last = rw c.from-5.ensures at c.append_named.ensures.ok in
    let upto2 = appended old first c.append_number.new.out.items second c.append_number-2.new.out.items one two in
    let upto3 = appended old (first ++ second) c.append_number-2.new.out.items third c.append_number-3.new.out.items upto2 three in
    let upto4 = appended old (first ++ second ++ third) c.append_number-3.new.out.items fourth c.append_number-4.new.out.items upto3 four in
    appended_last c.append_named.result old ((first ++ second ++ third) ++ fourth) c.append_number-4.new.out.items (codes " " ++ decimal d.sinks ++ codes "\n") c.append_named.new.out.items
    (degrees_line c.args.k d.vertices d.edges d.greatest d.sinks) upto4 (degrees-pieces c.args.k d.vertices d.edges d.greatest d.sinks) last
