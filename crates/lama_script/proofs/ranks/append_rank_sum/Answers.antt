use Rattle.std.proofs.Common.{◌++◌, codes, decimal, sum, true}
use Rattle.lama_model.specs.Lines.{number_text, greatest, first_greatest, ranks_text}
use Rattle.lama_script.proofs.Appending.{appended, appended_last, rank_sum-pieces}
use Rattle.lama_script.proofs.ranks.append_rank_sum.Goals as goal

pub returns-clause-ok : goal.returns-clause-ok
returns-clause-ok c =
    let old = c.args.out.now.items in
    let ranks = c.args.ranks.now in
    let first = codes "rank " ++ decimal c.args.k in
    let second = codes " " ++ decimal c.args.rounds in
    let third = codes " sum " ++ decimal (sum ranks) in
    let one = rw c.from.ensures at c.in_ok-append_number.ensures.ok in
    let two = rw c.from-2.ensures at c.in_ok-append_number-2.ensures.ok in
    let upto2 = appended old first c.append_number.new.out.items second c.append_number-2.new.out.items one two in
    let upto3 = appended old (first ++ second) c.append_number-2.new.out.items third c.append_sum.new.out.items upto2 c.in_ok-append_sum.ensures.ok in
    appended_last c.append_greatest.result old ((first ++ second) ++ third) c.append_sum.new.out.items (codes " " ++ number_text (first_greatest ranks) ++ codes " " ++ decimal (greatest ranks) ++ codes "\n") c.append_greatest.new.out.items
    (ranks_text c.args.k c.args.rounds ranks true) upto3 (rank_sum-pieces c.args.k c.args.rounds ranks) c.append_greatest.ensures.ok
