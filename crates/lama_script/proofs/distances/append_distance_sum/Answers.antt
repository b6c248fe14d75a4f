use Rattle.std.proofs.Common.{◌++◌, codes, decimal, length, sum, true}
use Rattle.lama_model.specs.Lines.{distances_text, found_sums, greatest}
use Rattle.lama_script.proofs.Appending.{appended, appended_last, distance_sum-pieces}
use Rattle.lama_script.proofs.distances.append_distance_sum.Goals as goal

pub returns-clause-ok : goal.returns-clause-ok
returns-clause-ok c =
    let old = c.args.out.now.items in
    let found = found_sums c.args.reach.now in
    let totals = c.sum_totals-totals.ensures in
    let first = codes "dist " ++ decimal c.args.k in
    let second = codes " " ++ decimal c.args.s in
    let third = codes " sum " ++ decimal (length found) in
    let fourth = codes " " ++ decimal (greatest found) in
    let fifth = codes " " ++ decimal (sum found) in
    let one = rw c.from.ensures at c.in_ok-append_number.ensures.ok in
    let two = rw c.from-2.ensures at c.in_ok-append_number-2.ensures.ok in
    let three = rw (c.from-3.ensures, totals.reached) at c.in_ok-append_number-3.ensures.ok in
    let four = rw totals.greatest at c.in_ok-append_wide.ensures.ok in
    let five = rw totals.total at c.in_ok-append_wide-2.ensures.ok in
    appended_last c.append_text.result old ((((first ++ second) ++ third) ++ fourth) ++ fifth) c.append_wide-2.new.out.items (codes "\n") c.append_text.new.out.items
    (distances_text c.args.k c.args.s c.args.reach.now true)
    (appended old (((first ++ second) ++ third) ++ fourth) c.append_wide.new.out.items fifth c.append_wide-2.new.out.items
    (appended old ((first ++ second) ++ third) c.append_number-3.new.out.items fourth c.append_wide.new.out.items
    (appended old (first ++ second) c.append_number-2.new.out.items third c.append_number-3.new.out.items
    (appended old first c.append_number.new.out.items second c.append_number-2.new.out.items one two) three) four) five)
    (distance_sum-pieces c.args.k c.args.s c.args.reach.now) c.append_text.ensures.ok
