use Rattle.std.proofs.Common.{◌++◌, codes, decimal, length, sum, true}
use Rattle.lama_model.specs.Lines.{levels_text, found_levels, greatest}
use Rattle.lama_script.proofs.Appending.{appended, appended_last, totals_text, level_sum-pieces}
use Rattle.lama_script.proofs.analyses.append_level_sum.Goals as goal

pub returns-clause-ok : goal.returns-clause-ok
returns-clause-ok c =
    let old = c.args.out.now.items in
    let found = found_levels c.args.levels.now in
    let first = codes "bfs " ++ decimal c.args.k in
    let second = codes " " ++ decimal c.args.s in
    let totals = c.level_totals-totals.ensures in
    let one = rw c.from.ensures at c.in_ok-append_number.ensures.ok in
    let two = rw c.from-2.ensures at c.in_ok-append_number-2.ensures.ok in
    let last = rw (c.from-3.ensures, totals.reached, c.from-4.ensures, totals.greatest, totals.total) at c.append_totals.ensures.ok in
    appended_last c.append_totals.result old (first ++ second) c.append_number-2.new.out.items (totals_text (length found) (greatest found) (sum found)) c.append_totals.new.out.items
    (levels_text c.args.k c.args.s c.args.levels.now true)
    (appended old first c.append_number.new.out.items second c.append_number-2.new.out.items one two)
    (level_sum-pieces c.args.k c.args.s c.args.levels.now) last
