use Rattle.std.proofs.Common.{◌++◌, codes, decimal}
use Rattle.lama_model.specs.Row.{edges_in}
use Rattle.lama_model.specs.Lines.{edges_lines, edge_lines}
use Rattle.lama_script.proofs.Appending.{appended, appended_last, edges-pieces}
use Rattle.lama_script.proofs.printers.append_edges.Goals as goal

pub returns-clause-ok : goal.returns-clause-ok
returns-clause-ok g c =
    let old = c.args.out.now.items in
    let rows = g.R.Rows.rows c.args.rows.now in
    let first = codes "edges " ++ decimal c.args.k in
    let second = codes " " ++ decimal (edges_in rows) ++ codes "\n" in
    let one = rw c.from.ensures at c.in_ok-append_number.ensures.ok in
    let two = rw c.count_edges.ensures at c.in_ok-append_named.ensures.ok in
    appended_last c.append_rows.result old (first ++ second) c.append_named.new.out.items (edge_lines 0 rows) c.append_rows.new.out.items
    (edges_lines c.args.k rows)
    (appended old first c.append_number.new.out.items second c.append_named.new.out.items one two)
    (edges-pieces c.args.k rows) c.append_rows.ensures.ok
