use Rattle.std.proofs.Common.{◌++◌, ap, ◌∙◌, arith}
use Rattle.std.proofs.lemmas.Result.{on_ok_weaker}
use Rattle.lama_model.specs.Opening.{empty_opening}
use Rattle.lama_model.specs.Journal.{graph_of, floor_of}
use Rattle.lama_model.specs.Lines.{row_line}
use Rattle.lama_model.specs.Row.{row_at}
use Rattle.llama_main.proofs.Reading.{row-read, row-refused}
use Rattle.llama_main.proofs.interpreter.Interpreter.read_row.Goals as goal

pub returns-then-v-count-clause-printed : goal.returns-then-v-count-clause-printed
returns-then-v-count-clause-printed c =
    let rows = c.args.snapshot.now.rows in
    let lt = c.if-v-count.true in
    let count = c.count-count.ensures.count in
    let many = c.requires.rows.count in
    let same = ap (λ k. row_line k c.args.v (row_at rows c.args.v)) c.number.ensures.is ∙ row-read (graph_of empty_opening c.args.self.now.store.standing) (floor_of empty_opening c.args.self.now.store.standing c.args.snapshot.now.number) rows c.args.snapshot.now.number c.args.v c.requires.rows (omega (arith, lt, count, many)) in
    on_ok_weaker c.print_row.result (λ h. h ∙ ap (λ xs. c.args.self.now.out.items ++ xs) same) c.print_row.ensures.ok

pub returns-else-v-count-clause-printed : goal.returns-else-v-count-clause-printed
returns-else-v-count-clause-printed c =
    let same = row-refused (graph_of empty_opening c.args.self.now.store.standing) (floor_of empty_opening c.args.self.now.store.standing c.args.snapshot.now.number) c.count-count.result c.args.snapshot.now.number c.args.v (c.count-count.ensures.count ∙ c.requires.rows.count) c.if-v-count.false in
    on_ok_weaker c.refuse_vertex.result (λ h. h ∙ ap (λ xs. c.args.self.now.out.items ++ xs) same) c.refuse_vertex.ensures.printed
