use Rattle.std.proofs.Common.{◌++◌, ap, ◌∙◌}
use Rattle.std.proofs.lemmas.Result.{on_ok_weaker}
use Rattle.lama_model.specs.Opening.{empty_opening}
use Rattle.lama_model.specs.Journal.{graph_of, floor_of}
use Rattle.lama_model.specs.Lines.{edges_lines}
use Rattle.llama_main.proofs.Reading.{edges-read}
use Rattle.llama_main.proofs.interpreter.Interpreter.read_edges.Goals as goal

pub returns-clause-printed : goal.returns-clause-printed
returns-clause-printed c =
    let rows = c.args.snapshot.now.rows in
    let same = ap (λ k. edges_lines k rows) c.number.ensures.is ∙ edges-read (graph_of empty_opening c.args.self.now.store.standing) (floor_of empty_opening c.args.self.now.store.standing c.args.snapshot.now.number) rows c.args.snapshot.now.number c.requires.rows in
    on_ok_weaker c.print_edges.result (λ h. h ∙ ap (λ xs. c.args.self.now.out.items ++ xs) same) c.print_edges.ensures.ok
