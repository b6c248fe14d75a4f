use Rattle.std.proofs.Common.{◌++◌, ap, ◌∙◌, arith}
use Rattle.std.proofs.lemmas.Result.{on_ok_weaker}
use Rattle.lama_model.specs.Opening.{empty_opening}
use Rattle.lama_model.specs.Journal.{graph_of, floor_of}
use Rattle.lama_model.specs.Lines.{degrees_line}
use Rattle.llama_main.proofs.RankReading.{degrees-read, edges-of-graph}
use Rattle.llama_main.proofs.interpreter.Interpreter.read_degrees.Goals as goal

pub degrees-totals-requires-clause-edges : goal.degrees-totals-requires-clause-edges
degrees-totals-requires-clause-edges g c =
    let graph = graph_of empty_opening c.args.self.now.store.standing c.args.snapshot.now.number in
    let many = edges-of-graph graph c.args.snapshot.now.rows c.requires.rows.rows c.requires.rows.graph.is in
    let few = c.requires.rows.graph.edges in
    omega (arith, many, few)

pub returns-clause-printed : goal.returns-clause-printed
returns-clause-printed g c =
    let graph = graph_of empty_opening c.args.self.now.store.standing c.args.snapshot.now.number in
    let rows = c.args.snapshot.now.rows in
    let t = c.degrees-totals.result in
    let e = c.degrees-totals.ensures in
    let same =
    ap (λ k. degrees_line k t.vertices t.edges t.greatest t.sinks) c.number.ensures.is
    ∙ degrees-read (graph_of empty_opening c.args.self.now.store.standing) (floor_of empty_opening c.args.self.now.store.standing c.args.snapshot.now.number) c.args.snapshot.now.number rows c.requires.rows.rows c.requires.rows.graph.is t e.vertices e.edges e.greatest e.sinks in
    on_ok_weaker c.print_degrees.result (λ h. h ∙ ap (λ xs. c.args.self.now.out.items ++ xs) same) c.print_degrees.ensures.ok
