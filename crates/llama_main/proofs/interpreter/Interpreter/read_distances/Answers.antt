use Rattle.std.proofs.Common.{◌++◌, ap, ◌∙◌, arith}
use Rattle.std.proofs.lemmas.Result.{on_ok_weaker}
use Rattle.lama_model.specs.Opening.{empty_opening}
use Rattle.lama_model.specs.Journal.{graph_of, floor_of}
use Rattle.lama_model.specs.Lines.{distances_text}
use Rattle.llama_main.proofs.RankReading.{edges-of-graph}
use Rattle.llama_main.proofs.DistanceReading.{distances-read, distances-refused}
use Rattle.llama_main.proofs.interpreter.Interpreter.read_distances.Goals as goal

pub distances-requires-clause-edges : goal.distances-requires-clause-edges
distances-requires-clause-edges g c =
    let rows = c.args.snapshot.now.rows in
    let graph = graph_of empty_opening c.args.self.now.store.standing c.args.snapshot.now.number in
    let many = edges-of-graph graph rows c.requires.rows c.requires.graph.is in
    let few = c.requires.graph.edges in
    omega (arith, many, few)

pub returns-in_ok-found-clause-printed : goal.returns-in_ok-found-clause-printed
returns-in_ok-found-clause-printed g c =
    let rows = c.args.snapshot.now.rows in
    let lt = c.if-s-count.true in
    let count = c.count-count.ensures.count in
    let many = c.requires.rows.count in
    let found = c.deref.ensures.value ∙ c.in_ok-found.ensures.found in
    let same =
    ap (λ k. distances_text k c.args.s c.deref.result.now c.args.sum) c.number.ensures.is
    ∙ (ap (λ reach. distances_text c.args.snapshot.now.number c.args.s reach c.args.sum) found
    ∙ distances-read (graph_of empty_opening c.args.self.now.store.standing) (floor_of empty_opening c.args.self.now.store.standing c.args.snapshot.now.number) rows c.args.snapshot.now.number c.args.s c.args.sum c.requires.rows c.requires.graph.is (omega (arith, lt, count, many))) in
    on_ok_weaker c.print_dist.result (λ h. h ∙ ap (λ xs. c.args.self.now.out.items ++ xs) same) c.print_dist.ensures.ok

pub returns-else-s-count-clause-printed : goal.returns-else-s-count-clause-printed
returns-else-s-count-clause-printed g c =
    let same = distances-refused (graph_of empty_opening c.args.self.now.store.standing) (floor_of empty_opening c.args.self.now.store.standing c.args.snapshot.now.number) c.count-count.result c.args.snapshot.now.number c.args.s c.args.sum (c.count-count.ensures.count ∙ c.requires.rows.count) c.if-s-count.false in
    on_ok_weaker c.refuse_vertex.result (λ h. h ∙ ap (λ xs. c.args.self.now.out.items ++ xs) same) c.refuse_vertex.ensures.printed
