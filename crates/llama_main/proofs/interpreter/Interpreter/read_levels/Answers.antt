use Rattle.std.proofs.Common.{◌++◌, length, ap, ◌∙◌, arith}
use Rattle.std.proofs.lemmas.Result.{on_ok_weaker}
use Rattle.lama_model.specs.Opening.{empty_opening}
use Rattle.lama_model.specs.Journal.{graph_of, floor_of}
use Rattle.lama_model.specs.Levels.{levels}
use Rattle.lama_model.specs.Lines.{levels_text}
use Rattle.lama_model.specs.Row.{edges_in, graph_of_rows}
use Rattle.lama_snapshot.specs.Snap.{Snap}
use Rattle.lama_snapshot.specs.Targets.{all_targets}
use Rattle.lama_snapshot.proofs.TargetRows.{count-targets}
use Rattle.llama_main.proofs.RankReading.{edges-of-graph, edges-of-targets}
use Rattle.llama_main.proofs.Reading.{levels-read, levels-refused, levels-count}
use Rattle.llama_main.proofs.interpreter.Interpreter.read_levels.Goals as goal

pub levels-requires-clause-edges : goal.levels-requires-clause-edges
levels-requires-clause-edges g c =
    let rows = c.args.snapshot.now.rows in
    let graph = graph_of empty_opening c.args.self.now.store.standing c.args.snapshot.now.number in
    let many = ap (λ (t : Snap). edges_in (all_targets t.rows)) c.new-targets.ensures ∙ (edges-of-targets rows ∙ edges-of-graph graph rows c.requires.rows.rows c.requires.rows.graph.is) in
    let few = c.requires.rows.graph.edges in
    omega (arith, many, few)

pub print_levels-requires : goal.print_levels-requires
print_levels-requires g c =
    let rows = c.args.snapshot.now.rows in
    let found = c.deref.ensures.value ∙ (c.in_ok-found.ensures ∙ ap (λ (t : Snap). levels (graph_of_rows (all_targets t.rows)) c.args.s) c.new-targets.ensures) in
    let many = ap length found ∙ (levels-count (graph_of_rows (all_targets rows)) c.args.s ∙ count-targets rows) in
    let count = c.requires.rows.rows.count in
    let few = c.requires.rows.graph.vertices in
    omega (arith, many, count, few)

pub returns-in_ok-found-clause-printed : goal.returns-in_ok-found-clause-printed
returns-in_ok-found-clause-printed g c =
    let graph = graph_of empty_opening c.args.self.now.store.standing c.args.snapshot.now.number in
    let rows = c.args.snapshot.now.rows in
    let lt = c.if-s-count.true in
    let count = c.count-count.ensures.count in
    let many = c.requires.rows.rows.count in
    let found = c.deref.ensures.value ∙ (c.in_ok-found.ensures ∙ ap (λ (t : Snap). levels (graph_of_rows (all_targets t.rows)) c.args.s) c.new-targets.ensures) in
    let same =
    ap (λ k. levels_text k c.args.s c.deref.result.now c.args.sum) c.number.ensures.is
    ∙ (ap (λ ls. levels_text c.args.snapshot.now.number c.args.s ls c.args.sum) found
    ∙ levels-read (graph_of empty_opening c.args.self.now.store.standing) (floor_of empty_opening c.args.self.now.store.standing c.args.snapshot.now.number) rows c.args.snapshot.now.number c.args.s c.args.sum c.requires.rows.rows c.requires.rows.graph.is (omega (arith, lt, count, many))) in
    on_ok_weaker c.print_levels.result (λ h. h ∙ ap (λ xs. c.args.self.now.out.items ++ xs) same) c.print_levels.ensures.ok

pub returns-else-s-count-clause-printed : goal.returns-else-s-count-clause-printed
returns-else-s-count-clause-printed g c =
    let graph = graph_of empty_opening c.args.self.now.store.standing c.args.snapshot.now.number in
    let same = levels-refused (graph_of empty_opening c.args.self.now.store.standing) (floor_of empty_opening c.args.self.now.store.standing c.args.snapshot.now.number) c.count-count.result c.args.snapshot.now.number c.args.s c.args.sum (c.count-count.ensures.count ∙ c.requires.rows.rows.count) c.if-s-count.false in
    on_ok_weaker c.refuse_vertex.result (λ h. h ∙ ap (λ xs. c.args.self.now.out.items ++ xs) same) c.refuse_vertex.ensures.printed
