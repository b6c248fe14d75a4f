use Rattle.std.proofs.Common.{◌++◌, length, ap, ◌∙◌, arith}
use Rattle.std.proofs.lemmas.Result.{on_ok_weaker}
use Rattle.lama_model.specs.Opening.{empty_opening}
use Rattle.lama_model.specs.Journal.{graph_of, floor_of}
use Rattle.lama_model.specs.Ranks.{ranks}
use Rattle.lama_model.specs.Lines.{ranks_text}
use Rattle.lama_model.specs.Row.{graph_of_rows}
use Rattle.lama_snapshot.specs.Snap.{Snap}
use Rattle.lama_snapshot.specs.Targets.{all_targets}
use Rattle.lama_snapshot.proofs.TargetRows.{count-targets}
use Rattle.llama_main.proofs.RankReading.{ranks-read, ranks-count}
use Rattle.llama_main.proofs.interpreter.Interpreter.read_ranks.Goals as goal

pub print_rank-requires : goal.print_rank-requires
print_rank-requires g c =
    let rows = c.args.snapshot.now.rows in
    let found = c.deref.ensures.value ∙ (c.in_ok-found.ensures ∙ ap (λ (t : Snap). ranks (graph_of_rows (all_targets t.rows)) c.args.rounds) c.new-targets.ensures) in
    let many = ap length found ∙ (ranks-count (graph_of_rows (all_targets rows)) c.args.rounds ∙ count-targets rows) in
    let count = c.requires.rows.rows.count in
    let few = c.requires.rows.graph.vertices in
    omega (arith, many, count, few)

pub returns-clause-printed : goal.returns-clause-printed
returns-clause-printed g c =
    let graph = graph_of empty_opening c.args.self.now.store.standing c.args.snapshot.now.number in
    let rows = c.args.snapshot.now.rows in
    let found = c.deref.ensures.value ∙ (c.in_ok-found.ensures ∙ ap (λ (t : Snap). ranks (graph_of_rows (all_targets t.rows)) c.args.rounds) c.new-targets.ensures) in
    let same =
    ap (λ k. ranks_text k c.args.rounds c.deref.result.now c.args.sum) c.number.ensures.is
    ∙ (ap (λ rs. ranks_text c.args.snapshot.now.number c.args.rounds rs c.args.sum) found
    ∙ ranks-read (graph_of empty_opening c.args.self.now.store.standing) (floor_of empty_opening c.args.self.now.store.standing c.args.snapshot.now.number) c.args.snapshot.now.number rows c.requires.rows.rows c.requires.rows.graph.is c.args.rounds c.args.sum) in
    on_ok_weaker c.print_rank.result (λ h. h ∙ ap (λ xs. c.args.self.now.out.items ++ xs) same) c.print_rank.ensures.ok
