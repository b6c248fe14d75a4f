use Rattle.std.proofs.Common.{◌++◌, length, ap, sym, subst, ◌∙◌, arith}
use Rattle.std.proofs.lemmas.Result.{on_ok_weaker}
use Rattle.lama_model.specs.Opening.{empty_opening}
use Rattle.lama_model.specs.Journal.{graph_of, floor_of}
use Rattle.lama_model.specs.Labels.{AreFirst, labels}
use Rattle.lama_model.specs.Lines.{labels_text}
use Rattle.lama_model.specs.Row.{graph_of_rows}
use Rattle.lama_snapshot.specs.Snap.{Snap}
use Rattle.lama_snapshot.specs.Targets.{all_targets}
use Rattle.llama_main.proofs.Reading.{labels-read, labels-same, labels-count, labels-first}
use Rattle.llama_main.proofs.interpreter.Interpreter.read_labels.Goals as goal

pub print_labels-requires-clause-few : goal.print_labels-requires-clause-few
print_labels-requires-clause-few g c =
    let graph = graph_of empty_opening c.args.self.now.store.standing c.args.snapshot.now.number in
    let found = c.deref.ensures.value ∙ (c.in_ok-found.ensures ∙ (ap (λ (t : Snap). labels (graph_of_rows (all_targets t.rows))) c.new-targets.ensures ∙ labels-same graph c.args.snapshot.now.rows c.requires.rows.rows c.requires.rows.graph.is)) in
    let many = ap length found ∙ labels-count graph in
    let few = c.requires.rows.graph.vertices in
    omega (arith, many, few)

pub print_labels-requires-clause-first : goal.print_labels-requires-clause-first
print_labels-requires-clause-first g c =
    let graph = graph_of empty_opening c.args.self.now.store.standing c.args.snapshot.now.number in
    let found = c.deref.ensures.value ∙ (c.in_ok-found.ensures ∙ (ap (λ (t : Snap). labels (graph_of_rows (all_targets t.rows))) c.new-targets.ensures ∙ labels-same graph c.args.snapshot.now.rows c.requires.rows.rows c.requires.rows.graph.is)) in
    subst AreFirst (sym found) (labels-first graph c.requires.rows.graph.is)

pub returns-clause-printed : goal.returns-clause-printed
returns-clause-printed g c =
    let graph = graph_of empty_opening c.args.self.now.store.standing c.args.snapshot.now.number in
    let found = c.deref.ensures.value ∙ (c.in_ok-found.ensures ∙ (ap (λ (t : Snap). labels (graph_of_rows (all_targets t.rows))) c.new-targets.ensures ∙ labels-same graph c.args.snapshot.now.rows c.requires.rows.rows c.requires.rows.graph.is)) in
    let same =
    ap (λ k. labels_text k c.deref.result.now c.args.sum) c.number.ensures.is
    ∙ (ap (λ ls. labels_text c.args.snapshot.now.number ls c.args.sum) found
    ∙ labels-read (graph_of empty_opening c.args.self.now.store.standing) (floor_of empty_opening c.args.self.now.store.standing c.args.snapshot.now.number) c.args.snapshot.now.number c.args.sum) in
    on_ok_weaker c.print_labels.result (λ h. h ∙ ap (λ xs. c.args.self.now.out.items ++ xs) same) c.print_labels.ensures.ok
