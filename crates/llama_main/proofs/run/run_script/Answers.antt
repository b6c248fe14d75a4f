use Rattle.llama_main.proofs.Runs.{Ran-concluded, Ran-nothing, concluded}
use Rattle.llama_main.proofs.Causes.{unread_run, unwritten_run}
use Rattle.llama_main.specs.Run.{RanWith}
use Rattle.llama_main.proofs.Top.{has_book}
use Rattle.llama_main.proofs.run.run_script.Given as given
use Rattle.llama_main.proofs.run.run_script.Goals as goal

run-with : (g : given.Over) (c : goal.After-book_after g) →
    RanWith (g.S.Source.left c.args.source.now) (g.S.Source.left c.read_script-answer.new.source) (g.K.Sink.written c.args.sink.now) (g.K.Sink.written c.conclude-status.new.sink) c.read_script-answer.new.session.interpreter.store.journal c.conclude-status.result
run-with g c =
    Ran-concluded _ _ _ _ _ c.in-Ok.session c.read_script-answer.new.session.interpreter.out.items c.read_script-answer.new.session.interpreter.store.journal c.read_script-answer.result c.status_after-status.result c.conclude-status.result c.in-Ok.ensures.start c.read_script-answer.ensures.has_read c.status_after-status.ensures (rw c.calls-calls.ensures at c.conclude-status.ensures.ends)

pub returns-clause-ran : goal.returns-clause-ran
returns-clause-ran g c = record { journal = c.read_script-answer.new.session.interpreter.store.journal; run = run-with g c }

pub returns-in_default-clause-ran : goal.returns-in_default-clause-ran
returns-in_default-clause-ran g c = Ran-nothing (g.S.Source.left c.args.source.now) (g.K.Sink.written c.args.sink.now)

pub returns-clause-book : goal.returns-clause-book
returns-clause-book g c = has_book _ _ _ _ c.read_script-answer.new.session.interpreter.store.journal c.conclude-status.result c.book_after.result (run-with g c) c.book_after.ensures

pub returns-clause-read_cause : goal.returns-clause-read_cause
returns-clause-read_cause g c = λ is.
    let ends = concluded (g.K.Sink.written c.read_script-answer.new.sink) (g.K.Sink.written c.conclude-status.new.sink) c.read_script-answer.new.session.interpreter.out.items c.calls-calls.result c.status_after-status.result c.conclude-status.result c.conclude-status.ensures.ends in
    c.read_script-answer.ensures.read_cause (unread_run c.read_script-answer.result c.status_after-status.result c.conclude-status.result ends c.status_after-status.ensures is)

pub returns-clause-write_cause : goal.returns-clause-write_cause
returns-clause-write_cause g c = λ is.
    unwritten_run c.read_script-answer.result c.status_after-status.result c.conclude-status.result (g.K.Sink.faults c.args.sink.now) (g.K.Sink.faults c.read_script-answer.new.sink) (g.K.Sink.faults c.conclude-status.new.sink)
    c.status_after-status.ensures (c.conclude-status.ensures.cause is) c.read_script-answer.ensures.write_cause c.read_script-answer.ensures.write_steady c.conclude-status.ensures.steady c.conclude-status.ensures.bounded is
