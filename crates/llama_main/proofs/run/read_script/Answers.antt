use Rattle.std.proofs.Common.{sym, subst, List, ℕ, Err}
use Rattle.llama_main.specs.declared.stop.Stop.TheVariants.{NoMemory}
use Rattle.llama_main.specs.Run.{HasRead}
use Rattle.llama_main.proofs.Runs.{HasRead-nothing}
use Rattle.llama_main.proofs.run.read_script.Goals as goal

pub returns-in-Err-clause-has_read : goal.returns-in-Err-clause-has_read
returns-in-Err-clause-has_read g c =
    let left = g.S.Source.left c.args.source.now in
    let written = g.K.Sink.written c.args.sink.now in
    let journal = c.args.session.now.interpreter.store.journal in
    subst (λ (out : List ℕ). HasRead left left written written c.args.session.now out journal (Err NoMemory)) (sym c.requires.none) (HasRead-nothing left written c.args.session.now journal)
