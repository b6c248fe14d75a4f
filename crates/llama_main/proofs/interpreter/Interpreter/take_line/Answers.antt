use Rattle.std.proofs.Common.{◌≤◌, ◌∙◌, ap, subst, sym, Ok, Err}
use Rattle.std.proofs.lemmas.Result.{IfOk-at_ok}
use Rattle.llama_main.proofs.LineMeanings.{answered_bad, answered_many, next_skipped, next_says, taken_within, expected_bad, expected_many}
use Rattle.llama_main.proofs.interpreter.Interpreter.take_line.Goals as goal

pub returns-in-Ok-None-clause-ok : goal.returns-in-Ok-None-clause-ok
returns-in-Ok-None-clause-ok g c = λ rest.
    next_skipped c.args.self.now c.line.new.self c.args.line.now c.line.result rest c.requires.running.whole c.line.ensures.answer c.line.ensures.after (c.in-Ok-None.is ∙ ap Ok c.in-Ok-None.field-0-is)

pub returns-in-Ok-clause-ok : goal.returns-in-Ok-clause-ok
returns-in-Ok-clause-ok g c = λ rest.
    next_says c.args.self.now c.run.new.self c.line.new.self c.args.line.now c.line.result c.in-Ok-Some.item rest c.requires.running.whole c.line.ensures.answer c.line.ensures.after (c.in-Ok-Some.is ∙ ap Ok c.in-Ok-Some.field-0-is) c.run.ensures.parser (IfOk-at_ok _ c.in-Ok.is c.run.ensures.held) (IfOk-at_ok _ c.in-Ok.is c.run.ensures.printed)

pub returns-in-Err-BadLine-clause-err : goal.returns-in-Err-BadLine-clause-err
returns-in-Err-BadLine-clause-err g c = λ rest.
    let found = answered_bad c.args.self.now.parser c.args.line.now c.line.result c.in-Err-BadLine.line c.requires.running.whole c.line.ensures.answer (c.in-Err-BadLine.is ∙ ap Err c.in-Err-BadLine.field-0-is) in
    expected_bad c.args.self.now.store _ c.in-Err-BadLine.line c.args.self.now.out.items c.args.line.now rest found

pub returns-in-Err-TooLong-clause-err : goal.returns-in-Err-TooLong-clause-err
returns-in-Err-TooLong-clause-err g c = λ rest.
    let many = answered_many c.args.self.now.parser c.args.line.now c.line.result c.requires.running.whole c.line.ensures.answer (c.in-Err-TooLong.is ∙ ap Err c.in-Err-TooLong.field-0-is) in
    expected_many c.args.self.now.store _ c.args.self.now.out.items c.args.line.now rest many

pub returns-in-Ok-None-clause-within : goal.returns-in-Ok-None-clause-within
returns-in-Ok-None-clause-within g c =
    taken_within c.args.self.now.parser c.line.new.self c.args.line.now c.line.result c.in-Ok-None.field-0 c.requires.running.whole c.line.ensures.answer c.line.ensures.after c.in-Ok-None.is

pub returns-in-Ok-clause-within : goal.returns-in-Ok-clause-within
returns-in-Ok-clause-within g c =
    let within = taken_within c.args.self.now.parser c.line.new.self c.args.line.now c.line.result c.in-Ok-Some.field-0 c.requires.running.whole c.line.ensures.answer c.line.ensures.after c.in-Ok-Some.is in
    subst (λ p. p.taken ≤ 2097152) (sym c.run.ensures.parser) within
