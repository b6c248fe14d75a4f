use Rattle.std.proofs.Common.{◌++◌, ap, ◌∙◌}
use Rattle.std.proofs.lemmas.Result.{on_ok_weaker}
use Rattle.llama_main.proofs.Reading.{reply_line-refused}
use Rattle.llama_main.proofs.interpreter.Interpreter.refuse.Goals as goal

pub returns-clause-printed : goal.returns-clause-printed
returns-clause-printed c =
    let same = reply_line-refused c.args.command.now c.args.refusal in
    on_ok_weaker c.print_reply.result (λ h. h ∙ ap (λ xs. c.args.self.now.out.items ++ xs) same) c.print_reply.ensures.ok
