use Rattle.std.proofs.Common.{◌≢◌, ◌++◌, ℕ, ap, subst, ◌∙◌}
use Rattle.std.specs.Prelude.{MatchOption}
use Rattle.std.specs.Arc.{arc_value}
use Rattle.std.proofs.lemmas.Result.{on_ok_weaker}
use Rattle.lama_model.specs.declared.answers.Reply.TheVariants.{Snapshot}
use Rattle.llama_main.specs.Store.{IsFound}
use Rattle.llama_main.proofs.Reading.{printed-default}
use Rattle.llama_main.proofs.interpreter.Interpreter.obey.Goals as goal

pub returns-in-None-clause-printed : goal.returns-in-None-clause-printed
returns-in-None-clause-printed g c =
    let l = c.in_ok-reply-in-Read.field-0 in
    let none : (k : ℕ) → l.reply ≢ Snapshot k = subst (λ s. MatchOption s ((k : ℕ) → l.reply ≢ Snapshot k) (λ a. IsFound c.look.new.self.standing l.reply (arc_value a))) c.in-None.is c.in_ok-reply-in-Read.ensures.found in
    let same = printed-default c.args.self.now.store c.args.command.now c.in-Read.at c.in-Read.what l.reply c.in-Read.is c.in_ok-reply-in-Read.ensures.reply none in
    on_ok_weaker c.print_reply-in-None.result (λ h. h ∙ ap (λ xs. c.args.self.now.out.items ++ xs) same) c.print_reply-in-None.ensures.ok
