use Rattle.std.proofs.Common.{◌∙◌}
use Rattle.lama_model.specs.declared.calls.Call.TheVariants.{Write as Writes}
use Rattle.lama_book.proofs.Calls.{told}
use Rattle.lama_book.proofs.book.Book.write.Goals as goal

pub returns-clause-reply : goal.returns-clause-reply
returns-clause-reply c = λ o of. c.take.ensures.reply ∙ told o c.args.self.now c.enter.new.self c.in_ok-enter.ensures.same (Writes c.args.w) of
