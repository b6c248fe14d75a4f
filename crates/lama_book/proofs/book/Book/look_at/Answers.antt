use Rattle.std.proofs.Common.{◌∙◌, sym, ap}
use Rattle.lama_model.specs.Journal.{standing}
use Rattle.lama_model.specs.declared.calls.Call.TheVariants.{LookAt}
use Rattle.lama_model.specs.declared.answers.Reply.TheVariants.{Refused}
use Rattle.lama_model.specs.declared.answers.Refusal.TheVariants.{NoSnapshot}
use Rattle.lama_book.specs.Book.{newest_number}
use Rattle.lama_book.proofs.Keeping.{roomier, stays, after-look_at, refused-stays}
use Rattle.lama_book.proofs.Calls.{told, look_at-refused, look_at-found}
use Rattle.lama_book.proofs.book.Book.look_at.Goals as goal

pub returns-in-Some-clause-reply : goal.returns-in-Some-clause-reply
returns-in-Some-clause-reply c = λ o of.
    let mid = c.enter.new.self in
    let r = c.in-Some.ensures in
    c.refuse.ensures.reply ∙ (ap (λ x. Refused x) r.0 ∙ (sym (look_at-refused mid c.args.k r.1) ∙ told o c.args.self.now mid c.in_ok-enter.ensures.same (LookAt c.args.k) of))

pub returns-in-Some-clause-book : goal.returns-in-Some-clause-book
returns-in-Some-clause-book c = λ o of.
    let mid = c.enter.new.self in
    let r = c.in-Some.ensures in
    refused-stays o mid c.refuse.new.self (record { caller = c.args.caller; call = LookAt c.args.k }) (NoSnapshot c.args.k mid.oldest (newest_number mid)) c.refuse.ensures.entry (look_at-refused mid c.args.k r.1) (roomier o c.args.self.now mid c.in_ok-enter.ensures.same of)

pub returns-clause-reply : goal.returns-clause-reply
returns-clause-reply c = λ o of.
    let mid = c.enter.new.self in
    let is = c.in_default.ensures in
    sym (look_at-found mid c.args.k is.0 is.1) ∙ told o c.args.self.now mid c.in_ok-enter.ensures.same (LookAt c.args.k) of

pub returns-clause-book : goal.returns-clause-book
returns-clause-book c = λ o of.
    let mid = c.enter.new.self in
    stays o mid c.note.new.self (record { caller = c.args.caller; call = LookAt c.args.k }) c.note.ensures (after-look_at o (standing o mid.journal) c.args.k) (roomier o c.args.self.now mid c.in_ok-enter.ensures.same of)
