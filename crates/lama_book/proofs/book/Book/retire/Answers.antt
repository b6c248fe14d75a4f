use Rattle.std.proofs.Common.{◌∙◌, refl, sym, ap}
use Rattle.lama_model.specs.declared.calls.Call.TheVariants.{Retire}
use Rattle.lama_model.specs.declared.calls.Entry.{Entry}
use Rattle.lama_model.specs.declared.answers.Reply.TheVariants.{Kept, Refused}
use Rattle.lama_model.specs.declared.answers.Refusal.TheVariants.{NoSnapshot}
use Rattle.lama_book.specs.Book.{newest_number}
use Rattle.lama_book.proofs.Keeping.{roomier, refused-stays}
use Rattle.lama_book.proofs.Calls.{told, retire-refused, retire-found}
use Rattle.lama_book.proofs.Retiring.{forgotten-entry, retire-stays}
use Rattle.lama_book.proofs.book.Book.retire.Goals as goal

pub returns-in-Some-clause-reply : goal.returns-in-Some-clause-reply
returns-in-Some-clause-reply c = λ o of.
    let mid = c.enter.new.self in
    let r = c.in-Some.ensures in
    c.refuse.ensures.reply ∙ (ap (λ x. Refused x) r.0 ∙ (sym (retire-refused mid c.args.k r.1) ∙ told o c.args.self.now mid c.in_ok-enter.ensures.same (Retire c.args.k) of))

pub returns-in-Some-clause-book : goal.returns-in-Some-clause-book
returns-in-Some-clause-book c = λ o of.
    let mid = c.enter.new.self in
    let r = c.in-Some.ensures in
    refused-stays o mid c.refuse.new.self (record { caller = c.args.caller; call = Retire c.args.k }) (NoSnapshot c.args.k mid.oldest (newest_number mid)) c.refuse.ensures.entry (retire-refused mid c.args.k r.1) (roomier o c.args.self.now mid c.in_ok-enter.ensures.same of)

pub returns-clause-reply : goal.returns-clause-reply
returns-clause-reply c = λ o of.
    let mid = c.enter.new.self in
    let is = c.in_default.ensures in
    ap (Kept c.args.k) c.newest-newest.ensures ∙ (sym (retire-found mid c.args.k is.0 is.1) ∙ told o c.args.self.now mid c.in_ok-enter.ensures.same (Retire c.args.k) of)

pub returns-clause-book : goal.returns-clause-book
returns-clause-book c = λ o of.
    let mid = c.enter.new.self in
    let is = c.in_default.ensures in
    let e : Entry = record { caller = c.args.caller; call = Retire c.args.k } in
    retire-stays o mid c.note.new.self c.args.k e (forgotten-entry mid c.forget_below.new.self c.note.new.self c.args.k e c.forget_below.ensures c.note.ensures) refl is.0 is.1 (roomier o c.args.self.now mid c.in_ok-enter.ensures.same of)
