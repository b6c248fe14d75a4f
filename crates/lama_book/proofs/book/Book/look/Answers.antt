use Rattle.lama_model.specs.Journal.{standing}
use Rattle.lama_model.specs.declared.calls.Call.TheVariants.{Look}
use Rattle.lama_book.proofs.Keeping.{roomier, stays, after-look}
use Rattle.lama_book.proofs.book.Book.look.Goals as goal

pub returns-clause-book : goal.returns-clause-book
returns-clause-book c = λ o of.
    let mid = c.enter.new.self in
    stays o mid c.note.new.self (record { caller = c.args.caller; call = Look }) c.note.ensures (after-look o (standing o mid.journal)) (roomier o c.args.self.now mid c.in_ok-enter.ensures.same of)
