use Rattle.std.proofs.Common.{◌∙◌, sym, ap}
use Rattle.lama_model.specs.Journal.{is_accepted}
use Rattle.lama_book.specs.Book.{Book, answers}
use Rattle.lama_book.proofs.Keeping.{refused-stays, write-stays}
use Rattle.lama_book.proofs.Calls.{accepted-from}
use Rattle.lama_book.proofs.book.Book.take.Goals as goal

pub returns-in-Refused-clause-book : goal.returns-in-Refused-clause-book
returns-in-Refused-clause-book c = λ o of.
    let now = c.args.self.now in
    refused-stays o now c.note.new.self c.args.entry c.in-Refused.field-0 c.note.ensures (ap (answers now) c.requires.call ∙ (sym c.answer-reply.ensures ∙ c.in-Refused.is)) of

pub returns-in_default : goal.returns-in_default
returns-in_default c =
    let now = c.args.self.now in
    let accepted = ap is_accepted (sym c.answer-reply.ensures) ∙ accepted-from c.answer-reply.result c.in_default.not-Refused in
    record {
      reply = c.answer-reply.ensures;
      book = λ o of. write-stays o now c.accept.new.self c.args.w c.args.entry c.accept.ensures c.requires.call accepted of;
      entry = ap (λ (x : Book). x.journal) c.accept.ensures.book;
      spare = c.accept.ensures.spare;
    }
