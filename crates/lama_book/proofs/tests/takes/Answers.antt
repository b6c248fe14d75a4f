use Rattle.std.proofs.Common.{ap}
use Rattle.std.proofs.lemmas.Result.{on_err_weaker}
use Rattle.lama_model.specs.Opening.{empty_opening}
use Rattle.lama_model.specs.declared.calls.Call.TheVariants.{Write, Checkpoint}
use Rattle.lama_book.specs.Book.{Book, IsRoomier}
use Rattle.lama_book.proofs.Installing.{merged-entry}
use Rattle.lama_book.proofs.tests.takes.Goals as goal

pub returns-in-Some-clause-merged : goal.returns-in-Some-clause-merged
returns-in-Some-clause-merged g c = merged-entry empty_opening c.args.book.now.journal c.write.new.self.journal (record { caller = 0; call = Write c.in-Some.w }) c.write.result c.write.ensures.entry
    (on_err_weaker c.write.result (λ (h : IsRoomier c.args.book.now c.write.new.self). ap (λ (b : Book). b.journal) h.book) c.write.ensures.fault)

pub returns-in-None-clause-merged : goal.returns-in-None-clause-merged
returns-in-None-clause-merged g c = merged-entry empty_opening c.args.book.now.journal c.checkpoint.new.self.journal (record { caller = 0; call = Checkpoint }) c.checkpoint.result c.checkpoint.ensures.entry
    (on_err_weaker c.checkpoint.result (λ (h : IsRoomier c.args.book.now c.checkpoint.new.self). ap (λ (b : Book). b.journal) h.book) c.checkpoint.ensures.fault)
