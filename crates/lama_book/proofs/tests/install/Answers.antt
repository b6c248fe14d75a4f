use Rattle.std.proofs.Common.{ap}
use Rattle.std.specs.Arc.{arc_value}
use Rattle.std.proofs.lemmas.Result.{on_err_weaker}
use Rattle.lama_model.specs.Opening.{empty_opening}
use Rattle.lama_model.specs.declared.calls.Call.TheVariants.{Install}
use Rattle.lama_book.specs.Book.{Book, IsRoomier}
use Rattle.lama_book.proofs.Installing.{may-install, merged-entry}
use Rattle.lama_book.proofs.tests.install.Goals as goal

pub install-requires : goal.install-requires
install-requires g c = may-install empty_opening c.args.book.now (arc_value c.args.merged.now) c.requires.book c.requires.merged

pub returns-clause-merged : goal.returns-clause-merged
returns-clause-merged g c = merged-entry empty_opening c.args.book.now.journal c.install.new.self.journal (record { caller = 0; call = Install (arc_value c.args.merged.now).number }) c.install.result c.install.ensures.entry
    (on_err_weaker c.install.result (λ (h : IsRoomier c.args.book.now c.install.new.self). ap (λ (b : Book). b.journal) h.book) c.install.ensures.fault)
