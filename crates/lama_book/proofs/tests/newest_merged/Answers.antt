use Rattle.std.proofs.Common.{◌∙◌, ap}
use Rattle.std.specs.Arc.{arc_value}
use Rattle.std.proofs.lemmas.Result.{on_err_weaker}
use Rattle.lama_model.specs.Opening.{empty_opening}
use Rattle.lama_model.specs.declared.calls.Call.TheVariants.{Look}
use Rattle.lama_snapshot.specs.BaseRows.{Numbered}
use Rattle.lama_snapshot.specs.Snap.{Snap}
use Rattle.lama_book.specs.Book.{Book, IsRoomier}
use Rattle.lama_book.proofs.Installing.{merged-entry, merged-newest}
use Rattle.lama_book.proofs.tests.newest_merged.Goals as goal

pub returns-in_err-merged-clause-old : goal.returns-in_err-merged-clause-old
returns-in_err-merged-clause-old g c = merged-entry empty_opening c.args.book.now.journal c.look.new.self.journal (record { caller = 0; call = Look }) c.look.result c.look.ensures.entry
    (on_err_weaker c.look.result (λ (h : IsRoomier c.args.book.now c.look.new.self). ap (λ (b : Book). b.journal) h.book) c.look.ensures.fault)

pub returns-in_err-new-clause-old : goal.returns-in_err-new-clause-old
returns-in_err-new-clause-old g c = merged-entry empty_opening c.args.book.now.journal c.look.new.self.journal (record { caller = 0; call = Look }) c.look.result c.look.ensures.entry
    (on_err_weaker c.look.result (λ (h : IsRoomier c.args.book.now c.look.new.self). ap (λ (b : Book). b.journal) h.book) c.look.ensures.fault)

pub returns-clause-old : goal.returns-clause-old
returns-clause-old g c = merged-entry empty_opening c.args.book.now.journal c.look.new.self.journal (record { caller = 0; call = Look }) c.look.result c.look.ensures.entry
    (on_err_weaker c.look.result (λ (h : IsRoomier c.args.book.now c.look.new.self). ap (λ (b : Book). b.journal) h.book) c.look.ensures.fault)

pub returns-clause-new : goal.returns-clause-new
returns-clause-new g c =
    let b = c.args.book.now in
    let m = arc_value c.in_ok-new.field-0 in
    let is = c.in_ok-new.ensures.ok in
    let last = c.deref.ensures ∙ c.in-Ok.ensures.snapshot in
    let merged = merged-newest empty_opening b m c.requires (ap (λ (x : Numbered). x.number) is ∙ (c.in_ok-merged.ensures.number ∙ ap (λ (x : Snap). x.number) last)) (ap (λ (x : Numbered). x.rows) is ∙ (c.in_ok-merged.ensures.rows ∙ ap (λ (x : Snap). x.rows) last)) in
    merged-entry empty_opening b.journal c.look.new.self.journal (record { caller = 0; call = Look }) c.look.result c.look.ensures.entry
    (on_err_weaker c.look.result (λ (h : IsRoomier b c.look.new.self). ap (λ (x : Book). x.journal) h.book) c.look.ensures.fault) m merged
