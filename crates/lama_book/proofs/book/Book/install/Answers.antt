use Rattle.std.proofs.Common.{◌≡◌, ◌∙◌, sym, ap, arith}
use Rattle.std.specs.Arc.{arc_value}
use Rattle.lama_model.specs.declared.calls.Call.TheVariants.{Install}
use Rattle.lama_model.specs.declared.calls.Entry.{Entry}
use Rattle.lama_model.specs.declared.answers.Reply.TheVariants.{Refused}
use Rattle.lama_model.specs.declared.answers.Refusal.TheVariants.{NoSnapshot}
use Rattle.lama_snapshot.specs.BaseRows.{Numbered}
use Rattle.lama_book.specs.Book.{Book, answers, newest_number, snap_at}
use Rattle.lama_book.proofs.Keeping.{roomier, refused-stays}
use Rattle.lama_book.proofs.Calls.{told, install-refused, install-found}
use Rattle.lama_book.proofs.Installing.{onto-entry, install-stays}
use Rattle.lama_book.proofs.book.Book.install.Goals as goal

pub returns-in-Some-clause-reply : goal.returns-in-Some-clause-reply
returns-in-Some-clause-reply g c = λ o of.
    let mid = c.enter.new.self in
    let k = c.number-k.ensures.is ∙ ap (λ (b : Numbered). b.number) c.deref-onto.ensures in
    let r = c.in-Some.ensures in
    c.refuse.ensures.reply ∙ (ap (λ x. Refused x) r.0 ∙ (sym (install-refused mid c.number-k.result r.1) ∙ (ap (λ n. answers mid (Install n)) k ∙ told o c.args.self.now mid c.in_ok-enter.ensures.same (Install (arc_value c.args.merged.now).number) of)))

pub returns-in-Some-clause-book : goal.returns-in-Some-clause-book
returns-in-Some-clause-book g c = λ o of.
    let mid = c.enter.new.self in
    let r = c.in-Some.ensures in
    refused-stays o mid c.refuse.new.self (record { caller = c.args.caller; call = Install c.number-k.result }) (NoSnapshot c.number-k.result mid.oldest (newest_number mid)) c.refuse.ensures.entry (install-refused mid c.number-k.result r.1) (roomier o c.args.self.now mid c.in_ok-enter.ensures.same of)

pub returns-clause-reply : goal.returns-clause-reply
returns-clause-reply g c = λ o of.
    let mid = c.enter.new.self in
    let k = c.number-k.ensures.is ∙ ap (λ (b : Numbered). b.number) c.deref-onto.ensures in
    let is = c.in_default.ensures in
    sym (install-found mid c.number-k.result is.0 is.1) ∙ (ap (λ n. answers mid (Install n)) k ∙ told o c.args.self.now mid c.in_ok-enter.ensures.same (Install (arc_value c.args.merged.now).number) of)

pub returns-clause-book : goal.returns-clause-book
returns-clause-book g c = λ o of.
    let mid = c.enter.new.self in
    let m = arc_value c.args.merged.now in
    let k = c.number-k.ensures.is ∙ ap (λ (b : Numbered). b.number) c.deref-onto.ensures in
    let is = c.in_default.ensures in
    let low = is.0 in
    let high = is.1 in
    let same = c.in_ok-enter.ensures.same.book in
    let oldest = ap (λ (x : Book). x.oldest) same in
    let newest = ap newest_number same in
    let e : Entry = record { caller = c.args.caller; call = Install c.number-k.result } in
    let at : (snap_at c.args.self.now m.number).rows ≡ (snap_at mid m.number).rows = sym (ap (λ (x : Book). (snap_at x m.number).rows) same) in
    install-stays o mid c.note.new.self m e (onto-entry mid c.put_onto.new.self c.note.new.self m e c.in-Ok.ensures.onto c.note.ensures) (ap (λ n. Install n) k)
    (omega (arith, low, k)) (omega (arith, high, k)) (c.requires (omega (arith, low, k, oldest)) (omega (arith, high, k, newest)) ∙ at) (roomier o c.args.self.now mid c.in_ok-enter.ensures.same of)
