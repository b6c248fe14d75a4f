use Rattle.std.proofs.Common.{◌∙◌, ◌+◌, length, refl, sym, ap, arith}
use Rattle.std.specs.Arc.{arc_value}
use Rattle.std.proofs.lemmas.List.{length-map}
use Rattle.lama_model.specs.declared.calls.Entry.{Entry}
use Rattle.lama_model.specs.Journal.{is_accepted}
use Rattle.lama_model.specs.declared.calls.Call.TheVariants.{Checkpoint}
use Rattle.lama_model.specs.declared.answers.Reply.TheVariants.{Snapshot}
use Rattle.lama_model.specs.declared.answers.Refusal.TheVariants.{FullKept, FullNumbers}
use Rattle.lama_book.specs.Book.{Book}
use Rattle.lama_book.proofs.Keeping.{roomier, refused-stays}
use Rattle.lama_book.proofs.Checkpointing.{checkpoint-stays}
use Rattle.lama_book.proofs.Calls.{told, checkpoint-numbers, checkpoint-kept, checkpoint-made, next-entry}
use Rattle.lama_book.proofs.book.Book.checkpoint.Goals as goal

pub returns-then-number-ge-MAX_NUMBER-clause-reply : goal.returns-then-number-ge-MAX_NUMBER-clause-reply
returns-then-number-ge-MAX_NUMBER-clause-reply g c = λ o of.
    let mid = c.enter.new.self in
    let many = c.if-number-ge-MAX_NUMBER.true in
    let n = c.newest-number.ensures in
    c.refuse.ensures.reply ∙ (sym (checkpoint-numbers mid (omega (arith, many, n))) ∙ told o c.args.self.now mid c.in_ok-enter.ensures.same Checkpoint of)

pub returns-then-number-ge-MAX_NUMBER-clause-book : goal.returns-then-number-ge-MAX_NUMBER-clause-book
returns-then-number-ge-MAX_NUMBER-clause-book g c = λ o of.
    let mid = c.enter.new.self in
    let many = c.if-number-ge-MAX_NUMBER.true in
    let n = c.newest-number.ensures in
    refused-stays o mid c.refuse.new.self (record { caller = c.args.caller; call = Checkpoint }) FullNumbers c.refuse.ensures.entry (checkpoint-numbers mid (omega (arith, many, n))) (roomier o c.args.self.now mid c.in_ok-enter.ensures.same of)

pub returns-then-len-clause-reply : goal.returns-then-len-clause-reply
returns-then-len-clause-reply g c = λ o of.
    let mid = c.enter.new.self in
    let few = c.if-number-ge-MAX_NUMBER.false in
    let n = c.newest-number.ensures in
    let many = c.if-len.true in
    let len = c.len.ensures in
    let kept = ap (λ (b : Book). length b.kept) c.self.view_is in
    let size = length-map c.self.inside.kept.items arc_value in
    c.refuse-then-len.ensures.reply ∙ (sym (checkpoint-kept mid (omega (arith, few, n)) (omega (arith, many, len, kept, size))) ∙ told o c.args.self.now mid c.in_ok-enter.ensures.same Checkpoint of)

pub returns-then-len-clause-book : goal.returns-then-len-clause-book
returns-then-len-clause-book g c = λ o of.
    let mid = c.enter.new.self in
    let few = c.if-number-ge-MAX_NUMBER.false in
    let n = c.newest-number.ensures in
    let many = c.if-len.true in
    let len = c.len.ensures in
    let kept = ap (λ (b : Book). length b.kept) c.self.view_is in
    let size = length-map c.self.inside.kept.items arc_value in
    refused-stays o mid c.refuse-then-len.new.self (record { caller = c.args.caller; call = Checkpoint }) FullKept c.refuse-then-len.ensures.entry (checkpoint-kept mid (omega (arith, few, n)) (omega (arith, many, len, kept, size))) (roomier o c.args.self.now mid c.in_ok-enter.ensures.same of)

pub returns-clause-reply : goal.returns-clause-reply
returns-clause-reply g c = λ o of.
    let mid = c.enter.new.self in
    let few = c.if-number-ge-MAX_NUMBER.false in
    let n = c.newest-number.ensures in
    let less = c.if-len.false in
    let len = c.len.ensures in
    let kept = ap (λ (b : Book). length b.kept) c.self.view_is in
    let size = length-map c.self.inside.kept.items arc_value in
    let some = c.self.invariant.some_kept in
    ap (λ k. Snapshot (k + 1)) n ∙ (sym (checkpoint-made mid (omega (arith, few, n)) (omega (arith, some, kept)) (omega (arith, less, len, kept, size))) ∙ told o c.args.self.now mid c.in_ok-enter.ensures.same Checkpoint of)

pub returns-clause-book : goal.returns-clause-book
returns-clause-book g c = λ o of.
    let mid = c.enter.new.self in
    let few = c.if-number-ge-MAX_NUMBER.false in
    let n = c.newest-number.ensures in
    let less = c.if-len.false in
    let len = c.len.ensures in
    let kept = ap (λ (b : Book). length b.kept) c.self.view_is in
    let size = length-map c.self.inside.kept.items arc_value in
    let some = c.self.invariant.some_kept in
    let made = checkpoint-made mid (omega (arith, few, n)) (omega (arith, some, kept)) (omega (arith, less, len, kept, size)) in
    let e : Entry = record { caller = c.args.caller; call = Checkpoint } in
    checkpoint-stays o mid c.note.new.self e (next-entry mid c.keep_next.new.self c.note.new.self e c.in-Ok.ensures.next c.note.ensures) refl (ap is_accepted made) (roomier o c.args.self.now mid c.in_ok-enter.ensures.same of)
