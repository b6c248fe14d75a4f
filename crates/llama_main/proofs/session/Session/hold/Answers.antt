use Rattle.std.proofs.Common.{◌≡◌, ◌++◌, ap, sym, ◌∙◌, arith, List, ℕ, ◌+◌, false}
use Rattle.std.proofs.lemmas.List.{append_assoc, length-append}
use Rattle.std.proofs.lemmas.List.Elements.{All-append}
use Rattle.lama_model.specs.Script.{lines, is_line_feed}
use Rattle.lama_model.specs.Script.End.{BadAt}
use Rattle.llama_main.specs.Interpreter.{expected_of}
use Rattle.llama_main.specs.Stop.{last_of}
use Rattle.llama_main.proofs.Sessions.{some_list, expected_of-many, expected_of-long}
use Rattle.llama_main.proofs.session.Session.hold.Goals as goal

pub returns-then-taken-ge-MAX_LINES-clause-err : goal.returns-then-taken-ge-MAX_LINES-clause-err
returns-then-taken-ge-MAX_LINES-clause-err c = λ more.
    expected_of-many c.args.self.now.interpreter (c.args.self.now.carry.items ++ (c.args.part.now ++ more))
    (omega (arith, some_list c.args.part.now (sym c.is_empty.ensures ∙ c.if-is_empty.false), length-append c.args.self.now.carry.items (c.args.part.now ++ more), length-append c.args.part.now more)) (omega arith)

pub returns-then-part-len-clause-err : goal.returns-then-part-len-clause-err
returns-then-part-len-clause-err c = λ more.
    let i = c.args.self.now.interpreter in
    let carry = c.args.self.now.carry.items in
    let line = carry ++ c.args.part.now in
    ap (λ (xs : List ℕ). expected_of i (lines xs)) (sym (append_assoc carry c.args.part.now more))
    ∙ (expected_of-long i line more (All-append (λ b. is_line_feed b ≡ false) carry c.args.part.now c.requires.ready.no_feed c.requires.no_feed) (omega (arith, length-append carry c.args.part.now)) (omega arith) ∙ ap (λ (n : ℕ). last_of i.out.items i.store.journal (BadAt (n + 1))) (sym c.taken-taken.ensures.count))
