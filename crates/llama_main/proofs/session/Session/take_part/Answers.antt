use Rattle.std.proofs.Common.{◌≡◌, [], ◌++◌, ap, sym, ◌∙◌}
use Rattle.std.proofs.lemmas.Result.{on_ok_weaker, IfErr-weaker}
use Rattle.llama_main.proofs.Sessions.{empty_list, part-taken, part-stopped}
use Rattle.llama_main.proofs.session.Session.take_part.Goals as goal

pub returns-then-is_empty-clause-ok : goal.returns-then-is_empty-clause-ok
returns-then-is_empty-clause-ok g c =
    let carry = c.args.self.now.carry.items in
    let none : carry ≡ [] = sym c.as_slice.ensures.value ∙ empty_list c.as_slice.result.now (sym c.is_empty.ensures ∙ c.if-is_empty.true) in
    on_ok_weaker c.take_line.result (λ taken more. part-taken c.args.self.now.interpreter c.take_line.new.self carry c.args.part.now c.args.part.now carry c.requires.ready.no_feed c.requires.no_feed (sym (ap (λ xs. xs ++ c.args.part.now) none)) none taken more) c.take_line.ensures.ok

pub returns-then-is_empty-clause-err : goal.returns-then-is_empty-clause-err
returns-then-is_empty-clause-err g c =
    let carry = c.args.self.now.carry.items in
    let none : carry ≡ [] = sym c.as_slice.ensures.value ∙ empty_list c.as_slice.result.now (sym c.is_empty.ensures ∙ c.if-is_empty.true) in
    IfErr-weaker c.take_line.result _ _ (λ stop stops more. part-stopped c.args.self.now.interpreter stop c.take_line.new.self.out.items carry c.args.part.now c.args.part.now c.take_line.new.self.store.journal c.requires.ready.no_feed c.requires.no_feed (sym (ap (λ xs. xs ++ c.args.part.now) none)) stops more) c.take_line.ensures.err

pub returns-clause-ok : goal.returns-clause-ok
returns-clause-ok g c =
    on_ok_weaker c.take_line-answer.result (λ taken more. part-taken c.args.self.now.interpreter c.take_line-answer.new.self c.args.self.now.carry.items c.args.part.now c.deref.result.now c.clear.new.self.items c.requires.ready.no_feed c.requires.no_feed (c.deref.ensures.value ∙ (rw c.in-Ok.is at c.extend_from_slice.ensures.items)) c.clear.ensures.items taken more) c.take_line-answer.ensures.ok

pub returns-clause-err : goal.returns-clause-err
returns-clause-err g c =
    IfErr-weaker c.take_line-answer.result _ _ (λ stop stops more. part-stopped c.args.self.now.interpreter stop c.take_line-answer.new.self.out.items c.args.self.now.carry.items c.args.part.now c.deref.result.now c.take_line-answer.new.self.store.journal c.requires.ready.no_feed c.requires.no_feed (c.deref.ensures.value ∙ (rw c.in-Ok.is at c.extend_from_slice.ensures.items)) stops more) c.take_line-answer.ensures.err
