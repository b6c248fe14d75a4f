use Rattle.std.proofs.Common.{◌<◌, subst, sym, ◌∙◌, length}
use Rattle.std.proofs.lemmas.Result.{on_ok_weaker, IfErr-weaker}
use Rattle.llama_main.proofs.Sessions.{some_list, last-taken, last-stopped}
use Rattle.llama_main.proofs.session.Session.take_last.Goals as goal

pub returns-clause-ok : goal.returns-clause-ok
returns-clause-ok g c =
    let carry = c.args.self.now.carry.items in
    let some : 0 < length carry = subst (λ xs. 0 < length xs) c.as_slice.ensures.value (some_list c.as_slice.result.now (sym c.is_empty.ensures ∙ c.if-is_empty.false)) in
    on_ok_weaker c.take_line-answer.result (λ taken. last-taken c.args.self.now.interpreter c.take_line-answer.new.self carry c.deref.result.now c.clear.new.self.items c.requires.ready.no_feed some c.deref.ensures.value c.clear.ensures.items taken) c.take_line-answer.ensures.ok

pub returns-clause-err : goal.returns-clause-err
returns-clause-err g c =
    let carry = c.args.self.now.carry.items in
    let some : 0 < length carry = subst (λ xs. 0 < length xs) c.as_slice.ensures.value (some_list c.as_slice.result.now (sym c.is_empty.ensures ∙ c.if-is_empty.false)) in
    IfErr-weaker c.take_line-answer.result _ _ (λ stop stops. last-stopped c.args.self.now.interpreter stop c.take_line-answer.new.self.out.items carry c.deref.result.now c.take_line-answer.new.self.store.journal c.requires.ready.no_feed some c.deref.ensures.value stops) c.take_line-answer.ensures.err
