use Rattle.std.proofs.Common.{sym, ◌∙◌, drop}
use Rattle.lama_model.proofs.PassLemmas.{all-kept}
use Rattle.lama_model.proofs.laws.one_caller_sees_its_own_calls.Goals as goal

pub returns : goal.returns
returns c = λ v w call place one s. sym (s.mine ∙ all-kept w.caller (drop w.start w.seen) (s.caller ∙ one) s.named)
