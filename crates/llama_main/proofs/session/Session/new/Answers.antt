use Rattle.std.proofs.Common.{ap, sym, ◌∙◌, ◌++◌}
use Rattle.lama_model.specs.Script.{lines}
use Rattle.llama_main.specs.Interpreter.{expected_of}
use Rattle.llama_main.proofs.Expectations.{outcome-expected_of}
use Rattle.llama_main.proofs.session.Session.new.Goals as goal

pub returns-clause-start : goal.returns-clause-start
returns-clause-start g c = λ bytes.
    outcome-expected_of bytes ∙ (sym (c.in_ok-new.ensures.start (lines bytes)) ∙ ap (λ xs. expected_of c.in_ok-new.field-0 (lines (xs ++ bytes))) (sym c.new-2.ensures.items))
