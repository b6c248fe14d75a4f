use Rattle.std.proofs.Common.{◌∙◌}
use Rattle.lama_engine.proofs.Passes.{all-again}
use Rattle.lama_engine.proofs.tests.lanes_agree.Goals as goal

pub finish-requires-clause-all : goal.finish-requires-clause-all
finish-requires-clause-all g c =
    all-again c.in_ok-engine.engine c.in_ok-engine.passes.items c.in_ok-passes.passes.items (c.in_ok-passes.ensures.numbers ∙ c.make_at.ensures.numbers) c.in_ok-engine.ensures.all
