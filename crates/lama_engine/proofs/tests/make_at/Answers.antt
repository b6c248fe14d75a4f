use Rattle.std.proofs.Common.{rules, ◌<◌, length}
use Rattle.lama_engine.proofs.Passes.{numbers-set}
use Rattle.lama_engine.proofs.tests.make_at.Goals as goal

pub returns-clause-numbers : goal.returns-clause-numbers
returns-clause-numbers g c = let at : c.args.at < length c.args.passes.now.items = search rules in numbers-set c.args.passes.now.items c.args.at c.index_mut.result.now c.make.new.pass at c.index_mut.ensures.value c.make.ensures.caller
