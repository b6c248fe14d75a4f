use Rattle.std.proofs.Common.{◌%◌}
use Rattle.lama_delta.proofs.Sieves.{set-keeps}
use Rattle.lama_delta.proofs.sieve.mark.Goals as goal

pub returns-clause-kept : goal.returns-clause-kept
returns-clause-kept c = λ i h. set-keeps c.widen.new.marks.items (c.args.target % 4096) i (c.in_ok-widen.ensures.kept i h)
