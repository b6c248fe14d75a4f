use Rattle.lama_paths.proofs.Bits.{set-is}
use Rattle.lama_paths.proofs.marks.set.Goals as goal

pub returns : goal.returns
returns c = set-is c.args.words.now c.args.v c.requires
