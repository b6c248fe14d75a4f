use Rattle.std.proofs.Common.{◌/◌, ◌%◌, eqb, ap, get_or}
use Rattle.std.proofs.lemmas.Nat.Bits.{shr_and_one}
use Rattle.lama_paths.specs.Marks.{is_set}
use Rattle.lama_paths.proofs.marks.is_set.Goals as goal

pub returns : goal.returns
unfolding is_set
returns c = ap (λ n. eqb n 1) (shr_and_one (get_or c.args.words.now (c.args.v / 64) 0) (c.args.v % 64))
