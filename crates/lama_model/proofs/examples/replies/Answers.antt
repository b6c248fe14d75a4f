use Rattle.std.proofs.Common.{refl}
use Rattle.lama_model.specs.Journal.{reply_to_write, reply_at, after, standing}
use Rattle.lama_model.proofs.examples.replies.Goals as goal

pub returns : goal.returns
unfolding reply_to_write reply_at after standing
returns c = record {
  vertices = refl;
  full = refl;
  source_first = refl;
  target = refl;
  nothing_there = refl;
  checkpoint = refl;
  look = refl;
  look_at = refl;
  retire = refl;
  retired = refl;
}
