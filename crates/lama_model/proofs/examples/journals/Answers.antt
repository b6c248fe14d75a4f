use Rattle.std.proofs.Common.{refl}
use Rattle.lama_model.specs.Journal.{reply_to_write, reply_at, after, standing}
use Rattle.lama_model.proofs.examples.journals.Goals as goal

pub returns : goal.returns
unfolding reply_to_write reply_at after standing
returns c = record { graphs = refl; numbers = refl; floors = refl; prefixes = refl; standing_edges = refl }
