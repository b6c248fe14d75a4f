use Rattle.lama_model.proofs.JournalLaws.{longer_graphs, longer_changes}
use Rattle.lama_model.proofs.laws.numbers_keep_their_graphs.Goals as goal

pub returns : goal.returns
returns c = record { graphs = longer_graphs; changes = longer_changes }
