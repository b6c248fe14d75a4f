use Rattle.lama_model.proofs.JournalLemmas.{graph_cut, newest_counted}
use Rattle.lama_model.proofs.laws.snapshots_are_prefixes.Goals as goal

pub returns : goal.returns
returns c = record { prefix = graph_cut; numbers = newest_counted }
