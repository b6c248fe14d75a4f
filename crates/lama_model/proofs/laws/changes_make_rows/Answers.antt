use Rattle.lama_model.specs.Change.{graph_after}
use Rattle.lama_model.proofs.ChangeLaw.{change_law}
use Rattle.lama_model.proofs.laws.changes_make_rows.Goals as goal

pub returns : goal.returns
returns c = λ g writes number v below. change_law g writes (graph_after writes g).count v below
