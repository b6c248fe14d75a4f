use Rattle.lama_model.proofs.GraphSteps.{rows-through}
use Rattle.lama_model.proofs.laws.changes_lead_to_later_rows.Goals as goal

pub returns : goal.returns
returns c = λ o journal k n v is low high. rows-through o journal k n v is low high
