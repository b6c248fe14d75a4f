use Rattle.lama_model.proofs.LabelLaw.{labels_same}
use Rattle.lama_model.proofs.Leading.{leads-same}
use Rattle.lama_model.proofs.laws.labels_are_of_rows.Goals as goal

pub returns : goal.returns
returns c = λ g h graph same. labels_same g h graph same.count (leads-same g h same)
