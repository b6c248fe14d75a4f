use Rattle.lama_model.proofs.CertificateLaw.{distance-told, untold}
use Rattle.lama_model.proofs.laws.certificates_tell_distances.Goals as goal

pub returns : goal.returns
returns c = record {
  told = λ rows count s v reach r below source h lt is. distance-told rows count s reach below source h v r lt is;
  untold = λ rows count s v reach c below source h lt none. untold rows count s reach below source h v c none;
}
