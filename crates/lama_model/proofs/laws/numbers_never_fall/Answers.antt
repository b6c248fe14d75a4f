use Rattle.lama_model.proofs.JournalLaws.{newest-rises, oldest-rises, floors-rise, installed-graphs}
use Rattle.lama_model.proofs.laws.numbers_never_fall.Goals as goal

pub returns : goal.returns
returns c = record { newest = newest-rises; oldest = oldest-rises; floors = floors-rise; installs = installed-graphs }
