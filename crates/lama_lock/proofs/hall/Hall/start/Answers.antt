use Rattle.lama_lock.specs.Views.{Keeps}
use Rattle.lama_lock.proofs.Starts.{founds}
use Rattle.lama_lock.proofs.hall.Hall.start.Goals as goal

pub vacant-requires : goal.vacant-requires
vacant-requires g c = founds g.B.Kept.journal (Keeps g.B.Kept.fits g.B.Kept.room) (record { value = c.args.value; callers = c.args.callers }) c.taken-length.result c.taken-length.ensures c.requires.some c.requires.few
