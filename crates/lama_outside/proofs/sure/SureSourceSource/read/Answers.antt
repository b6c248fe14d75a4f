use Rattle.std.proofs.Common.{◌∙◌, sym, ap}
use Rattle.lama_outside.proofs.Pieces.{gives-rest}
use Rattle.lama_outside.proofs.sure.SureSourceSource.read.Goals as goal

pub returns-clause-given : goal.returns-clause-given
returns-clause-given c = rw (← c.self.view_is) (gives-rest _ _ _ _ _ (c.bytes.ensures ∙ sym (ap (λ m. m.bytes) c.self.view_is)) c.copy_piece-count.ensures.moves)
