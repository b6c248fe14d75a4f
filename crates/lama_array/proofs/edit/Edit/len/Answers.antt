use Rattle.std.proofs.Common.{◌∙◌, sym, ap, length}
use Rattle.lama_array.proofs.Paged.{length-kept}
use Rattle.lama_array.proofs.edit.Edit.len.Goals as goal

pub returns : goal.returns
returns g c = sym (length-kept _ _ c.self.invariant) ∙ ap (λ d. length d.items) c.self.view_is
