use Rattle.std.proofs.Common.{◌∙◌, sym, ap, length}
use Rattle.lama_edges.proofs.Placed.{length-slots}
use Rattle.lama_edges.proofs.table.EdgeTable.len.Goals as goal

pub returns : goal.returns
returns c = c.len.ensures ∙ sym (length-slots c.self.inside.tails.items 0 c.self.inside.words) ∙ ap length c.self.view_is
