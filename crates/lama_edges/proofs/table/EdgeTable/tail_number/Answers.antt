use Rattle.std.proofs.Common.{ap, arith, length}
use Rattle.lama_edges.proofs.Placed.{length-slots}
use Rattle.lama_edges.proofs.table.EdgeTable.tail_number.Goals as goal

pub get-requires : goal.get-requires
get-requires c = omega (arith, c.len.ensures, c.if-i-len.true, length-slots c.self.inside.tails.items 0 c.self.inside.words, ap length c.self.view_is)
