use Rattle.std.proofs.Common.{◌≡◌, length, map, take}
use Rattle.lama_rank.proofs.page_rank.degrees_of.Given as goal

abbrev pub invariant-loop-v : goal.invariant-loop-v
invariant-loop-v g l = l.degrees.items ≡ map (λ r. length r) (take l.v (g.R.Rows.rows l.rows))
