use Rattle.std.proofs.Common.{arith}
use Rattle.lama_edges.proofs.TableLemmas.{slots_up_to}
use Rattle.lama_edges.proofs.table.EdgeTable.build.Goals as goal

pub push_fragment-requires : goal.push_fragment-requires
push_fragment-requires g c =
    grind (arith, slots_up_to c.args.fragments.now c.loop-fragment.fragment-index c.fragment-item.result)

pub returns-in_err-push_fragment-clause-at_most : goal.returns-in_err-push_fragment-clause-at_most
returns-in_err-push_fragment-clause-at_most g c =
    grind (arith, slots_up_to c.args.fragments.now c.loop-fragment.fragment-index c.fragment-item.result)
