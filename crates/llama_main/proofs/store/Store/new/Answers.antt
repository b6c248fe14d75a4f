use Rattle.std.proofs.lemmas.List.Elements.{All-nil}
use Rattle.lama_model.specs.Graph.{no_graph}
use Rattle.lama_model.specs.Opening.{empty_opening}
use Rattle.llama_main.proofs.store.Store.new.Goals as goal

pub invariant_of-result : goal.invariant_of-result
invariant_of-result g c = c.in_ok-new.ensures.book empty_opening (c.in_ok-opening.ensures.opens no_graph (All-nil _) c.in_ok-rows.ensures)
