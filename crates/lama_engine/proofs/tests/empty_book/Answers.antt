use Rattle.std.proofs.lemmas.List.Elements.{All-nil}
use Rattle.lama_model.specs.Graph.{no_graph}
use Rattle.lama_model.specs.Opening.{empty_opening}
use Rattle.lama_engine.proofs.tests.empty_book.Goals as goal

pub returns : goal.returns
returns g c = c.in_ok-book.ensures.book empty_opening (c.in_ok-opening.ensures.opens no_graph (All-nil _) c.in_ok-rows.ensures)
