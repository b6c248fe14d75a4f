use Rattle.std.proofs.Common.{[], ◌<◌, arith}
use Rattle.std.proofs.lemmas.List.Elements.{All-nil}
use Rattle.lama_base.specs.declared.Edge.{Edge}
use Rattle.lama_model.proofs.Counting.{edges-counted}
use Rattle.lama_book.proofs.tests.empty_book.Goals as goal

pub from_rows-requires-clause-edges : goal.from_rows-requires-clause-edges
from_rows-requires-clause-edges g c =
    let e = edges-counted c.in_ok-rows.rows (record { count = 0; edges = [] }) c.in_ok-rows.ensures (All-nil (λ (e : Edge). e.source < 0)) in
    omega (arith, e)
