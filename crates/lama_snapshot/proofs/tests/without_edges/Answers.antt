use Rattle.std.proofs.Common.{[], ◌<◌, arith}
use Rattle.std.proofs.lemmas.List.Elements.{All-nil}
use Rattle.lama_base.specs.declared.Edge.{Edge}
use Rattle.lama_model.proofs.Counting.{edges-counted}
use Rattle.lama_snapshot.proofs.tests.without_edges.Goals as goal

pub build-requires-clause-edges : goal.build-requires-clause-edges
build-requires-clause-edges g c =
    let e = edges-counted c.in_ok-rows.rows (record { count = c.args.count; edges = [] }) c.in_ok-rows.ensures (All-nil (λ (e : Edge). e.source < c.args.count)) in
    omega (arith, e)
