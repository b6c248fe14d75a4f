use Rattle.std.proofs.Common.{◌∙◌, length, ap, sym, arith}
use Rattle.lama_model.specs.Row.{edges_in}
use Rattle.lama_snapshot.specs.Shown.{shown, columns_of}
use Rattle.lama_snapshot.specs.Snap.{Snap}
use Rattle.lama_snapshot.proofs.ChainLemmas.{length-rows_from}
use Rattle.lama_snapshot.proofs.Limits.{edges-records}
use Rattle.lama_snapshot.proofs.snapshot.Snapshot.edge_count.Goals as goal

pub returns-clause-edges : goal.returns-clause-edges
returns-clause-edges c =
    c.self.invariant.snap.edges ∙ (sym (edges-records (shown c.self.inside).layout (columns_of c.self.inside) c.self.inside.vertices c.self.invariant.snap.records_ok) ∙ ap (λ (s : Snap). edges_in s.rows) c.self.view_is)

pub returns-clause-vertices : goal.returns-clause-vertices
returns-clause-vertices c =
    let n = length-rows_from (shown c.self.inside).layout (columns_of c.self.inside) c.self.inside.vertices in
    let is = ap (λ (s : Snap). length s.rows) c.self.view_is in
    let few = c.self.invariant.snap.vertices in
    omega (arith, n, is, few)
