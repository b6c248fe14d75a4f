use Rattle.std.proofs.Common.{◌<◌, ◌≤◌, arith, subst, sym}
use Rattle.std.specs.Prelude.{All}
use Rattle.std.proofs.lemmas.Result.{IfOk-weaker}
use Rattle.lama_base.specs.declared.Edge.{Edge}
use Rattle.lama_model.specs.Row.{edges_in}
use Rattle.lama_model.proofs.Counting.{edges-counted}
use Rattle.lama_paths.proofs.tests.rows_of.Goals as goal

pub returns-clause-few : goal.returns-clause-few
returns-clause-few c =
    let es = c.deref.result.now in
    let len = c.len.ensures in
    let few = c.if-len-gt2000000.false in
    let many = c.deref.ensures.len in
    let below : All (λ (e : Edge). e.source < c.args.count) es = subst (All (λ (e : Edge). e.source < c.args.count)) (sym c.deref.ensures.value) (λ k d lt. (c.loop-source.invariant k d lt).0) in
    IfOk-weaker c.from_edges.result _ (λ rows. edges_in rows ≤ 33554432)
    (λ rows of. let n = edges-counted rows (record { count = c.args.count; edges = es }) of below in omega (arith, n, many, len, few))
    c.from_edges.ensures
