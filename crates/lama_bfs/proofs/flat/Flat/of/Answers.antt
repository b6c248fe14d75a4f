use Rattle.std.proofs.Common.{◌∙◌, ◌+◌, ap, arith, length}
use Rattle.std.proofs.lemmas.List.FromFn.{length-map-range_with_len}
use Rattle.lama_bfs.specs.Flat.{edges_below}
use Rattle.lama_bfs.proofs.flat.Flat.of.Goals as goal

pub all_targets-requires-clause-starts : goal.all_targets-requires-clause-starts
all_targets-requires-clause-starts g c =
    let rows = g.R.Rows.rows c.args.rows.now in
    let n = ap length (c.deref.ensures.value ∙ c.in_ok-starts.ensures) ∙ length-map-range_with_len (edges_below rows) 0 (length rows + 1) in
    omega (arith, n)
