use Rattle.std.proofs.Common.{◌≡◌, ◌∙◌, ◌+◌, ◌∷◌, ◌++◌, [], arith, sym}
use Rattle.std.proofs.lemmas.List.FromFn.{map-range_with_len_more}
use Rattle.lama_bfs.specs.Flat.{edges_below}
use Rattle.lama_bfs.proofs.FlatRows.{below-more}
use Rattle.lama_bfs.proofs.flat.starts_of.Goals as goal

pub loop-u-preserved : goal.loop-u-preserved
loop-u-preserved g c =
    let rows = g.R.Rows.rows c.args.rows.now in
    let u = c.loop-u.u in
    let lt = c.loop-u-test.true in
    let count = c.count-count.ensures.count in
    let before = c.loop-u.invariant.end in
    let here = c.degree-end.ensures in
    let more = below-more rows u (omega (arith, lt, count)) in
    let end : c.loop-u.end + c.degree-end.result ≡ edges_below rows (u + 1) = omega (arith, before, here, more) in
    record {
      end = end;
      starts =
          c.in_ok-push-2.ensures.items
          ∙ ((λ j. c.loop-u.invariant.starts j ++ end j ∷ [])
          ∙ sym (map-range_with_len_more (edges_below rows) 0 (u + 1) (u + 1) (omega arith)));
    }
