use Rattle.std.proofs.Common.{◌∙◌, ◌+◌, ◌-◌, ap, arith, drop, length, take}
use Rattle.std.proofs.lemmas.List.FromFn.{length-map-range_with_len}
use Rattle.lama_bfs.specs.Flat.{edges_below}
use Rattle.lama_bfs.proofs.FlatRows.{below-more, below-le, firsts-length, row-between, start-is}
use Rattle.lama_bfs.proofs.flat.Flat.row.Goals as goal

pub index-requires : goal.index-requires
index-requires g c =
    let rows = g.R.Rows.rows c.args.rows.now in
    let n = ap length c.requires.flat.starts_are ∙ length-map-range_with_len (edges_below rows) 0 (length rows + 1) in
    let lt = c.requires.within in
    omega (arith, n, lt, c.args.self.now.starts.ok.0)

pub index-requires-2 : goal.index-requires-2
index-requires-2 g c =
    let rows = g.R.Rows.rows c.args.rows.now in
    let n = ap length c.requires.flat.starts_are ∙ length-map-range_with_len (edges_below rows) 0 (length rows + 1) in
    let lt = c.requires.within in
    omega (arith, n, lt, c.args.self.now.starts.ok.0)

pub slice_bounds-result-count : goal.slice_bounds-result-count
slice_bounds-result-count g c =
    let rows = g.R.Rows.rows c.args.rows.now in
    let lt = c.requires.within in
    let a = c.index.ensures ∙ start-is rows c.args.self.now.starts.items c.args.self.now.targets.items c.requires.flat c.args.u c.index.result.now (omega (arith, lt)) in
    let b = c.index-2.ensures ∙ start-is rows c.args.self.now.starts.items c.args.self.now.targets.items c.requires.flat (c.args.u + 1) c.index-2.result.now (omega (arith, lt)) in
    let more = below-more rows c.args.u lt in
    omega (arith, a, b, more)

pub slice_bounds-result-start : goal.slice_bounds-result-start
slice_bounds-result-start g c =
    let rows = g.R.Rows.rows c.args.rows.now in
    let lt = c.requires.within in
    let a = c.index.ensures ∙ start-is rows c.args.self.now.starts.items c.args.self.now.targets.items c.requires.flat c.args.u c.index.result.now (omega (arith, lt)) in
    let b = c.index-2.ensures ∙ start-is rows c.args.self.now.starts.items c.args.self.now.targets.items c.requires.flat (c.args.u + 1) c.index-2.result.now (omega (arith, lt)) in
    let more = below-more rows c.args.u lt in
    omega (arith, a, b, more)

pub slice_bounds-result-end : goal.slice_bounds-result-end
slice_bounds-result-end g c =
    let rows = g.R.Rows.rows c.args.rows.now in
    let lt = c.requires.within in
    let b = c.index-2.ensures ∙ start-is rows c.args.self.now.starts.items c.args.self.now.targets.items c.requires.flat (c.args.u + 1) c.index-2.result.now (omega (arith, lt)) in
    let le = below-le rows (c.args.u + 1) in
    let n = c.deref.ensures.len in
    let m = ap length c.requires.flat.targets_are ∙ firsts-length rows in
    omega (arith, b, le, n, m)

pub returns : goal.returns
returns g c =
    let rows = g.R.Rows.rows c.args.rows.now in
    let lt = c.requires.within in
    let a = c.index.ensures ∙ start-is rows c.args.self.now.starts.items c.args.self.now.targets.items c.requires.flat c.args.u c.index.result.now (omega (arith, lt)) in
    let b = c.index-2.ensures ∙ start-is rows c.args.self.now.starts.items c.args.self.now.targets.items c.requires.flat (c.args.u + 1) c.index-2.result.now (omega (arith, lt)) in
    let whole = c.deref.ensures.value ∙ c.requires.flat.targets_are in
    (λ j. take (b j - a j) (drop (a j) (whole j))) ∙ row-between rows c.args.u lt
