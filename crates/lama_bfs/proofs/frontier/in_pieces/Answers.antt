use Rattle.std.proofs.Common.{◌≡◌, refl, ◌+◌, arith, length}
use Rattle.std.specs.List.{flat_map}
use Rattle.std.proofs.lemmas.Result.{IfOk-weaker}
use Rattle.lama_work.proofs.Cover.{starts-rise, starts-within, cover, both-ok}
use Rattle.lama_bfs.specs.Frontier.{new_targets}
use Rattle.lama_bfs.proofs.Marks.{new-joins}
use Rattle.lama_bfs.proofs.frontier.in_pieces.Goals as goal

pub map_pieces-requires-clause-accepts : goal.map_pieces-requires-clause-accepts
map_pieces-requires-clause-accepts g c = λ life outlives i lt.
    let n = length c.args.us.now in
    let w = c.args.workers in
    (starts-rise n w c.requires.some i (i + 1) (omega arith), starts-within n w c.requires.some (i + 1) (omega (arith, lt)), c.requires.within, c.requires.flat)

pub returns : goal.returns
returns g c =
    let rows = g.R.Rows.rows c.args.rows.now in
    let us = c.args.us.now in
    let n = length us in
    let w = c.args.workers in
    IfOk-weaker c.map_pieces.result _ (λ v. flat_map (λ piece. piece) v.items ≡ new_targets rows c.args.seen.now us)
    (λ v both. cover (λ piece. piece) (new_targets rows c.args.seen.now) (new-joins rows c.args.seen.now) refl us n w c.requires.some refl v.items both.0
    (λ i d lt. (both.1 i d lt).met))
    (both-ok c.map_pieces.result _ _ c.map_pieces.ensures.len c.map_pieces.ensures.each)
