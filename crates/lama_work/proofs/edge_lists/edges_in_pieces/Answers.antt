use Rattle.std.proofs.Common.{◌≡◌, ◌∙◌, refl, ◌+◌, ◌≤◌, arith, length, subst, sym}
use Rattle.std.specs.List.{range_with_len, flat_map}
use Rattle.std.proofs.lemmas.Result.{IfOk-weaker}
use Rattle.std.proofs.lemmas.List.FromFn.{length-range_with_len}
use Rattle.lama_work.specs.Pieces.{piece_start}
use Rattle.lama_work.proofs.Cover.{starts-rise, starts-within, cover, both-ok}
use Rattle.lama_model.specs.Row.{edges_from}
use Rattle.lama_model.proofs.EdgePairs.{edges-join}
use Rattle.lama_work.proofs.edge_lists.edges_in_pieces.Goals as goal

pub map_pieces-requires-clause-accepts : goal.map_pieces-requires-clause-accepts
map_pieces-requires-clause-accepts g c = λ life outlives i lt.
    let n = c.count.result in
    let w = c.args.workers in
    (starts-rise n w c.requires.some i (i + 1) (omega arith), subst (λ k. piece_start n w (i + 1) ≤ k) c.count.ensures.count (starts-within n w c.requires.some (i + 1) (omega (arith, lt))))

pub returns-clause-edges : goal.returns-clause-edges
returns-clause-edges g c =
    let rows = g.R.Rows.rows c.args.rows.now in
    let n = c.count.result in
    let us = range_with_len 0 (length rows) in
    IfOk-weaker c.map_pieces.result _ (λ v. flat_map (λ piece. piece.items) v.items ≡ edges_from rows us)
    (λ v both. cover (λ piece. piece.items) (edges_from rows) (edges-join rows) refl us n c.args.workers c.requires.some (length-range_with_len 0 (length rows) ∙ sym c.count.ensures.count) v.items both.0
    (λ i d lt. (both.1 i d lt).met))
    (both-ok c.map_pieces.result _ _ c.map_pieces.ensures.len c.map_pieces.ensures.each)
