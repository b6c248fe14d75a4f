use Rattle.std.proofs.Common.{◌≡◌, ◌∙◌, ◌+◌, ◌-◌, ◌≤◌, ap, arith, length, refl, subst, sym}
use Rattle.std.specs.List.{flat_map, range_with_len}
use Rattle.std.proofs.lemmas.Result.{IfOk-weaker}
use Rattle.std.proofs.lemmas.List.FromFn.{length-range_with_len}
use Rattle.lama_work.specs.Pieces.{piece_start}
use Rattle.lama_work.proofs.Cover.{starts-rise, starts-within, cover}
use Rattle.lama_model.proofs.EdgePairs.{range-part}
use Rattle.lama_bfs.specs.Flat.{firsts}
use Rattle.lama_bfs.specs.Frontier.{targets_of}
use Rattle.lama_bfs.proofs.Marks.{targets-join}
use Rattle.lama_bfs.proofs.FlatRows.{all-targets}
use Rattle.lama_bfs.proofs.flat.all_targets.Goals as goal

pub returns-then-workers-eq1 : goal.returns-then-workers-eq1
returns-then-workers-eq1 g c =
    let rows = g.R.Rows.rows c.args.rows.now in
    let n = c.count.result in
    let count = c.count.ensures.count in
    let all : n - 0 ≡ length rows = omega (arith, count) in
    IfOk-weaker c.targets_between.result _ (λ v. v.items ≡ flat_map firsts rows)
    (λ v is. is
    ∙ (ap (targets_of rows) (range-part 0 n (length rows) (omega arith) (omega (arith, count)))
    ∙ (ap (λ k. targets_of rows (range_with_len 0 k)) all ∙ all-targets rows)))
    c.targets_between.ensures

pub map_pieces-requires-clause-accepts : goal.map_pieces-requires-clause-accepts
map_pieces-requires-clause-accepts g c = λ life outlives i lt.
    let n = c.count-2.result in
    let w = c.args.workers in
    (starts-rise n w c.requires.some i (i + 1) (omega arith), subst (λ k. piece_start n w (i + 1) ≤ k) c.count-2.ensures.count (starts-within n w c.requires.some (i + 1) (omega (arith, lt))), c.requires.starts)

pub returns : goal.returns
returns g c =
    let rows = g.R.Rows.rows c.args.rows.now in
    let n = c.count-2.result in
    let us = range_with_len 0 (length rows) in
    let pieces = c.in_ok-pieces.pieces.items in
    let whole : flat_map (λ piece. piece.items) pieces ≡ targets_of rows us =
    cover (λ piece. piece.items) (targets_of rows) (targets-join rows) refl us n c.args.workers c.requires.some (length-range_with_len 0 (length rows) ∙ sym c.count-2.ensures.count) pieces c.in_ok-pieces.ensures.len
    (λ i d lt. (c.in_ok-pieces.ensures.each i d lt).met) in
    IfOk-weaker c.joined.result _ (λ v. v.items ≡ flat_map firsts rows)
    (λ v is. is ∙ (ap (flat_map (λ piece. piece.items)) c.deref.ensures.value ∙ (whole ∙ all-targets rows)))
    c.joined.ensures
