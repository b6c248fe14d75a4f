use Rattle.std.proofs.Common.{◌≡◌, ◌+◌, arith, map, refl}
use Rattle.std.specs.List.{flat_map, range_with_len}
use Rattle.std.proofs.lemmas.List.{map-append}
use Rattle.std.proofs.lemmas.List.FromFn.{length-range_with_len}
use Rattle.std.proofs.lemmas.Result.{IfOk-weaker}
use Rattle.lama_work.proofs.Cover.{starts-rise, starts-within, cover, both-ok}
use Rattle.lama_rank.specs.Rounds.{after_block, blocks_of}
use Rattle.lama_rank.proofs.round.pieces_of_round.Goals as goal

pub map_pieces-requires-clause-accepts : goal.map_pieces-requires-clause-accepts
map_pieces-requires-clause-accepts g c = λ lives outlive i lt.
    let n = c.args.blocks in
    let w = c.args.workers in
    (c.requires.any, c.requires.blocks, c.requires.room, starts-rise n w c.requires.some i (i + 1) (omega arith), starts-within n w c.requires.some (i + 1) (omega (arith, lt)), c.requires.lists, c.requires.pieces)

pub returns : goal.returns
returns g c =
    let blocks = c.args.blocks in
    let after = after_block c.args.last c.args.degrees.now c.args.shares.now (blocks_of blocks (map (λ part. map (λ list. list.items) part.items) c.args.parts.now)) in
    IfOk-weaker c.map_pieces.result _ (λ v. flat_map (λ piece. map (λ block. block.items) piece.items) v.items ≡ map after (range_with_len 0 blocks))
    (λ v both. cover (λ piece. map (λ block. block.items) piece.items) (map after) (λ us ws. map-append after us ws) refl (range_with_len 0 blocks) blocks c.args.workers c.requires.some (length-range_with_len 0 blocks) v.items both.0
    (λ i d lt. (both.1 i d lt).met))
    (both-ok c.map_pieces.result _ _ c.map_pieces.ensures.len c.map_pieces.ensures.each)
