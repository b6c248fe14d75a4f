use Rattle.std.proofs.Common.{◌≡◌, ◌∙◌, suc, ◌+◌, ◌-◌, ◌<◌, [], ◌∷◌, ◌++◌, ap, append_assoc, arith, length, map, subst, sym}
use Rattle.std.specs.Prelude.{slice_index_or}
use Rattle.std.specs.List.{range_with_len}
use Rattle.std.proofs.lemmas.List.{append-nil, map_push}
use Rattle.std.proofs.lemmas.List.FromFn.{length-map-range_with_len, get_or-map-range_with_len}
use Rattle.lama_model.proofs.EdgePairs.{range-part}
use Rattle.lama_work.specs.Pieces.{piece_start}
use Rattle.lama_rank.specs.Rounds.{after_block, after_round, blocks_of, edges_of_block, AreInPiece}
use Rattle.lama_rank.proofs.round.round_of_blocks.Goals as goal

pub round_of_block-requires-clause-block : goal.round_of_block-requires-clause-block
round_of_block-requires-clause-block c =
    let parts = map (λ part. map (λ list. list.items) part.items) c.args.parts.now in
    let shares = c.args.shares.now in
    let n = length c.args.degrees.now in
    let m = length shares in
    let blocks = c.args.blocks in
    let k = c.loop-k.k in
    let lt = c.loop-k-test.true in
    let within = c.requires.within in
    let here : k < blocks = omega (arith, lt, within) in
    let at : slice_index_or (blocks_of blocks parts) k [] ≡ edges_of_block parts k = get_or-map-range_with_len (edges_of_block parts) 0 blocks k k [] here (omega arith) in
    subst (λ s. AreInPiece m s c.cut-start.result.1 shares (edges_of_block parts k)) (sym c.cut-start.ensures.start)
    (subst (λ e. AreInPiece m (piece_start n blocks k) e shares (edges_of_block parts k)) (sym c.cut-start.ensures.end)
    (subst (AreInPiece m (piece_start n blocks k) (piece_start n blocks (k + 1)) shares) at (c.requires.blocks k [] here)))

pub loop-k-preserved : goal.loop-k-preserved
loop-k-preserved c =
    let parts = map (λ part. map (λ list. list.items) part.items) c.args.parts.now in
    let last = c.args.last in
    let degrees = c.args.degrees.now in
    let shares = c.args.shares.now in
    let n = length degrees in
    let blocks = c.args.blocks in
    let lists = blocks_of blocks parts in
    let k = c.loop-k.k in
    let e = c.args.end in
    let lt = c.loop-k-test.true in
    let within = c.requires.within in
    let here : k < blocks = omega (arith, lt, within) in
    let many : blocks ≡ length lists = sym (length-map-range_with_len (edges_of_block parts) 0 blocks) in
    let at : slice_index_or lists k [] ≡ edges_of_block parts k = get_or-map-range_with_len (edges_of_block parts) 0 blocks k k [] here (omega arith) in
    let start = c.cut-start.ensures.start ∙ ap (λ m. piece_start n m k) many in
    let end = c.cut-start.ensures.end ∙ ap (λ m. piece_start n m (k + 1)) many in
    let block = c.in_ok-round_of_block.field-0 in
    let is : block.items ≡ after_block last degrees shares lists k = c.in_ok-round_of_block.ensures ∙ (λ j. after_round last degrees shares (sym at j) (range_with_len (start j) (end j - start j))) in
    let step : e - k ≡ suc (e - (k + 1)) = omega (arith, lt) in
    let rest = map (after_block last degrees shares lists) (range_with_len (k + 1) (e - (k + 1))) in
    let all = map (λ block. block.items) c.loop-k.all.items in
    ap (λ l. map (λ block. block.items) l ++ rest) c.in_ok-push.ensures.items
    ∙ (ap (λ l. l ++ rest) (map_push (λ block. block.items) c.loop-k.all.items block)
    ∙ (append_assoc all (block.items ∷ []) rest
    ∙ (ap (λ b. all ++ b ∷ rest) is
    ∙ (sym (ap (λ i. all ++ map (after_block last degrees shares lists) (range_with_len k i)) step)
    ∙ c.loop-k.invariant))))

pub returns : goal.returns
returns c =
    let parts = map (λ part. map (λ list. list.items) part.items) c.args.parts.now in
    let lists = blocks_of c.args.blocks parts in
    let all = map (λ block. block.items) c.loop-k.all.items in
    let over = c.loop-k-test.false in
    let none : c.args.end - c.loop-k.k ≡ 0 = omega (arith, over) in
    sym (append-nil all)
    ∙ (sym (ap (λ i. all ++ map (after_block c.args.last c.args.degrees.now c.args.shares.now lists) (range_with_len c.loop-k.k i)) none)
    ∙ (c.loop-k.invariant
    ∙ sym (ap (map (after_block c.args.last c.args.degrees.now c.args.shares.now lists)) (range-part c.args.first c.args.end c.args.blocks c.requires.order c.requires.within))))
