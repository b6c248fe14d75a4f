use Rattle.std.proofs.Common.{◌≡◌, ◌∙◌, ◌+◌, ◌-◌, [], ap, arith, length, map, sym}
use Rattle.std.specs.List.{flat_map, range_with_len}
use Rattle.std.proofs.lemmas.List.{get_or-map}
use Rattle.std.proofs.lemmas.List.FromFn.{length-map-range_with_len, get_or-map-range_with_len}
use Rattle.std.proofs.lemmas.Result.{IfOk-weaker}
use Rattle.lama_work.specs.Pieces.{piece_start}
use Rattle.lama_rank.specs.Rounds.{all_edges, after_block, after_round, blocks_of, edges_of_block}
use Rattle.lama_rank.proofs.Pieces.{lists-in-pieces, whole-round}
use Rattle.lama_rank.proofs.ByBlock.{get_or-any, flat-pieces}
use Rattle.lama_rank.proofs.round.round.Goals as goal

pub pieces_of_round-requires-clause-pieces : goal.pieces_of_round-requires-clause-pieces
pieces_of_round-requires-clause-pieces g c = λ lives outlive k d lt.
    let rows = g.R.Rows.rows c.args.rows.now in
    let blocks = c.args.blocks in
    let parts = map (λ part. map (λ list. list.items) part.items) c.args.parts.now in
    let many = sym (length-map-range_with_len (edges_of_block parts) 0 blocks) in
    lists-in-pieces rows c.requires.below (blocks_of blocks parts) c.requires.lists (length c.args.degrees.now) blocks c.requires.degrees many c.requires.any
    c.args.shares.now (length c.args.shares.now) c.requires.shares c.requires.few k d lt

pub returns : goal.returns
returns g c =
    let rows = g.R.Rows.rows c.args.rows.now in
    let blocks = c.args.blocks in
    let last = c.args.last in
    let degrees = c.args.degrees.now in
    let shares = c.args.shares.now in
    let parts = map (λ part. map (λ list. list.items) part.items) c.args.parts.now in
    let lists = blocks_of blocks parts in
    let size : length lists ≡ blocks = length-map-range_with_len (edges_of_block parts) 0 blocks in
    let n = length degrees in
    let after = after_block last degrees shares lists in
    let rs = map after (range_with_len 0 blocks) in
    let whole = whole-round rows c.requires.below lists c.requires.lists n blocks c.requires.degrees (sym size) c.requires.any
    (λ l. l) last degrees shares rs (length-map-range_with_len after 0 blocks)
    (λ i d e lt.
    let many = length-map-range_with_len after 0 blocks in
    get_or-map (λ l. l) rs i d d (omega (arith, lt, many))
    ∙ (get_or-map-range_with_len after 0 blocks i i d lt (omega arith)
    ∙ (λ j. after_round last degrees shares (get_or-any lists i [] e (omega (arith, lt, size)) j) (range_with_len (piece_start n (size j) i) (piece_start n (size j) (i + 1) - piece_start n (size j) i))))) in
    IfOk-weaker c.joined.result _ (λ v. v.items ≡ after_round last degrees shares (all_edges rows) (range_with_len 0 (length rows)))
    (λ v is.
    is
    ∙ (ap (flat_map (λ piece. flat_map (λ block. block.items) piece.items)) c.deref.ensures.value
    ∙ (flat-pieces (λ piece. piece.items) (λ block. block.items) c.in_ok-pieces.pieces.items
    ∙ (ap (flat_map (λ l. l)) c.in_ok-pieces.ensures ∙ whole))))
    c.joined.ensures
