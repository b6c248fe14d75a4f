use Rattle.std.proofs.Common.{◌≡◌, ◌∙◌, ◌+◌, ◌-◌, ap, arith, get_or, length, map}
use Rattle.std.proofs.lemmas.List.{take_at, get_or-replicate, length-replicate}
use Rattle.lama_model.specs.Ranks.{rank_of_sum}
use Rattle.lama_rank.specs.Rounds.{left_of, edges_of_block}
use Rattle.lama_rank.proofs.Pieces.{piece-is}
use Rattle.lama_rank.proofs.round.round_of_block.Goals as goal

pub returns : goal.returns
returns c =
    let k = c.args.end - c.args.start in
    let edges = edges_of_block (map (λ part. map (λ list. list.items) part.items) c.args.parts.now) c.args.k in
    let added = c.add_parts.new.sums in
    let ended = c.end_round.new.sums in
    let zeros = c.in_ok-sums.ensures.items_if_clones_equal (λ y e. e) in
    let first = c.deref_mut.ensures.value ∙ zeros in
    let size : length added ≡ k = c.add_parts.auto.sums ∙ (ap length first ∙ length-replicate k 0) in
    let second : c.deref_mut-2.result.now ≡ added = c.deref_mut-2.ensures.value ∙ take_at added _ _ (c.add_parts.auto.sums ∙ c.deref_mut.ensures.len) in
    let size' : length ended ≡ k = c.end_round.auto.sums ∙ (ap length second ∙ size) in
    take_at ended _ _ (c.end_round.auto.sums ∙ c.deref_mut-2.ensures.len)
    ∙ piece-is c.args.last c.args.degrees.now c.args.shares.now edges c.args.start k added ended size'
    (λ i lt.
    let there = c.add_parts.ensures.each i (omega (arith, lt, size)) in
    let none : get_or c.deref_mut.result.now i 0 ≡ 0 = ap (λ l. get_or l i 0) first ∙ get_or-replicate k i 0 0 lt in
    omega (arith, there, none))
    (λ i lt. c.end_round.ensures.each i (omega (arith, lt, size')) ∙ ap (λ l. left_of c.args.last (get_or c.args.degrees.now (c.args.start + i) 0) (rank_of_sum (get_or l i 0))) second)
