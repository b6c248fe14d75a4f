use Rattle.std.proofs.Common.{◌≡◌, map}
use Rattle.std.proofs.lemmas.Result.{IfOk-weaker}
use Rattle.lama_work.proofs.Cover.{both-ok}
use Rattle.lama_label.specs.Lowering.{take_edges}
use Rattle.lama_label.proofs.Rounds.{copies-are}
use Rattle.lama_label.proofs.lowering.copies_of.Goals as goal

pub returns : goal.returns
returns g c =
    let ls = c.args.labels.now in
    let us = c.args.edges.now in
    IfOk-weaker c.map_pieces.result _ (λ v. map (λ copy. copy.items) v.items ≡ map (λ piece. take_edges piece.items ls) us)
    (λ v both. copies-are (λ copy. copy.items) (λ piece. piece.items) ls v.items us both.0 (λ i d lt e. (both.1 i d lt).met e))
    (both-ok c.map_pieces.result _ _ c.map_pieces.ensures.len c.map_pieces.ensures.each)
