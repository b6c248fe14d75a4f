use Rattle.std.proofs.Common.{◌≡◌, ◌++◌, drop}
use Rattle.std.specs.List.{flat_map}
use Rattle.lama_bfs.proofs.flat.joined.Given as goal

abbrev pub invariant-loop-piece : goal.invariant-loop-piece
invariant-loop-piece l = l.all.items ++ flat_map (λ piece. piece.items) (drop l.piece-index l.pieces) ≡ flat_map (λ piece. piece.items) l.pieces
