use Rattle.std.proofs.Common.{◌≡◌, drop}
use Rattle.std.specs.List.{flat_map}
use Rattle.lama_bfs.specs.Frontier.{see_all}
use Rattle.lama_bfs.proofs.frontier.Search.expand_in_pieces.Given as goal

abbrev pub invariant-loop-piece : goal.invariant-loop-piece
invariant-loop-piece g l = see_all (flat_map (λ p. p) (drop l.piece-index l.piece-items)) (l.self.seen.items, l.self.next)
    ≡ see_all (flat_map (λ p. p) l.piece-items) (l.initial.self.seen.items, l.initial.self.next)
