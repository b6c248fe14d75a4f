use Rattle.std.proofs.Common.{◌≡◌, map, take}
use Rattle.lama_rank.specs.Rounds.{share}
use Rattle.lama_rank.proofs.page_rank.first_shares.Given as goal

abbrev pub invariant-loop-degree : goal.invariant-loop-degree
invariant-loop-degree l = l.shares.items ≡ map (λ d. share d 1000000) (take l.degree-index l.degrees)
