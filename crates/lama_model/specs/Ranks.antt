-- PageRank in whole numbers: each vertex divides its rank among its out-edges, and the least whole part counts.
use Rattle.std.specs.Prelude.{ℕ, zero, suc, ◌+◌, ◌*◌, ◌/◌, ◌==◌, List, map, filter, sum_by}
use Rattle.std.specs.List.{range_with_len}
use Rattle.lama_model.specs.Graph.{Graph}
use Rattle.lama_model.specs.Degrees.{out_degree}

-- the next rank of a vertex to which shares of this sum are handed: 85 hundredths of them, and 150,000 besides
abbrev pub rank_of_sum : ℕ → ℕ
rank_of_sum s = 150000 + (85 * s) / 100

-- the rank of v after so many rounds: at first 1,000,000, and then by the share that each edge to v hands on from its source
abbrev pub rank : Graph → ℕ → ℕ → ℕ
rank g zero v = 1000000
rank g (suc i) v = rank_of_sum (sum_by (λ e. rank g i e.source / out_degree e.source g.edges) (filter (λ e. e.target == v) g.edges))

-- the ranks of all vertices after so many rounds
unfoldable pub ranks : Graph → ℕ → List ℕ
ranks g i = map (rank g i) (range_with_len 0 g.count)
