-- A round of ranks over edges that are given as source and target.
use Rattle.std.specs.Prelude.{◌≡◌, ℕ, ◌+◌, ◌/◌, ◌<◌, ◌≤◌, ◌==◌, ◌&&◌, nat_le, nat_lt, ◌-◌, ◌++◌, Bool, true, false, List, [], All, filter, length, map, sum_by, slice_index, slice_index_or}
use Rattle.std.specs.List.{flat_map, range_with_len}
use Rattle.lama_model.specs.Row.{edges_from}
use Rattle.lama_work.specs.Pieces.{piece_start}
use Rattle.lama_model.specs.Ranks.{rank_of_sum}

-- what the edges hand on to v, where each vertex hands on its share along each of its edges
abbrev pub handed : List ℕ → List (ℕ × ℕ) → ℕ → ℕ
handed shares edges v = sum_by (λ e. slice_index shares e.0) (filter (λ e. e.1 == v) edges)

-- all edges of the rows, as source and target
abbrev pub all_edges : List (List (ℕ × ℕ)) → List (ℕ × ℕ)
all_edges rows = edges_from rows (range_with_len 0 (length rows))

-- the edges to the vertices from start to before end
abbrev pub edges_to : ℕ → ℕ → List (ℕ × ℕ) → List (ℕ × ℕ)
edges_to start end edges = filter (λ e. nat_le start e.1 && nat_lt e.1 end) edges

-- the share along each of so many edges of a vertex of this rank
abbrev pub share : ℕ → ℕ → ℕ
share degree rank = rank / degree

-- what a round leaves of a vertex: its rank after the last round, and else its share
abbrev pub left_of : Bool → ℕ → ℕ → ℕ
left_of true degree rank = rank
left_of false degree rank = share degree rank

-- what a round leaves of these vertices
abbrev pub after_round : Bool → List ℕ → List ℕ → List (ℕ × ℕ) → List ℕ → List ℕ
after_round last degrees shares edges vs = map (λ v. left_of last (slice_index degrees v) (rank_of_sum (handed shares edges v))) vs

-- the edges go from vertices below the count to those from start to before end, and what they hand on to any of these is no more than all ranks of a graph
pub record AreInPiece (count start end : ℕ) (shares : List ℕ) (edges : List (ℕ × ℕ)) : Type 0 where
  pub ends : All (λ e. (e.0 < count) × (start ≤ e.1) × (e.1 < end)) edges
  pub few : (v : ℕ) → start ≤ v → v < end → handed shares edges v ≤ 4194304000000

-- the lists have the edges of the rows, one for each piece of the vertices that they lead to
abbrev pub AreByTarget : List (List (ℕ × ℕ)) → List (List (ℕ × ℕ)) → Type 0
AreByTarget rows lists = (i : ℕ) (d : List (ℕ × ℕ)) → i < length lists →
    slice_index_or lists i d ≡ edges_to (piece_start (length rows) (length lists) i) (piece_start (length rows) (length lists) (i + 1)) (all_edges rows)

-- each of so many lists has those of the edges that lead to its block of n vertices
abbrev pub AreOfBlocks : ℕ → ℕ → List (ℕ × ℕ) → List (List (ℕ × ℕ)) → Type 0
AreOfBlocks n blocks edges lists = (k : ℕ) (d : List (ℕ × ℕ)) → k < blocks → slice_index_or lists k d ≡ edges_to (piece_start n blocks k) (piece_start n blocks (k + 1)) edges

-- each list, of one block of n vertices, has got those of the edges that lead to its block
pub record HaveGot (n : ℕ) (edges : List (ℕ × ℕ)) (before after : List (List (ℕ × ℕ))) : Type 0 where
  pub len : length after ≡ length before
  pub each : (k : ℕ) (d : List (ℕ × ℕ)) → k < length before
      → slice_index_or after k d ≡ slice_index_or before k d ++ edges_to (piece_start n (length before) k) (piece_start n (length before) (k + 1)) edges

-- the edges to block k, of parts that have a list for each block
abbrev pub edges_of_block : List (List (List (ℕ × ℕ))) → ℕ → List (ℕ × ℕ)
edges_of_block parts k = flat_map (λ part. slice_index_or part k []) parts

-- those of so many blocks, one after another
abbrev pub blocks_of : ℕ → List (List (List (ℕ × ℕ))) → List (List (ℕ × ℕ))
blocks_of blocks parts = map (edges_of_block parts) (range_with_len 0 blocks)

-- what a round leaves of the vertices of block k, where each block has its list of edges
abbrev pub after_block : Bool → List ℕ → List ℕ → List (List (ℕ × ℕ)) → ℕ → List ℕ
after_block last degrees shares lists k =
    after_round last degrees shares (slice_index_or lists k [])
    (range_with_len (piece_start (length degrees) (length lists) k) (piece_start (length degrees) (length lists) (k + 1) - piece_start (length degrees) (length lists) k))
