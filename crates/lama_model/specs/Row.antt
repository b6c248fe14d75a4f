-- The rows of a graph: compressed sparse rows hold these lists one after another.
use Rattle.std.specs.Prelude.{◌≡◌, ℕ, ◌==◌, suc, List, [], ◌∷◌, ◌++◌, map, filter, reverse, length, ◌<◌, All, sum_by, slice_index_or}
use Rattle.std.specs.List.{flat_map, range_with_len}
use Rattle.lama_base.specs.declared.Edge.{Edge}
use Rattle.lama_model.specs.Graph.{Graph}

-- the targets and weights of the edges that leave v, in the order of the list
abbrev pub leaving : ℕ → List Edge → List (ℕ × ℕ)
leaving v edges = map (λ e. (e.target, e.weight)) (filter (λ e. e.source == v) edges)

-- the row of v: the targets and weights of its edges, newest first
abbrev pub row : Graph → ℕ → List (ℕ × ℕ)
row g v = reverse (leaving v g.edges)

-- two graphs are the same: as many vertices, and the same rows
pub record AreSame (g h : Graph) : Type 0 where
  pub count : g.count ≡ h.count
  pub rows : (v : ℕ) → row g v ≡ row h v

-- the rows of the graph, one for each vertex
unfoldable pub rows_of : Graph → List (List (ℕ × ℕ))
rows_of g = map (row g) (range_with_len 0 g.count)

-- the edges of the rows from vertex v on, each row from its last pair to its first
abbrev pub edges_of_rows : ℕ → List (List (ℕ × ℕ)) → List Edge
edges_of_rows v [] = []
edges_of_rows v (r ∷ rows) = map (λ p. record { source = v; target = p.0; weight = p.1 }) (reverse r) ++ edges_of_rows (suc v) rows

-- the graph that has these rows
abbrev pub graph_of_rows : List (List (ℕ × ℕ)) → Graph
graph_of_rows rows = record { count = length rows; edges = edges_of_rows 0 rows }

-- the row of v among the rows, that of vertex 0 first; past their end it is empty
abbrev pub row_at : List (List (ℕ × ℕ)) → ℕ → List (ℕ × ℕ)
row_at rows v = slice_index_or rows v []

-- the edges that leave these vertices, as source and target
abbrev pub edges_from : List (List (ℕ × ℕ)) → List ℕ → List (ℕ × ℕ)
edges_from rows us = flat_map (λ u. map (λ p. (u, p.0)) (row_at rows u)) us

-- each target of each row is below the count
abbrev pub AreTargetsBelow : ℕ → List (List (ℕ × ℕ)) → Type 0
AreTargetsBelow count rows = All (λ r. All (λ p. p.0 < count) r) rows

-- the rows are those of the graph, one for each vertex
pub record AreRowsOf (rows : List (List (ℕ × ℕ))) (g : Graph) : Type 0 where
  pub count : length rows ≡ g.count
  pub each : (v : ℕ) → v < g.count → row_at rows v ≡ row g v

-- how many edges the rows have
abbrev pub edges_in : List (List (ℕ × ℕ)) → ℕ
edges_in rows = sum_by (λ (r : List (ℕ × ℕ)). length r) rows
