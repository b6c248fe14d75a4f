-- How many edges leave vertices.
use Rattle.std.specs.Prelude.{ℕ, ◌==◌, List, map, count_by}
use Rattle.std.specs.List.{range_with_len}
use Rattle.lama_base.specs.declared.Edge.{Edge}
use Rattle.lama_model.specs.Graph.{Graph}

-- how many of the edges leave v
abbrev pub out_degree : ℕ → List Edge → ℕ
out_degree v edges = count_by (λ e. e.source == v) edges

-- the out-degrees of all vertices
unfoldable pub out_degrees : Graph → List ℕ
out_degrees g = map (λ v. out_degree v g.edges) (range_with_len 0 g.count)

-- how many vertices have no out-edges
abbrev pub count_sinks : Graph → ℕ
count_sinks g = count_by (λ d. d == 0) (out_degrees g)
