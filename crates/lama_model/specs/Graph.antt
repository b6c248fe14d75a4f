-- A graph, and what a write does to it.
use Rattle.std.specs.Prelude.{ℕ, ◌+◌, ◌<◌, ◌==◌, ◌&&◌, Bool, not, List, [], ◌∷◌, ◌++◌, map, filter, All, if◌then◌else◌}
use Rattle.lama_base.specs.declared.Edge.{Edge}
use Rattle.lama_model.specs.declared.calls.Write.{Write}
use Rattle.lama_model.specs.declared.calls.Write.TheVariants.{Vertices, Add, Remove, Weigh}

-- a directed multigraph with weights: how many vertices there are, and the edges, oldest first
pub record Graph : Type 0 where
  pub count : ℕ
  pub edges : List Edge

-- each edge goes from a vertex of the graph to one of the graph
abbrev pub IsGraph : Graph → Type 0
IsGraph g = All (λ e. (e.source < g.count) × (e.target < g.count)) g.edges

-- the graph without vertices
abbrev pub no_graph : Graph
no_graph = record { count = 0; edges = [] }

-- the edge goes from u to v
abbrev pub joins : ℕ → ℕ → Edge → Bool
joins u v e = (e.source == u) && (e.target == v)

-- the edge with this weight in place of its own
abbrev pub with_weight : ℕ → Edge → Edge
with_weight w e = record { source = e.source; target = e.target; weight = w }

-- the graph after a write
abbrev pub effect : Write → Graph → Graph
effect (Vertices n) g = record { count = g.count + n; edges = g.edges }
effect (Add u v w) g = record { count = g.count; edges = g.edges ++ record { source = u; target = v; weight = w } ∷ [] }
effect (Remove u v) g = record { count = g.count; edges = filter (λ e. not (joins u v e)) g.edges }
effect (Weigh u v w) g = record { count = g.count; edges = map (λ e. if joins u v e then with_weight w e else e) g.edges }

-- each vertex that the write names is below the count
abbrev pub IsNamedBelow : ℕ → Write → Type 0
IsNamedBelow count (Vertices n) = Unit {0}
IsNamedBelow count (Add u v w) = (u < count) × (v < count)
IsNamedBelow count (Remove u v) = (u < count) × (v < count)
IsNamedBelow count (Weigh u v w) = (u < count) × (v < count)
