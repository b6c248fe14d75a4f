-- Walks along edges, and how far vertices are from one of them.
use Rattle.std.specs.Prelude.{◌≡◌, ℕ, zero, suc, ◌+◌, ◌<◌, ◌≤◌, ◌==◌, ◌&&◌, Bool, true, List, [], ◌∷◌, map, length, Option, None, Some, if◌then◌else◌, slice_index_or}
use Rattle.std.specs.List.{list_any, range_with_len}
use Rattle.lama_base.specs.declared.Edge.{Edge}
use Rattle.lama_model.specs.Graph.{Graph, joins}

-- the vertex is one of the list
abbrev pub is_among : ℕ → List ℕ → Bool
is_among v vs = list_any (λ u. u == v) vs

-- an edge goes from u to v
abbrev pub leads : List Edge → ℕ → ℕ → Bool
leads edges u v = list_any (joins u v) edges

-- u and then the vertices are a walk to v: each neighbouring pair is joined by an edge in its direction
abbrev pub IsWalk : List Edge → ℕ → List ℕ → ℕ → Type 0
IsWalk edges u [] v = u ≡ v
IsWalk edges u (w ∷ ws) v = (leads edges u w ≡ true) × IsWalk edges w ws v

-- a walk of n edges leads from u to v
pub record HasWalk (edges : List Edge) (u v n : ℕ) : Type 0 where
  -- those after u
  pub vertices : List ℕ
  pub size : length vertices ≡ n
  pub walks : IsWalk edges u vertices v

-- the level of v from s: the least number of edges of a walk from s to v, or none where there is no walk
abbrev pub IsLevel : List Edge → ℕ → ℕ → Option ℕ → Type 0
IsLevel edges s v None = (n : ℕ) → HasWalk edges s v n → ⊥
IsLevel edges s v (Some n) = HasWalk edges s v n × ((m : ℕ) → HasWalk edges s v m → n ≤ m)

-- the levels of all vertices from s
pub record AreLevels (g : Graph) (s : ℕ) (levels : List (Option ℕ)) : Type 0 where
  pub len : length levels ≡ g.count
  pub each : (v : ℕ) → v < g.count → IsLevel g.edges s v (slice_index_or levels v None)

-- a walk of n edges leads from s to v, by the last of them
abbrev pub is_reached : List Edge → ℕ → ℕ → ℕ → Bool
is_reached edges s zero v = s == v
is_reached edges s (suc n) v = list_any (λ e. (e.target == v) && is_reached edges s n e.source) edges

-- the first number from i on that passes, of so many
abbrev pub first_from : (ℕ → Bool) → ℕ → ℕ → Option ℕ
first_from test i zero = None
first_from test i (suc k) = if test i then Some i else first_from test (i + 1) k

-- the level of v from s among the vertices of the graph
abbrev pub level : Graph → ℕ → ℕ → Option ℕ
level g s v = first_from (λ n. is_reached g.edges s n v) 0 g.count

-- the levels of all vertices from s
unfoldable pub levels : Graph → ℕ → List (Option ℕ)
levels g s = map (level g s) (range_with_len 0 g.count)
