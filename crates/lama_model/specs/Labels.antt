-- Weak components, named by their least vertices.
use Rattle.std.specs.Prelude.{◌≡◌, ℕ, ◌<◌, ◌≤◌, List, ◌++◌, map, length, is_some, slice_index}
use Rattle.std.specs.Option.{unwrap_or}
use Rattle.std.specs.List.{range_with_len}
use Rattle.lama_base.specs.declared.Edge.{Edge}
use Rattle.lama_model.specs.Graph.{Graph}
use Rattle.lama_model.specs.Levels.{HasWalk, level, first_from}

-- the edge in the other direction
abbrev pub turned : Edge → Edge
turned e = record { source = e.target; target = e.source; weight = e.weight }

-- the graph in which each edge may be taken in either direction
abbrev pub both_ways : Graph → Graph
both_ways g = record { count = g.count; edges = g.edges ++ map turned g.edges }

-- a walk leads from u to v that may take each edge in either direction
pub record AreJoined (g : Graph) (u v : ℕ) : Type 0 where
  pub steps : ℕ
  pub walk : HasWalk (both_ways g).edges u v steps

-- the label of v: the least vertex that is joined to it
pub record IsLabel (g : Graph) (v l : ℕ) : Type 0 where
  pub joined : AreJoined g l v
  pub least : (u : ℕ) → AreJoined g u v → l ≤ u

-- the labels of all vertices
pub record AreLabels (g : Graph) (labels : List ℕ) : Type 0 where
  pub len : length labels ≡ g.count
  pub each : (v : ℕ) → v < g.count → IsLabel g v (slice_index labels v)

-- the label of v, by trying the vertices from 0 on
abbrev pub label : Graph → ℕ → ℕ
label g v = unwrap_or (first_from (λ u. is_some (level (both_ways g) u v)) 0 g.count) v

-- the labels of all vertices
unfoldable pub labels : Graph → List ℕ
labels g = map (label g) (range_with_len 0 g.count)

-- each label is no greater than its vertex, and the label of a label is that label itself
pub record AreFirst (labels : List ℕ) : Type 0 where
  pub below : (v : ℕ) → v < length labels → slice_index labels v ≤ v
  pub own : (v : ℕ) → v < length labels → slice_index labels (slice_index labels v) ≡ slice_index labels v
