-- Vertices that are found one level after another.
use Rattle.std.specs.Prelude.{◌≡◌, ℕ, ◌+◌, ◌<◌, ◌&&◌, nat_lt, not, Bool, true, false, List, [], ◌∷◌, ◌++◌, All, filter, map, length, Option, None, Some, is_none, if◌then◌else◌, slice_index_or, slice_set}
use Rattle.std.specs.List.{flat_map}
use Rattle.lama_model.specs.Row.{row_at, graph_of_rows}
use Rattle.lama_model.specs.Levels.{first_from, is_among, is_reached}

-- no level was found for the vertex
abbrev pub is_new : List (Option ℕ) → ℕ → Bool
is_new levels v = is_none (slice_index_or levels v None)

-- the vertex was not seen
abbrev pub is_unseen : List Bool → ℕ → Bool
is_unseen seen v = not (slice_index_or seen v false)

-- the targets of the edges that leave these vertices
abbrev pub targets_of : List (List (ℕ × ℕ)) → List ℕ → List ℕ
targets_of rows us = flat_map (λ u. map (λ p. p.0) (row_at rows u)) us

-- those that were not seen
abbrev pub new_targets : List (List (ℕ × ℕ)) → List Bool → List ℕ → List ℕ
new_targets rows seen us = filter (is_unseen seen) (targets_of rows us)

-- a vertex that was not seen is seen now, and is one of those that were found last; where there is no such vertex nothing happens
abbrev pub see_one : ℕ → List Bool × List ℕ → List Bool × List ℕ
see_one v s = if nat_lt v (length s.0) && is_unseen s.0 v then (slice_set s.0 v true, s.1 ++ v ∷ []) else s

-- the same for each of these vertices, one after another
abbrev pub see_all : List ℕ → List Bool × List ℕ → List Bool × List ℕ
see_all [] s = s
see_all (v ∷ vs) s = see_all vs (see_one v s)

-- each of these vertices gets the level
abbrev pub give : ℕ → List ℕ → List (Option ℕ) → List (Option ℕ)
give level [] levels = levels
give level (v ∷ vs) levels = give level vs (slice_set levels v (Some level))

-- of these vertices each new one has got the level, and next are those that have
pub record AreMarked (level : ℕ) (vs : List ℕ) (before after : List (Option ℕ)) (next : List ℕ) : Type 0 where
  pub len : length after ≡ length before
  pub each : (v : ℕ) → v < length before → slice_index_or after v None ≡ (if is_new before v && is_among v vs then Some level else slice_index_or before v None)
  pub next_are : (v : ℕ) → v < length before → is_among v next ≡ (is_new before v && is_among v vs)
  pub below : All (λ v. v < length before) next

-- the levels up to n are found and no others, and front are the vertices of level n
pub record IsRound (rows : List (List (ℕ × ℕ))) (s n : ℕ) (found : List (Option ℕ)) (front : List ℕ) : Type 0 where
  pub size : length found ≡ length rows
  pub found_are : (v : ℕ) → v < length rows → slice_index_or found v None ≡ first_from (λ m. is_reached (graph_of_rows rows).edges s m v) 0 (n + 1)
  pub front_has : (v : ℕ) → v < length rows → is_among v front ≡ true → slice_index_or found v None ≡ Some n
  pub has_front : (v : ℕ) → v < length rows → slice_index_or found v None ≡ Some n → is_among v front ≡ true
  pub below : All (λ v. v < length rows) front
