-- Values by place, in columns of which some places are written over.
use Rattle.std.specs.Prelude.{◌≡◌, ℕ, ◌<◌, ◌==◌, ◌||◌, Bool, false, List, [], ◌∷◌, length, slice_index, if◌then◌else◌}

-- the place is one of the list
abbrev pub is_place : ℕ → List ℕ → Bool
is_place i [] = false
is_place i (p ∷ ps) = (p == i) || is_place i ps

-- the marks are the old ones, with that number at each of the places
pub record AreMarked (places : List ℕ) (number : ℕ) (old new : List ℕ) : Type 0 where
  pub len : length new ≡ length old
  pub each : (i : ℕ) → i < length old → slice_index new i ≡ (if is_place i places then number else slice_index old i)

-- the value of place i after these are written, the last one of a place being the one that stays
abbrev pub value_after : ℕ → List (ℕ × ℕ) → ℕ → ℕ
value_after i [] old = old
value_after i (p ∷ ps) old = value_after i ps (if p.0 == i then p.1 else old)

-- the values are the old ones, with each place's new value
pub record AreWritten (places : List (ℕ × ℕ)) (old new : List ℕ) : Type 0 where
  pub len : length new ≡ length old
  pub each : (i : ℕ) → i < length old → slice_index new i ≡ value_after i places (slice_index old i)
