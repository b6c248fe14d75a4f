-- A mark for each vertex, a bit each, 64 to a word.
use Rattle.std.specs.Prelude.{ℕ, ◌/◌, ◌%◌, ◌==◌, Bool, List, slice_index}
use Rattle.std.specs.Int.{bit_at}

-- the vertex is marked
unfoldable pub is_set : List ℕ → ℕ → Bool
is_set words v = bit_at (slice_index words (v / 64)) (v % 64) == 1
