-- Rows in a base: one fragment for each vertex, one after another.
use Rattle.std.specs.Prelude.{◌≡◌, ℕ, ◌+◌, ◌≤◌, List, [], ◌∷◌, length, map, replicate, flat_map, Option, Some, unwrap_or}
use Rattle.lama_edges.specs.declared.records.Slot.{Slot}
use Rattle.lama_edges.specs.declared.records.Slot.TheVariants.{End}
use Rattle.lama_edges.specs.declared.records.VertexRec.{VertexRec}
use Rattle.lama_model.specs.Row.{AreTargetsBelow, edges_in}
use Rattle.lama_snapshot.specs.Fragments.{row_from, fragment_slots, fragment_weights}

-- what a contract sees of a base: its number and its rows, that of vertex 0 first
pub record Numbered : Type 0 where
  pub number : ℕ
  pub rows : List (List (ℕ × ℕ))

-- the slots of the rows
abbrev pub base_slots : List (List (ℕ × ℕ)) → List Slot
base_slots rows = flat_map (λ r. fragment_slots r End) rows

-- the weights, slot by slot
abbrev pub base_weights : List (List (ℕ × ℕ)) → List ℕ
base_weights rows = flat_map fragment_weights rows

-- the records of the rows, the first of which begins at place o
abbrev pub base_records : ℕ → ℕ → List (List (ℕ × ℕ)) → List VertexRec
base_records number o [] = []
base_records number o (r ∷ rows) = record { level = number; offset = o; len = length r; degree = length r } ∷ base_records number (o + length r + 1) rows

-- the edges at a place of the base
abbrev pub base_suffix : List (List (ℕ × ℕ)) → ℕ → ℕ → Option (List (ℕ × ℕ))
base_suffix rows o left = row_from (base_slots rows) (base_weights rows) (λ s. Some []) o left

-- the rows that the records of a base lead to
abbrev pub base_rows : List VertexRec → List Slot → List ℕ → List (List (ℕ × ℕ))
base_rows records slots weights = map (λ rec. unwrap_or (row_from slots weights (λ s. Some []) rec.offset rec.len) []) records

-- the fields of a base stand for these rows
pub record IsBase (n : ℕ) (records : List VertexRec) (slots : List Slot) (marks weights : List ℕ) (rows : List (List (ℕ × ℕ))) : Type 0 where
  pub records_are : records ≡ base_records n 0 rows
  pub slots_are : slots ≡ base_slots rows
  pub marks_are : marks ≡ replicate (length (base_slots rows)) 0
  pub weights_are : weights ≡ base_weights rows
  pub targets : AreTargetsBelow (length rows) rows
  pub few : edges_in rows ≤ 33554432
  pub vertices : length rows ≤ 4194304
  pub number : n ≤ 100000000
