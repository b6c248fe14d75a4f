-- What is written into the tables of a level.
use Rattle.std.specs.Prelude.{◌≡◌, ℕ, ◌+◌, ◌-◌, ◌*◌, ◌/◌, ◌==◌, ◌<◌, ◌≤◌, List, [], ◌∷◌, ◌++◌, sum_by, length, flat_map, slice_index_or, if◌then◌else◌}
use Rattle.lama_edges.specs.declared.records.Slot.{Slot}
use Rattle.lama_edges.specs.declared.records.Slot.TheVariants.{Next}
use Rattle.lama_edges.specs.declared.records.VertexRec.{VertexRec}
use Rattle.lama_snapshot.specs.declared.writer.Writer.{Writer}
use Rattle.lama_model.specs.Change.{RowChange}
use Rattle.lama_snapshot.specs.Fragments.{fragment_slots, fragment_weights}
use Rattle.lama_snapshot.specs.Chains.{fragment_sources}
use Rattle.lama_snapshot.specs.Snap.{no_record}

-- a writer has as many weights as slots, and counts them
pub record IsEven (w : Writer) : Type 0 where
  pub weights : length w.weights ≡ length w.slots
  pub len : w.len ≡ length w.slots

-- these slots and weights were written behind the others
pub record Wrote (old new : Writer) (slots : List Slot) (weights : List ℕ) : Type 0 where
  pub slots_are : new.slots ≡ old.slots ++ slots
  pub weights_are : new.weights ≡ old.weights ++ weights
  pub even : IsEven new

-- pages for so many slots and as many weights
abbrev pub pages_for : ℕ → ℕ
pages_for slots = 2 * ((slots + 255) / 256)

-- the record of a row of level n whose fragment begins at place o, with so many edges that come and so many that go, where it had a record before
abbrev pub record_with : ℕ → ℕ → ℕ → ℕ → VertexRec → VertexRec
record_with n o added killed old = record { level = n; offset = o; len = added; degree = old.degree + added - killed }

-- the continuation behind the fragment of a row that had this record
abbrev pub next_of : VertexRec → Slot
next_of rec = Next rec.level rec.offset rec.len

-- the slots of a level that does these changes of rows which had these records
abbrev pub level_slots : List VertexRec → List RowChange → List Slot
level_slots records rows = flat_map (λ c. fragment_slots c.added (next_of (slice_index_or records c.source no_record))) rows

-- the weights, slot by slot
abbrev pub level_weights : List RowChange → List ℕ
level_weights rows = flat_map (λ c. fragment_weights c.added) rows

-- the sources, slot by slot
abbrev pub level_sources : List RowChange → List ℕ
level_sources rows = flat_map (λ c. fragment_sources c.source c.added) rows

-- the record of v after the changes, where the fragments of level n begin at place o
abbrev pub record_after : ℕ → List VertexRec → ℕ → List RowChange → ℕ → VertexRec
record_after n records o [] v = slice_index_or records v no_record
record_after n records o (c ∷ rows) v =
    let old = slice_index_or records v no_record in
    if c.source == v then record_with n o (length c.added) (length c.killed) old
    else record_after n records (o + length c.added + 1) rows v

-- a level of number n is written so far: its slots and weights, and the records that its rows have now
pub record IsWritten (n : ℕ) (before : List VertexRec) (rows : List RowChange) (slots : List Slot) (weights : List ℕ) (records : List VertexRec) : Type 0 where
  pub slots_are : slots ≡ level_slots before rows
  pub weights_are : weights ≡ level_weights rows
  pub len : length records ≡ length before
  pub records_are : (v : ℕ) → v < length before → slice_index_or records v no_record ≡ record_after n before 0 rows v
  pub degrees : sum_by (λ (r : VertexRec). r.degree) records + sum_by (λ (c : RowChange). length c.killed) rows ≡ sum_by (λ (r : VertexRec). r.degree) before + sum_by (λ (c : RowChange). length c.added) rows

-- no more edges go from a row than its record has
abbrev pub IsWithin : List VertexRec → RowChange → Type 0
IsWithin records c = length c.killed ≤ (slice_index_or records c.source no_record).degree

-- how many slots changes of rows write
abbrev pub slots_of : List RowChange → ℕ
slots_of rows = sum_by (λ (c : RowChange). length c.added + 1) rows
