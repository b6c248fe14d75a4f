-- What a contract sees of a change.
use Rattle.std.specs.Prelude.{ℕ, List, map}
use Rattle.lama_model.specs.Change as model
use Rattle.lama_delta.specs.declared.change.RowChange.{RowChange}

-- a row change as a record of lists
abbrev pub seen_row : RowChange → model.RowChange
seen_row r = record { source = r.source; added = r.added.items; killed = r.killed.items; set = r.set.items }

abbrev pub seen_rows : List RowChange → List model.RowChange
seen_rows rows = map seen_row rows

-- a change as a record of lists
abbrev pub seen_change : ℕ → ℕ → List RowChange → model.Change
seen_change number count rows = record { number = number; count = count; rows = seen_rows rows }
