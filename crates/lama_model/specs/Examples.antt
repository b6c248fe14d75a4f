-- Journals for the worked examples.
use Rattle.std.specs.Prelude.{ℕ, List, [], ◌∷◌, map}
use Rattle.lama_base.specs.declared.Edge.{Edge}
use Rattle.lama_model.specs.Text.{entry}
use Rattle.lama_model.specs.declared.calls.Write.TheVariants.{Vertices, Add, Remove, Weigh}
use Rattle.lama_model.specs.declared.calls.Call.TheVariants.{Write as Writes, Checkpoint, Install}
use Rattle.lama_model.specs.declared.calls.Entry.{Entry}

abbrev pub edge : ℕ → ℕ → ℕ → Edge
edge u v w = record { source = u; target = v; weight = w }

-- two vertices and snapshots 1 to 3: an edge of weight 5, then a second one and both reweighed, then both removed
abbrev pub busy : List Entry
busy = map (entry 0) (Writes (Vertices 2) ∷ Writes (Add 0 1 5) ∷ Checkpoint ∷ Writes (Add 0 1 6) ∷ Writes (Weigh 0 1 9) ∷ Checkpoint ∷ Install 1 ∷ Writes (Remove 0 1) ∷ Checkpoint ∷ [])
