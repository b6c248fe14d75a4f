-- What the store of a script holds.
use Rattle.std.specs.Prelude.{◌≡◌, ℕ, ◌≤◌, List, [], ◌∷◌, ◌++◌, length}
use Rattle.lama_model.specs.Graph.{Graph, IsGraph}
use Rattle.lama_model.specs.Row.{row, AreRowsOf}
use Rattle.lama_model.specs.Opening.{empty_opening}
use Rattle.lama_model.specs.Journal.{Standing, standing, after, graph_of, floor_of}
use Rattle.lama_model.specs.declared.calls.Call.{Call}
use Rattle.lama_model.specs.declared.calls.Entry.{Entry}
use Rattle.lama_model.specs.declared.answers.Reply.{Reply}
use Rattle.lama_model.specs.declared.answers.Reply.TheVariants.{Snapshot}
use Rattle.lama_snapshot.specs.History.{row_then}
use Rattle.lama_snapshot.specs.Snap as snap
use Rattle.lama_snapshot.specs.Snap.{Snap}

-- the calls so far, and what they leave
pub record Held : Type 0 where
  pub journal : List Entry
  pub standing : Standing

-- what the calls of this journal leave
abbrev pub held_by : List Entry → Held
held_by journal = record { journal = journal; standing = standing empty_opening journal }

-- one call more
abbrev pub called : Held → Call → Held
called h call = record { journal = h.journal ++ record { caller = 0; call = call } ∷ []; standing = after empty_opening h.standing call }

-- the graph is one within the limits
pub record IsWithinLimits (g : Graph) : Type 0 where
  pub is : IsGraph g
  pub vertices : g.count ≤ 4194304
  pub edges : length g.edges ≤ 33554432

-- the rows are those of the graph, which is one within the limits
pub record AreOfGraph (rs : List (List (ℕ × ℕ))) (g : Graph) : Type 0 where
  pub rows : AreRowsOf rs g
  pub graph : IsWithinLimits g

-- the snapshot is that of its number: it has the rows of its graph, and tells each graph from its floor on
pub record IsTold (s : Standing) (x : Snap) : Type 0 where
  pub rows : AreOfGraph x.rows (graph_of empty_opening s x.number)
  pub floor : snap.floor_of x ≡ floor_of empty_opening s x.number
  pub before : (j v : ℕ) → snap.floor_of x ≤ j → j ≤ x.number → row_then (snap.floor_of x) x.base.rows x.changes j v ≡ row (graph_of empty_opening s j) v

-- the reply hands out the snapshot
pub record IsFound (s : Standing) (r : Reply) (x : Snap) : Type 0 where
  pub reply : r ≡ Snapshot x.number
  pub told : IsTold s x
