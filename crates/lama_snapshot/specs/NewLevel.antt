-- A level that was written above a snapshot.
use Rattle.std.specs.Prelude.{◌≡◌, ◌-◌, ◌≤◌, ◌++◌, List, length, replicate}
use Rattle.lama_edges.specs.declared.records.VertexRec.{VertexRec}
use Rattle.lama_model.specs.Change.{Change, IsChange}
use Rattle.lama_model.specs.Bounds.{added_edges, killed_edges}
use Rattle.lama_snapshot.specs.Snap.{no_record}
use Rattle.lama_snapshot.specs.Written.{IsWritten}
use Rattle.lama_snapshot.specs.declared.apply.NewLevel.{NewLevel}

-- it does the change, above the records that stood before and those of the new vertices
pub record IsNewLevel (before : List VertexRec) (c : Change) (l : NewLevel) : Type 0 where
  pub written : IsWritten c.number (before ++ replicate (c.count - length before) no_record) c.rows l.edges l.weights l.vertices
  pub weights : length l.edges ≡ length l.weights
  pub few : length l.edges ≤ 67108864
  pub added : l.added ≡ added_edges c
  pub killed : l.killed ≡ killed_edges c
  pub valid : IsChange c
