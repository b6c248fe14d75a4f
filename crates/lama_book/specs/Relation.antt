-- When a book stands for an opening and the calls since.
use Rattle.std.specs.Prelude.{◌≡◌, ℕ, ◌+◌, ◌-◌, ◌<◌, ◌≤◌, List, length, slice_index_or}
use Rattle.lama_model.specs.Row.{AreRowsOf}
use Rattle.lama_model.specs.Opening.{Opening, IsOpening, last_number}
use Rattle.lama_model.specs.Journal.{Standing, begun, standing, newest_of, graph_of, change_of, floor_of}
use Rattle.lama_model.specs.declared.calls.Write.{Write}
use Rattle.lama_snapshot.specs.BaseRows.{Numbered}
use Rattle.lama_snapshot.specs.Snap as snap
use Rattle.lama_snapshot.specs.Snap.{Snap, change_at, no_snap}
use Rattle.lama_book.specs.Book.{Book}

-- the snapshot is that of the number k: it has the rows of its graph, and above its floor the changes that led to it
pub record IsSnapshotOf (o : Opening) (s : Standing) (k : ℕ) (x : Snap) : Type 0 where
  pub number : x.number ≡ k
  pub rows : AreRowsOf x.rows (graph_of o s k)
  pub floor : snap.floor_of x ≡ floor_of o s k
  pub base : AreRowsOf x.base.rows (graph_of o s (floor_of o s k))
  pub len : length x.changes + floor_of o s k ≡ k
  pub changes : (j : ℕ) → floor_of o s k < j → j ≤ k → change_at x j ≡ change_of o s j

-- the snapshot from which a book begins is the opening's newest and its oldest
pub record Opens (o : Opening) (x : Snap) : Type 0 where
  pub is : IsOpening o
  pub one : o.oldest ≡ last_number o
  pub snapshot : IsSnapshotOf o (begun o) (last_number o) x

-- the fields of a book agree with what a journal left
pub record Agrees (o : Opening) (s : Standing) (kept : List Snap) (pending : List Write) (count added oldest : ℕ) : Type 0 where
  pub is : IsOpening o
  pub pending_is : pending ≡ s.pending
  pub count_is : count ≡ s.graph.count
  pub added_is : added ≡ s.added
  pub oldest_is : oldest ≡ s.oldest
  pub numbers : oldest + length kept ≡ newest_of o s + 1
  pub each : (k : ℕ) → s.oldest ≤ k → k ≤ newest_of o s → IsSnapshotOf o s k (slice_index_or kept (k - s.oldest) no_snap)

-- a merged base has the number and the rows of a graph that is there
pub record IsMergedOf (o : Opening) (s : Standing) (m : Numbered) : Type 0 where
  pub number : m.number ≤ newest_of o s
  pub rows : AreRowsOf m.rows (graph_of o s m.number)

-- the book stands for the opening and its journal
abbrev pub IsBookOf : Opening → Book → Type 0
IsBookOf o b = Agrees o (standing o b.journal) b.kept b.pending b.count b.added b.oldest
