-- What a contract sees of a book.
use Rattle.std.specs.Prelude.{◌≡◌, ℕ, ◌+◌, ◌-◌, ◌<◌, ◌≤◌, List, [], ◌∷◌, ◌++◌, length, drop, slice_index_or, All, sum_by}
use Rattle.lama_model.specs.Graph.{no_graph, effect, IsNamedBelow}
use Rattle.lama_model.specs.Row.{row_at, edges_in, graph_of_rows}
use Rattle.lama_model.specs.Change.{Change, change_to, row_after}
use Rattle.lama_model.specs.Opening.{opening_of}
use Rattle.lama_model.specs.Journal.{Standing, reply_at, edges_added}
use Rattle.lama_model.specs.declared.calls.Write.{Write}
use Rattle.lama_model.specs.declared.calls.Call.{Call}
use Rattle.lama_model.specs.declared.calls.Entry.{Entry}
use Rattle.lama_model.specs.declared.answers.Reply.{Reply}
use Rattle.lama_snapshot.specs.BaseRows.{Numbered}
use Rattle.lama_snapshot.specs.Snap.{Snap, no_snap}
use Rattle.lama_merge.specs.Rebase.{snap_of, AreOneRun, IsRebased}

-- a book: the calls so far, the kept snapshots and the writes that wait, all oldest first; how many calls more take no memory of their own; the vertices and the added edges where it stands; and the oldest number that is kept
pub record Book : Type 0 where
  pub journal : List Entry
  pub kept : List Snap
  pub pending : List Write
  pub spare : ℕ
  pub count : ℕ
  pub added : ℕ
  pub oldest : ℕ

-- the newest number
abbrev pub newest_number : Book → ℕ
newest_number b = b.oldest + length b.kept - 1

-- the newest snapshot
abbrev pub last_snap : Book → Snap
last_snap b = slice_index_or b.kept (length b.kept - 1) no_snap

-- the kept snapshot of the number k
abbrev pub snap_at : Book → ℕ → Snap
snap_at b k = slice_index_or b.kept (k - b.oldest) no_snap

-- its numbers agree and are within their limits, and its snapshots are of one run
pub record IsWhole (b : Book) : Type 0 where
  pub few_calls : length b.journal ≤ 4194304
  pub some_kept : 0 < length b.kept
  pub few_kept : length b.kept ≤ 4096
  pub number : b.oldest + length b.kept ≤ 100000001
  pub few_vertices : b.count ≤ 4194304
  pub few_added : b.added ≤ 33554432
  pub named : All (IsNamedBelow b.count) b.pending
  pub last : (last_snap b).number + 1 ≡ b.oldest + length b.kept
  pub grows : length (last_snap b).rows ≤ b.count
  pub room : edges_in (last_snap b).rows + sum_by edges_added b.pending ≤ b.added
  pub run : AreOneRun b.kept

-- two books are the same, but that the second may have more room
pub record IsRoomier (old new : Book) : Type 0 where
  pub book : new ≡ record old { spare = new.spare }
  pub spare : old.spare ≤ new.spare

-- one entry more, which takes no more than one of the room
pub record HasEntry (old new : Book) (e : Entry) : Type 0 where
  pub book : new ≡ record old { journal = old.journal ++ e ∷ []; spare = new.spare }
  pub spare : old.spare ≤ new.spare + 1

-- what a journal leaves, as far as answers ask
abbrev pub brief : ℕ → ℕ → ℕ → Standing
brief count added oldest = record {
  graph = record { count = count; edges = [] };
  added = added;
  made = [];
  written = [];
  pending = [];
  oldest = oldest;
  installed = [];
}

-- what a book answers
abbrev pub answers : Book → Call → Reply
answers b call = reply_at (opening_of (newest_number b) no_graph) (brief b.count b.added b.oldest) call

-- one write more is pending
abbrev pub with_write : Book → Write → Book
with_write b w = record b {
  pending = b.pending ++ w ∷ [];
  count = (effect w (record { count = b.count; edges = [] })).count;
  added = b.added + edges_added w;
}

-- an accepted write, which takes no more than one of the room
pub record HasWrite (old new : Book) (w : Write) (e : Entry) : Type 0 where
  pub book : new ≡ record (with_write old w) { journal = old.journal ++ e ∷ []; spare = new.spare }
  pub spare : old.spare ≤ new.spare + 1

-- the change that the pending writes make
abbrev pub next_change : Book → Change
next_change b = change_to (graph_of_rows (last_snap b).rows) b.pending (newest_number b + 1) b.count

-- the snapshot after that change
pub record IsNext (b : Book) (s : Snap) : Type 0 where
  pub number : s.number ≡ newest_number b + 1
  pub count : length s.rows ≡ b.count
  pub rows : (v : ℕ) → v < b.count → row_at s.rows v ≡ row_after (next_change b).rows v (row_at (last_snap b).rows v)
  pub base : s.base ≡ (last_snap b).base
  pub changes : s.changes ≡ (last_snap b).changes ++ next_change b ∷ []
  pub edges : edges_in s.rows ≤ edges_in (last_snap b).rows + sum_by edges_added b.pending

-- the book with the next snapshot, and no write pending
pub record HasNext (old new : Book) : Type 0 where
  pub next : IsNext old (last_snap new)
  pub book : new ≡ record old { kept = old.kept ++ last_snap new ∷ []; pending = []; spare = new.spare }
  pub spare : old.spare ≤ new.spare

-- and with an entry more
pub record HasCheckpoint (old new : Book) (e : Entry) : Type 0 where
  pub next : IsNext old (last_snap new)
  pub book : new ≡ record old { journal = old.journal ++ e ∷ []; kept = old.kept ++ last_snap new ∷ []; pending = []; spare = new.spare }
  pub spare : old.spare ≤ new.spare + 1

-- the kept snapshots are put onto a merged base
pub record IsOnto (old new : Book) (m : Numbered) : Type 0 where
  pub book : new ≡ record old { kept = new.kept }
  pub len : length new.kept ≡ length old.kept
  pub each : (i : ℕ) → i < length old.kept → IsRebased m (snap_of old.kept i) (snap_of new.kept i)

-- and an entry more
pub record HasInstalled (old new : Book) (m : Numbered) (e : Entry) : Type 0 where
  pub book : new ≡ record old { journal = old.journal ++ e ∷ []; kept = new.kept; spare = new.spare }
  pub len : length new.kept ≡ length old.kept
  pub each : (i : ℕ) → i < length old.kept → IsRebased m (snap_of old.kept i) (snap_of new.kept i)
  pub spare : old.spare ≤ new.spare + 1

-- the snapshots before that of the number k are let go
abbrev pub IsForgotten : Book → Book → ℕ → Type 0
IsForgotten old new k = new ≡ record old { kept = drop (k - old.oldest) old.kept; oldest = k }

-- and an entry more
pub record HasRetired (old new : Book) (k : ℕ) (e : Entry) : Type 0 where
  pub book : new ≡ record old { journal = old.journal ++ e ∷ []; kept = drop (k - old.oldest) old.kept; oldest = k; spare = new.spare }
  pub spare : old.spare ≤ new.spare + 1
