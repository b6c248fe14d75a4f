-- The kept snapshots before and after they are put onto a merged base.
use Rattle.std.specs.Prelude.{◌≡◌, ◌⊎◌, ℕ, ◌+◌, ◌-◌, ◌<◌, ◌≤◌, List, length, map, drop, slice_index_or}
use Rattle.std.specs.List.{range_with_len}
use Rattle.lama_model.specs.Row.{row_at}
use Rattle.lama_model.specs.Change.{Change, row_after}
use Rattle.lama_model.specs.Fits.{Fits}
use Rattle.lama_snapshot.specs.BaseRows.{Numbered}
use Rattle.lama_snapshot.specs.Snap.{Snap, no_snap, floor_of}

-- the snapshot at that place
abbrev pub snap_of : List Snap → ℕ → Snap
snap_of kept i = slice_index_or kept i no_snap

-- the snapshot holds, of these changes, one for each number above its floor
abbrev pub Holds : (ℕ → Change) → Snap → Type 0
Holds changes s = s.changes ≡ map changes (range_with_len (floor_of s + 1) (s.number - floor_of s))

-- a snapshot is the one before it with the change of its number done
pub record Follows (changes : ℕ → Change) (before s : Snap) : Type 0 where
  pub fits : Fits before.number before.rows (changes s.number)
  pub count : length s.rows ≡ (changes s.number).count
  pub rows : (v : ℕ) → v < (changes s.number).count → row_at s.rows v ≡ row_after (changes s.number).rows v (row_at before.rows v)

-- their numbers are consecutive and their floors don't fall and are within them, and each holds the changes above its floor and follows the one before it
pub record AreConsecutive (changes : ℕ → Change) (kept : List Snap) : Type 0 where
  pub numbers : (i : ℕ) → i < length kept → (snap_of kept i).number ≡ (snap_of kept 0).number + i
  pub within : (i : ℕ) → i < length kept → floor_of (snap_of kept i) ≤ (snap_of kept i).number
  pub floors : (i : ℕ) → i + 1 < length kept → floor_of (snap_of kept i) ≤ floor_of (snap_of kept (i + 1))
  pub held : (i : ℕ) → i < length kept → Holds changes (snap_of kept i)
  pub steps : (i : ℕ) → i + 1 < length kept → floor_of (snap_of kept (i + 1)) < (snap_of kept (i + 1)).number → Follows changes (snap_of kept i) (snap_of kept (i + 1))

-- they are so for some changes
abbrev pub AreOneRun : List Snap → Type 0
AreOneRun kept = (changes : ℕ → Change) × AreConsecutive changes kept

-- the merged base has the number and the rows of one of them
pub record IsAmong (m : Numbered) (kept : List Snap) : Type 0 where
  pub first : (snap_of kept 0).number ≤ m.number
  pub last : m.number < (snap_of kept 0).number + length kept
  pub rows : m.rows ≡ (snap_of kept (m.number - (snap_of kept 0).number)).rows

-- a snapshot keeps its number and its rows; from the merged number on it gets the merged base where its own is older; and it keeps its changes above its floor
pub record IsRebased (m : Numbered) (old new : Snap) : Type 0 where
  pub number : new.number ≡ old.number
  pub rows : new.rows ≡ old.rows
  pub onto : m.number ≤ old.number → floor_of old < m.number → new.base ≡ m
  pub stays : (old.number < m.number) ⊎ (m.number ≤ floor_of old) → new.base ≡ old.base
  pub changes : new.changes ≡ drop (floor_of new - floor_of old) old.changes

-- the snapshot before it is on the merged base already
pub record IsThere (changes : ℕ → Change) (m : Numbered) (before : List Snap) (old : Snap) : Type 0 where
  pub some : 0 < length before
  pub number : (snap_of before (length before - 1)).number + 1 ≡ old.number
  pub base : (snap_of before (length before - 1)).base ≡ m
  pub held : Holds changes (snap_of before (length before - 1))
  pub step : Follows changes (snap_of before (length before - 1)) old

-- a snapshot can be put onto the merged base: it has the merged number and rows, or the one before it is there
pub record IsReady (changes : ℕ → Change) (m : Numbered) (before : List Snap) (old : Snap) : Type 0 where
  pub held : Holds changes old
  pub merged : old.number ≡ m.number → m.rows ≡ old.rows
  pub later : m.number < old.number → floor_of old < m.number → IsThere changes m before old
