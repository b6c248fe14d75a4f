-- What the calls of a journal leave, and what they are answered.
use Rattle.std.specs.Prelude.{ℕ, ◌+◌, ◌-◌, max, nat_le, nat_lt, Bool, true, false, not, ◌&&◌, ◌||◌, if◌then◌else◌, List, [], ◌∷◌, ◌++◌, length, fold, slice_index_or}
use Rattle.lama_model.specs.Graph.{Graph, no_graph, effect}
use Rattle.lama_model.specs.Change.{Change, change_between}
use Rattle.lama_model.specs.Opening.{Opening, first_number, oldest_number, last_number, opening_graph, opening_change}
use Rattle.lama_model.specs.declared.calls.Write.{Write}
use Rattle.lama_model.specs.declared.calls.Write.TheVariants.{Vertices, Add, Remove, Weigh}
use Rattle.lama_model.specs.declared.calls.Call.{Call}
use Rattle.lama_model.specs.declared.calls.Call.TheVariants.{Write as Writes, Checkpoint, Look, LookAt, Install, Retire}
use Rattle.lama_model.specs.declared.calls.Entry.{Entry}
use Rattle.lama_model.specs.declared.answers.Reply.{Reply}
use Rattle.lama_model.specs.declared.answers.Reply.TheVariants.{Accepted, Count, Snapshot, Kept, Refused}
use Rattle.lama_model.specs.declared.answers.Refusal.TheVariants.{UnknownVertex, FullVertices, FullEdges, FullKept, FullNumbers, NoSnapshot}

-- what a journal leaves
pub record Standing : Type 0 where
  -- the graph of the newest opening graph and all accepted writes
  pub graph : Graph
  -- the edges of the newest opening graph, and the accepted additions
  pub added : ℕ
  -- the graphs of the accepted checkpoints, oldest first
  pub made : List Graph
  -- for each of them the writes accepted since the one before, oldest first
  pub written : List (List Write)
  -- the writes accepted since the last of them, oldest first
  pub pending : List Write
  -- the oldest number that is kept
  pub oldest : ℕ
  -- the numbers of the accepted installs, newest first
  pub installed : List ℕ

-- before any call
abbrev pub begun : Opening → Standing
begun o = let newest = opening_graph o (last_number o) in
    record { graph = newest; added = length newest.edges; made = []; written = []; pending = []; oldest = oldest_number o; installed = [] }

-- the newest number
abbrev pub newest_of : Opening → Standing → ℕ
newest_of o s = last_number o + length s.made

-- the graph of the number k
abbrev pub graph_of : Opening → Standing → ℕ → Graph
graph_of o s k = if nat_le k (last_number o) then opening_graph o k else slice_index_or s.made (k - last_number o - 1) no_graph

-- what changed from the graph of the number before to that of k, for k above the opening's floor
unfoldable pub change_of : Opening → Standing → ℕ → Change
change_of o s k =
    if nat_le k (last_number o) then opening_change o k
    else change_between (graph_of o s (k - 1)) (slice_index_or s.written (k - last_number o - 1) []) k

-- the floor of the number j where this stands: the greatest installed number up to j, or the opening's floor
abbrev pub floor_of : Opening → Standing → ℕ → ℕ
floor_of o s j = fold (λ f k. if nat_le k j then max f k else f) (first_number o) s.installed

-- refused where a vertex isn't one of the standing graph, u first
abbrev pub with_ends : Standing → ℕ → ℕ → Reply → Reply
with_ends s u v reply =
    if not (nat_lt u s.graph.count) then Refused (UnknownVertex u s.graph.count)
    else (if not (nat_lt v s.graph.count) then Refused (UnknownVertex v s.graph.count) else reply)

-- what a write is answered
unfoldable pub reply_to_write : Standing → Write → Reply
reply_to_write s (Vertices n) = if nat_lt 4194304 (s.graph.count + n) then Refused FullVertices else Count (s.graph.count + n)
reply_to_write s (Add u v w) = with_ends s u v (if nat_le 33554432 s.added then Refused FullEdges else Accepted)
reply_to_write s (Remove u v) = with_ends s u v Accepted
reply_to_write s (Weigh u v w) = with_ends s u v Accepted

-- refused where no kept snapshot has the number k
abbrev pub with_kept : Opening → Standing → ℕ → Reply → Reply
with_kept o s k reply = if nat_lt k s.oldest || nat_lt (newest_of o s) k then Refused (NoSnapshot k s.oldest (newest_of o s)) else reply

-- what a call is answered where this stands
unfoldable pub reply_at : Opening → Standing → Call → Reply
reply_at o s (Writes w) = reply_to_write s w
reply_at o s Checkpoint =
    if nat_le 100000000 (newest_of o s) then Refused FullNumbers
    else (if nat_le 4096 (newest_of o s + 1 - s.oldest) then Refused FullKept else Snapshot (newest_of o s + 1))
reply_at o s Look = Snapshot (newest_of o s)
reply_at o s (LookAt k) = with_kept o s k (Snapshot k)
reply_at o s (Install k) = with_kept o s k (Snapshot k)
reply_at o s (Retire k) = with_kept o s k (Kept k (newest_of o s))

-- the reply is no refusal
abbrev pub is_accepted : Reply → Bool
is_accepted (Refused r) = false
is_accepted Accepted = true
is_accepted (Count c) = true
is_accepted (Snapshot k) = true
is_accepted (Kept a b) = true

-- an accepted addition adds one edge to those that count for the limit
abbrev pub edges_added : Write → ℕ
edges_added (Vertices n) = 0
edges_added (Add u v w) = 1
edges_added (Remove u v) = 0
edges_added (Weigh u v w) = 0

-- what an accepted call leaves
abbrev pub done : Call → Standing → Standing
done (Writes w) s = record s { graph = effect w s.graph; added = s.added + edges_added w; pending = s.pending ++ w ∷ [] }
done Checkpoint s = record s { made = s.made ++ s.graph ∷ []; written = s.written ++ s.pending ∷ []; pending = [] }
done Look s = s
done (LookAt k) s = s
done (Install k) s = record s { installed = k ∷ s.installed }
done (Retire k) s = record s { oldest = max s.oldest k }

-- one call more. A refused one leaves all as it is
unfoldable pub after : Opening → Standing → Call → Standing
after o s call = if is_accepted (reply_at o s call) then done call s else s

-- what the journal leaves
unfoldable pub standing : Opening → List Entry → Standing
standing o journal = fold (λ s e. after o s e.call) (begun o) journal

-- what a call is answered after the journal
abbrev pub reply : Opening → List Entry → Call → Reply
reply o journal call = reply_at o (standing o journal) call

-- the newest number: the opening's, and one for each accepted checkpoint
abbrev pub newest : Opening → List Entry → ℕ
newest o journal = newest_of o (standing o journal)

-- the oldest number that is kept: the greatest of an accepted retirement, or the opening's
abbrev pub oldest : Opening → List Entry → ℕ
oldest o journal = (standing o journal).oldest

-- the floor of the number j: the greatest installed number up to j, or the opening's floor
abbrev pub floor_at : Opening → List Entry → ℕ → ℕ
floor_at o journal j = floor_of o (standing o journal) j

-- the floor of the newest number
abbrev pub floor : Opening → List Entry → ℕ
floor o journal = floor_at o journal (newest o journal)

-- the graph of the number k, from the opening's floor to the newest
abbrev pub graph : Opening → List Entry → ℕ → Graph
graph o journal k = graph_of o (standing o journal) k

-- what changed from the graph of the number k - 1 to that of k
abbrev pub change : Opening → List Entry → ℕ → Change
change o journal k = change_of o (standing o journal) k

-- the call is a checkpoint that is accepted there
abbrev pub is_made : Opening → Standing → Call → Bool
is_made o s Checkpoint = is_accepted (reply_at o s Checkpoint)
is_made o s (Writes w) = false
is_made o s Look = false
is_made o s (LookAt k) = false
is_made o s (Install k) = false
is_made o s (Retire k) = false

-- the entries before the n-th accepted checkpoint, n from 1, for calls made where s stands
abbrev pub before_made : Opening → Standing → ℕ → List Entry → List Entry
before_made o s n [] = []
before_made o s n (e ∷ journal) =
    if is_made o s e.call && nat_le n 1 then []
    else e ∷ before_made o (after o s e.call) (if is_made o s e.call then n - 1 else n) journal

-- the prefix of the journal whose standing graph is the graph of the number k, for k above the opening's newest
abbrev pub cut : Opening → List Entry → ℕ → List Entry
cut o journal k = before_made o (begun o) (k - last_number o) journal
