-- What a run writes: the lines of a script's items, one after another, and a last line.
use Rattle.std.specs.Prelude.{ℕ, nat_lt, ◌||◌, if◌then◌else◌, List, [], ◌∷◌, ◌++◌, length, map, Option, Some, None}
use Rattle.lama_model.specs.Graph.{Graph}
use Rattle.lama_model.specs.Row.{row, rows_of}
use Rattle.lama_model.specs.Opening.{Opening}
use Rattle.lama_model.specs.Journal.{reply, newest, graph, floor_at}
use Rattle.lama_model.specs.Script.{Item, Script, script}
use Rattle.lama_model.specs.Script.Item.{One}
use Rattle.lama_model.specs.Lines.{reply_line, refusal_line, row_line, as_of_line, edges_lines, greatest, degrees_line, levels_text, labels_text, ranks_text, distances_text, last_line}
use Rattle.lama_model.specs.Levels.{levels}
use Rattle.lama_model.specs.Labels.{labels}
use Rattle.lama_model.specs.Degrees.{out_degrees, count_sinks}
use Rattle.lama_model.specs.Ranks.{ranks}
use Rattle.lama_model.specs.Distances.{distances}
use Rattle.lama_model.specs.declared.calls.Call.{Call}
use Rattle.lama_model.specs.declared.calls.Call.TheVariants.{Write as WriteCall, Checkpoint, Look, LookAt, Install, Retire}
use Rattle.lama_model.specs.declared.calls.Entry.{Entry}
use Rattle.lama_model.specs.declared.commands.Command.{Command}
use Rattle.lama_model.specs.declared.commands.Command.TheVariants.{Write as Writes, Checkpoint as Checkpoints, Merge as Merges, Retire as Retires, Read as Reads}
use Rattle.lama_model.specs.declared.commands.Read.{Read}
use Rattle.lama_model.specs.declared.commands.Read.TheVariants.{Row, Edges, Degrees, Bfs, Labels, Rank, Dist, AsOf}
use Rattle.lama_model.specs.declared.answers.Reply.{Reply}
use Rattle.lama_model.specs.declared.answers.Reply.TheVariants.{Accepted, Count, Snapshot, Kept, Refused}
use Rattle.lama_model.specs.declared.answers.Refusal.TheVariants.{UnknownVertex, NoSnapshot}

-- a reading command's call: the newest snapshot, or the one of that number
abbrev pub look_of : Option ℕ → Call
look_of None = Look
look_of (Some k) = LookAt k

-- the calls of a command, made after the journal. A merge looks for the newest number and installs that
abbrev pub calls_of : Opening → List Entry → Command → List Call
calls_of o journal (Writes w) = WriteCall w ∷ []
calls_of o journal Checkpoints = Checkpoint ∷ []
calls_of o journal Merges = Look ∷ Install (newest o journal) ∷ []
calls_of o journal (Retires k) = Retire k ∷ []
calls_of o journal (Reads at what) = look_of at ∷ []

abbrev pub entry : ℕ → Call → Entry
entry caller call = record { caller = caller; call = call }

-- the journal after a command of the caller
abbrev pub journal_after : Opening → List Entry → ℕ → Command → List Entry
journal_after o journal caller command = journal ++ map (entry caller) (calls_of o journal command)

-- what is printed of the snapshot of the number k, where the numbers have these graphs and the snapshot has that floor
unfoldable pub read_lines : (ℕ → Graph) → ℕ → ℕ → Read → List ℕ
read_lines graphs floor k (Row v) = if nat_lt v (graphs k).count then row_line k v (row (graphs k) v) else refusal_line (UnknownVertex v (graphs k).count)
read_lines graphs floor k Edges = edges_lines k (rows_of (graphs k))
read_lines graphs floor k (Bfs s sum) = if nat_lt s (graphs k).count then levels_text k s (levels (graphs k) s) sum else refusal_line (UnknownVertex s (graphs k).count)
read_lines graphs floor k (Labels sum) = labels_text k (labels (graphs k)) sum
read_lines graphs floor k Degrees = degrees_line k (graphs k).count (length (graphs k).edges) (greatest (out_degrees (graphs k))) (count_sinks (graphs k))
read_lines graphs floor k (Rank rounds sum) = ranks_text k rounds (ranks (graphs k) rounds) sum
read_lines graphs floor k (Dist s sum) = if nat_lt s (graphs k).count then distances_text k s (distances (graphs k) s) sum else refusal_line (UnknownVertex s (graphs k).count)
-- only the graphs from the floor to the snapshot's own are told
read_lines graphs floor k (AsOf j v) =
    if nat_lt j floor || nat_lt k j then refusal_line (NoSnapshot j floor k)
    else (if nat_lt v (graphs k).count then as_of_line k j v (map (λ p. p.0) (row (graphs j) v)) else refusal_line (UnknownVertex v (graphs k).count))

-- what a reading command prints for the reply to its call, after the journal that ends with that call
abbrev pub reading_lines : Opening → List Entry → Command → Read → Reply → List ℕ
reading_lines o journal command what (Snapshot k) = read_lines (graph o journal) (floor_at o journal k) k what
reading_lines o journal command what (Refused r) = reply_line command (Refused r)
reading_lines o journal command what Accepted = []
reading_lines o journal command what (Count c) = []
reading_lines o journal command what (Kept a b) = []

-- what a command of the caller prints, made after the journal
abbrev pub lines_of : Opening → List Entry → ℕ → Command → List ℕ
lines_of o journal caller (Writes w) = reply_line (Writes w) (reply o journal (WriteCall w))
lines_of o journal caller Checkpoints = reply_line Checkpoints (reply o journal Checkpoint)
lines_of o journal caller Merges = reply_line Merges (reply o (journal ++ entry caller Look ∷ []) (Install (newest o journal)))
lines_of o journal caller (Retires k) = reply_line (Retires k) (reply o journal (Retire k))
lines_of o journal caller (Reads at what) =
    reading_lines o (journal_after o journal caller (Reads at what)) (Reads at what) what (reply o journal (look_of at))

-- what was printed, and the journal
pub record Transcript : Type 0 where
  pub printed : List ℕ
  pub journal : List Entry

-- the items one after another, made after the journal
abbrev pub transcript_from : Opening → List Entry → List Item → Transcript
transcript_from o journal [] = record { printed = []; journal = journal }
transcript_from o journal (One c ∷ items) =
    let rest = transcript_from o (journal_after o journal 0 c) items in
    record { printed = lines_of o journal 0 c ++ rest.printed; journal = rest.journal }

-- the text of a script that was read so
abbrev pub text_of : Opening → List Entry → Script → List ℕ
text_of o journal s = let whole = transcript_from o journal s.items in whole.printed ++ last_line (length whole.journal) s.end

-- the text of the script's bytes
unfoldable pub text : Opening → List ℕ → List ℕ
text o bytes = text_of o [] (script bytes)
