-- What a run is expected to write, seen from a moment of it. The calls so far are known by what they leave.
use Rattle.std.specs.Prelude.{ℕ, ◌+◌, nat_lt, if◌then◌else◌, List, [], ◌∷◌, ◌++◌, length}
use Rattle.lama_model.specs.Opening.{empty_opening}
use Rattle.lama_model.specs.Journal.{reply_at, newest_of, graph_of, floor_of}
use Rattle.lama_model.specs.Script.{End, Meaning, meaning}
use Rattle.lama_model.specs.Script.End.{Whole, BadAt, TooMany}
use Rattle.lama_model.specs.Script.Meaning.{Skipped, Says, Bad}
use Rattle.lama_model.specs.Lines.{reply_line, last_line}
use Rattle.lama_model.specs.Text.{look_of, read_lines}
use Rattle.lama_model.specs.declared.calls.Call.TheVariants.{Write as WriteCall, Checkpoint, Look, Install, Retire}
use Rattle.lama_model.specs.declared.commands.Command.{Command}
use Rattle.lama_model.specs.declared.commands.Command.TheVariants.{Write as Writes, Checkpoint as Checkpoints, Merge as Merges, Retire as Retires, Read as Reads}
use Rattle.lama_model.specs.declared.commands.Read.{Read}
use Rattle.lama_model.specs.declared.answers.Reply.{Reply}
use Rattle.lama_model.specs.declared.answers.Reply.TheVariants.{Accepted, Count, Snapshot, Kept, Refused}
use Rattle.llama_main.specs.Store.{Held, called}
use Rattle.llama_main.specs.Outcome.{Outcome}

-- the same with these bytes written before it
abbrev pub behind : List ℕ → Outcome → Outcome
behind said rest = record { text = said ++ rest.text; end = rest.end; journal = rest.journal }

-- nothing more but the last line
abbrev pub ended : Held → End → Outcome
ended h end = record { text = last_line (length h.journal) end; end = end; journal = h.journal }

-- what a merge installs is the newest number
abbrev pub newest_held : Held → ℕ
newest_held h = newest_of empty_opening h.standing

-- what is held after a command
abbrev pub held_after : Held → Command → Held
held_after h (Writes w) = called h (WriteCall w)
held_after h Checkpoints = called h Checkpoint
held_after h Merges = called (called h Look) (Install (newest_held h))
held_after h (Retires k) = called h (Retire k)
held_after h (Reads at what) = called h (look_of at)

-- what is read of the snapshot of the number k where this is held
abbrev pub told_at : Held → ℕ → Read → List ℕ
told_at h k what = read_lines (graph_of empty_opening h.standing) (floor_of empty_opening h.standing k) k what

-- what a reading command prints, where its call left this
abbrev pub printed_reading : Held → Command → Read → Reply → List ℕ
printed_reading h command what (Snapshot k) = told_at h k what
printed_reading h command what (Refused r) = reply_line command (Refused r)
printed_reading h command what Accepted = []
printed_reading h command what (Count c) = []
printed_reading h command what (Kept a b) = []

-- what a command prints
abbrev pub printed : Held → Command → List ℕ
printed h (Writes w) = reply_line (Writes w) (reply_at empty_opening h.standing (WriteCall w))
printed h Checkpoints = reply_line Checkpoints (reply_at empty_opening h.standing Checkpoint)
printed h Merges = reply_line Merges (reply_at empty_opening (called h Look).standing (Install (newest_held h)))
printed h (Retires k) = reply_line (Retires k) (reply_at empty_opening h.standing (Retire k))
printed h (Reads at what) =
    printed_reading (held_after h (Reads at what)) (Reads at what) what (reply_at empty_opening h.standing (look_of at))

-- the line of number n that says this, and then the rest
abbrev pub following : Held → ℕ → Meaning → (Held → Outcome) → Outcome
following h n Skipped rest = rest h
following h n (Says c) rest = behind (printed h c) (rest (held_after h c))
following h n Bad rest = ended h (BadAt n)

-- the lines from the one of number n on
unfoldable pub expected_from : Held → ℕ → List (List ℕ) → Outcome
expected_from h n [] = ended h Whole
expected_from h n (line ∷ rest) =
    if nat_lt 2097152 n then ended h TooMany else following h n (meaning line) (λ g. expected_from g (n + 1) rest)
