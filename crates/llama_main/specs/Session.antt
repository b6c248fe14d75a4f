-- A run between two pieces of its script: what it is expected to write.
use Rattle.std.specs.Prelude.{◌≡◌, ℕ, ◌-◌, ◌*◌, ◌≤◌, List, ◌++◌, length, Option}
use Rattle.lama_model.specs.Script.{lines}
use Rattle.lama_model.specs.declared.calls.Entry.{Entry}
use Rattle.llama_main.specs.Outcome.{Outcome}
use Rattle.llama_main.specs.Expected.{behind}
use Rattle.llama_main.specs.Streams.{Appends}
use Rattle.llama_main.specs.Stop.{StopsAt, HasNoFeed}
use Rattle.llama_main.specs.Interpreter.{expected_of, IsRunning}
use Rattle.llama_main.specs.declared.stop.Stop.{Stop}
use Rattle.llama_main.specs.declared.session.Session.{Session}

-- what will have been written from here on, if these bytes come and then the end
abbrev pub expected : Session → List ℕ → Outcome
expected s more = expected_of s.interpreter (lines (s.carry.items ++ more))

-- what has come of the next line is no whole line, and short enough to be one; after the last line that is taken nothing is kept
pub record IsReady (s : Session) : Type 0 where
  pub running : IsRunning s.interpreter
  pub no_feed : HasNoFeed s.carry.items
  pub short : length s.carry.items ≤ 1024
  pub none_after_last : length s.carry.items ≤ 1024 * (2097152 - s.interpreter.parser.taken)

-- the bytes that can still be taken
abbrev pub room : Session → ℕ
room s = 1025 * (2097152 - s.interpreter.parser.taken) - length s.carry.items

-- something was written, and with what is expected now it is what was expected when the piece was still to come
pub record Wrote (before now : Option (List ℕ)) (old new : Session) (piece : List ℕ) : Type 0 where
  pub said : List ℕ
  pub appended : Appends before now said
  pub kept : (more : List ℕ) → expected old (piece ++ more) ≡ behind said (expected new more)

-- something was written, and whatever comes after the piece, the run stops so with that gathered
pub record Stopped (before now : Option (List ℕ)) (old : Session) (piece out : List ℕ) (journal : List Entry) (stop : Stop) : Type 0 where
  pub said : List ℕ
  pub appended : Appends before now said
  pub stops : (more : List ℕ) → StopsAt stop (said ++ out) journal (expected old (piece ++ more))
