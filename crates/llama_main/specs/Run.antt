-- What a run over the source and the sink leaves to be written.
use Rattle.std.specs.Prelude.{◌≡◌, ◌⊎◌, ℕ, List, ◌++◌, length, Option, Result, Ok, Err}
use Rattle.lama_model.specs.Opening.{empty_opening}
use Rattle.lama_model.specs.Script.End.{Whole, BadAt, TooMany}
use Rattle.lama_model.specs.Text.{text}
use Rattle.lama_model.specs.declared.calls.Entry.{Entry}
use Rattle.lama_model.specs.Lines.{last_line}
use Rattle.llama_main.specs.declared.stop.Stop.{Stop}
use Rattle.llama_main.specs.declared.stop.Stop.TheVariants.{BadLine, TooManyLines, ReadFault, WriteFault, NoMemory}
use Rattle.llama_main.specs.declared.status.Status.{Status}
use Rattle.llama_main.specs.declared.status.Status.TheVariants as statuses
use Rattle.llama_main.specs.declared.session.Session.{Session}
use Rattle.llama_main.specs.Outcome.{Outcome, journal_of}
use Rattle.llama_main.specs.Streams.{Gave, Appends, HasEnded, IsFront}
use Rattle.llama_main.specs.Stop.{StopsAt}
use Rattle.llama_main.specs.Ending.{IsText, IsSettled}
use Rattle.llama_main.specs.Session.{expected, Wrote}

-- what was read and written so far, and what is expected now
pub record Reached (left left' written written' : Option (List ℕ)) (old new : Session) : Type 0 where
  pub given : List ℕ
  pub gave : Gave left left' given
  pub wrote : Wrote written written' old new given

-- the whole text is what was said, what is gathered, and the last line
abbrev pub whole_of : List Entry → List ℕ → Outcome
whole_of journal said = record { text = said ++ last_line (length journal) Whole; end = Whole; journal = journal }

-- what an answer says of the script
abbrev pub Says : Option (List ℕ) → Option (List ℕ) → Session → List ℕ → List ℕ → List Entry → Result (Unit {0}) Stop → Type 0
Says left left' old given said journal (Ok done) = HasEnded left left' × (expected old given ≡ whole_of journal said)
Says left left' old given said journal (Err stop) = (HasEnded left left' × StopsAt stop said journal (expected old given)) ⊎ ((more : List ℕ) → StopsAt stop said journal (expected old (given ++ more)))

-- what was read and written before an answer, with what is gathered
pub record HasRead (left left' written written' : Option (List ℕ)) (old : Session) (out : List ℕ) (journal : List Entry) (answer : Result (Unit {0}) Stop) : Type 0 where
  pub given : List ℕ
  pub said : List ℕ
  pub gave : Gave left left' given
  pub appended : Appends written written' said
  pub says : Says left left' old given (said ++ out) journal answer

-- the status of an answer
abbrev pub status_of : Result (Unit {0}) Stop → Status
status_of (Ok done) = statuses.Done
status_of (Err (BadLine n)) = statuses.BadLine n
status_of (Err TooManyLines) = statuses.TooManyLines
status_of (Err ReadFault) = statuses.ReadFault
status_of (Err WriteFault) = statuses.WriteFault
status_of (Err NoMemory) = statuses.NoMemory

-- what a status says of what was read and written
abbrev pub Fits : Option (List ℕ) → Option (List ℕ) → List ℕ → List ℕ → List Entry → Status → Type 0
Fits left left' given taken journal statuses.Done = HasEnded left left' × IsText given taken Whole × (journal ≡ journal_of empty_opening given)
Fits left left' given taken journal (statuses.BadLine n) = IsSettled left left' given × IsText given taken (BadAt n) × (journal ≡ journal_of empty_opening given)
Fits left left' given taken journal statuses.TooManyLines = IsSettled left left' given × IsText given taken TooMany × (journal ≡ journal_of empty_opening given)
Fits left left' given taken journal statuses.ReadFault = IsFront taken (text empty_opening given)
Fits left left' given taken journal statuses.WriteFault = IsFront taken (text empty_opening given)
Fits left left' given taken journal statuses.NoMemory = IsFront taken (text empty_opening given)
Fits left left' given taken journal statuses.Usage = ⊥

-- a run of a script with its journal and its status
pub record RanWith (left left' written written' : Option (List ℕ)) (journal : List Entry) (status : Status) : Type 0 where
  pub given : List ℕ
  pub taken : List ℕ
  pub gave : Gave left left' given
  pub took : Appends written written' taken
  pub fits : Fits left left' given taken journal status

-- a run of a script with its status
pub record Ran (left left' written written' : Option (List ℕ)) (status : Status) : Type 0 where
  pub journal : List Entry
  pub run : RanWith left left' written written' journal status
