-- How a run ends: its status, its last line, and what both say of the script.
use Rattle.std.specs.Prelude.{◌≡◌, ◌⊎◌, ℕ, List, [], ◌++◌, Option, Some, None, IsSome, ⊤}
use Rattle.lama_model.specs.Opening.{empty_opening}
use Rattle.lama_model.specs.Script.{End, script}
use Rattle.lama_model.specs.Script.End.{Whole, BadAt, TooMany}
use Rattle.lama_model.specs.Lines.{last_line, usage_line}
use Rattle.lama_model.specs.Text.{text}
use Rattle.llama_main.specs.declared.status.Status.{Status}
use Rattle.llama_main.specs.declared.status.Status.TheVariants.{Done, Usage, BadLine, ReadFault, WriteFault, NoMemory, TooManyLines}
use Rattle.lama_book.specs.Book.{Book}
use Rattle.lama_book.specs.Relation.{IsBookOf}
use Rattle.llama_main.specs.Outcome.{outcome, journal_of}
use Rattle.llama_main.specs.Streams.{Appends, Gave, HasEnded}

-- the exit status of the program
abbrev pub code_of : Status → ℕ
code_of Done = 0
code_of Usage = 2
code_of (BadLine n) = 3
code_of ReadFault = 4
code_of WriteFault = 5
code_of NoMemory = 9
code_of TooManyLines = 10

-- the end of the script that a status names
abbrev pub end_of : Status → Option End
end_of Done = Some Whole
end_of (BadLine n) = Some (BadAt n)
end_of TooManyLines = Some TooMany
end_of Usage = None
end_of ReadFault = None
end_of WriteFault = None
end_of NoMemory = None

-- the last line of a status, after so many calls
abbrev pub last_text : ℕ → Status → List ℕ
last_text calls Done = last_line calls Whole
last_text calls (BadLine n) = last_line calls (BadAt n)
last_text calls TooManyLines = last_line calls TooMany
last_text calls Usage = usage_line
last_text calls ReadFault = []
last_text calls WriteFault = []
last_text calls NoMemory = []

-- a status at which the text may be cut short
abbrev pub IsCut : Status → Type 0
IsCut Done = ⊥
IsCut Usage = ⊥
IsCut (BadLine n) = ⊥
IsCut ReadFault = ⊤
IsCut WriteFault = ⊤
IsCut NoMemory = ⊤
IsCut TooManyLines = ⊥

-- a status that words outside the grammar may have
abbrev pub IsOutside : Status → Type 0
IsOutside Done = ⊥
IsOutside Usage = ⊤
IsOutside (BadLine n) = ⊥
IsOutside ReadFault = ⊥
IsOutside WriteFault = ⊤
IsOutside NoMemory = ⊤
IsOutside TooManyLines = ⊥

-- P holds of the bytes that the source gave and of those that the sink took, which are known where source and sink tell them
abbrev pub Exchanges : Option (List ℕ) → Option (List ℕ) → Option (List ℕ) → Option (List ℕ) → (List ℕ → List ℕ → Type 0) → Type 0
Exchanges left left' written written' P = (given : List ℕ) × (taken : List ℕ) × Gave left left' given × Appends written written' taken × P given taken

-- what was written is the whole text of the script that was read, which ends so
pub record IsText (given taken : List ℕ) (end : End) : Type 0 where
  pub whole : taken ≡ text empty_opening given
  pub ends : (script given).end ≡ end

-- whatever comes after what was read, the text is the same, unless the source was read to its end
abbrev pub IsSettled : Option (List ℕ) → Option (List ℕ) → List ℕ → Type 0
IsSettled left left' given = HasEnded left left' ⊎ ((more : List ℕ) → outcome empty_opening (given ++ more) ≡ outcome empty_opening given)

-- the book of a run is there exactly where the status names the script's end: it stands for the empty opening and the journal of what was read
abbrev pub HasBook : Option (List ℕ) → Option (List ℕ) → Option (List ℕ) → Option (List ℕ) → Status → Option Book → Type 0
HasBook left left' written written' status None = end_of status ≡ None
HasBook left left' written written' status (Some b) =
    IsSome (end_of status) × IsBookOf empty_opening b × Exchanges left left' written written' (λ given taken. b.journal ≡ journal_of empty_opening given)
