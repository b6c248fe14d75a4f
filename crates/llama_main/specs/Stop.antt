-- Why a run stops, and what that says of the script.
use Rattle.std.specs.Prelude.{◌≡◌, ℕ, false, List, ◌++◌, All}
use Rattle.lama_model.specs.Script.{End, is_line_feed}
use Rattle.lama_model.specs.Script.End.{BadAt, TooMany}
use Rattle.lama_model.specs.Lines.{last_line}
use Rattle.llama_main.specs.Streams.{IsFront}
use Rattle.lama_model.specs.declared.calls.Entry.{Entry}
use Rattle.llama_main.specs.Outcome.{Outcome}
use Rattle.llama_main.specs.declared.stop.Stop.{Stop}
use Rattle.llama_main.specs.declared.stop.Stop.TheVariants.{BadLine, TooManyLines, ReadFault, WriteFault, NoMemory}

-- the last line says that the script ends so, after these calls
abbrev pub last_of : List ℕ → List Entry → End → Outcome
last_of said journal end = record { text = said ++ last_line 0 end; end = end; journal = journal }

-- where a run stops so, what was said is all but the last line, or a front of the text
abbrev pub StopsAt : Stop → List ℕ → List Entry → Outcome → Type 0
StopsAt (BadLine n) said journal whole = whole ≡ last_of said journal (BadAt n)
StopsAt TooManyLines said journal whole = whole ≡ last_of said journal TooMany
StopsAt ReadFault said journal whole = IsFront said whole.text
StopsAt WriteFault said journal whole = IsFront said whole.text
StopsAt NoMemory said journal whole = IsFront said whole.text

-- a stop that comes from the script or for want of memory, and from no fault outside
abbrev pub IsOfScript : Stop → Type 0
IsOfScript (BadLine n) = Unit {0}
IsOfScript TooManyLines = Unit {0}
IsOfScript ReadFault = ⊥
IsOfScript WriteFault = ⊥
IsOfScript NoMemory = Unit {0}

-- no byte of the line is a line feed
abbrev pub HasNoFeed : List ℕ → Type 0
HasNoFeed line = All (λ b. is_line_feed b ≡ false) line
