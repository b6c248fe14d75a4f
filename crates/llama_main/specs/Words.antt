-- The grammar of the command line's words, and what a run says of them.
use Rattle.std.specs.Prelude.{◌≡◌, ◌≤◌, ◌⊎◌, ℕ, nat_le, ◌&&◌, if◌then◌else◌, List, [], ◌∷◌, map, codes, bytes_eq, Option, Some, None, IsSome, String}
use Rattle.std.specs.String.{string_bytes}
use Rattle.lama_model.specs.Script.{number}
use Rattle.lama_model.specs.Opening.{empty_opening}
use Rattle.lama_model.specs.Text.{text}
use Rattle.lama_model.specs.Lines.{usage_line}
use Rattle.llama_main.specs.declared.status.Status.{Status}
use Rattle.llama_main.specs.declared.status.Status.TheVariants.{Usage, WriteFault, NoMemory}
use Rattle.llama_main.specs.Streams.{IsFront, Appends}

-- a number of workers, which is from 1 to 16
abbrev pub in_range : Option ℕ → Option ℕ
in_range None = None
in_range (Some n) = if nat_le 1 n && nat_le n 16 then Some n else None

-- so many may work together
abbrev pub IsTeam : ℕ → Type 0
IsTeam workers = (1 ≤ workers) × (workers ≤ 16)

-- how many workers the words ask for, where they are in the grammar: no words ask for one, and `--workers N` for N
unfoldable pub workers_of : List (List ℕ) → Option ℕ
workers_of [] = Some 1
workers_of (word ∷ []) = None
workers_of (word ∷ n ∷ []) = if bytes_eq word (codes "--workers") then in_range (number n) else None
workers_of (word ∷ n ∷ more ∷ words) = None

-- the words as lists of bytes
abbrev pub bytes_of : {Z : Type 0} → List (String Z) → List (List ℕ)
bytes_of words = map string_bytes words

-- the words are in the grammar
abbrev pub AreInGrammar : {Z : Type 0} → List (String Z) → Type 0
AreInGrammar words = IsSome (workers_of (bytes_of words))

-- the text of the script where there is a number of workers, which it does not depend on, and else the line of usage
abbrev pub text_by : Option ℕ → List ℕ → List ℕ
text_by (Some workers) given = text empty_opening given
text_by None given = usage_line

-- what would be written where nothing fails
abbrev pub text_under : {Z : Type 0} → List (String Z) → List ℕ → List ℕ
text_under words given = text_by (workers_of (bytes_of words)) given

-- the words were refused: the line of usage was written, or a front of it
abbrev pub AreRefused : Option (List ℕ) → Option (List ℕ) → Status → Type 0
AreRefused written written' status =
    ((status ≡ Usage) × Appends written written' usage_line)
    ⊎ ((said : List ℕ) × Appends written written' said × IsFront said usage_line × ((status ≡ WriteFault) ⊎ (status ≡ NoMemory)))
