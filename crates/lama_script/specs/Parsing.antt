-- What a parser answers, line by line, and the script that its answers make.
use Rattle.std.specs.Prelude.{ℕ, ◌+◌, nat_lt, if◌then◌else◌, List, [], ◌∷◌, Option, Some, None, Result, Ok, Err, ⊤}
use Rattle.lama_model.specs.Script.{Meaning, meaning, Script, End}
use Rattle.lama_model.specs.Script.Item.{One as OneItem}
use Rattle.lama_model.specs.Script.{Item as ModelItem}
use Rattle.lama_model.specs.Script.Meaning.{Skipped, Says, Bad}
use Rattle.lama_model.specs.Script.End.{Whole, BadAt, TooMany}
use Rattle.lama_script.specs.declared.item.Item.{Item}
use Rattle.lama_script.specs.declared.item.Item.TheVariants.{One}
use Rattle.lama_script.specs.declared.item.ScriptFault.{ScriptFault}
use Rattle.lama_script.specs.declared.item.ScriptFault.TheVariants.{BadLine, TooLong, NoMemory}

-- what a parser has read: how many lines it took, and how the script ends as far as it was read, at the fault that was given if there was one
pub record Parsing : Type 0 where
  pub taken : ℕ
  pub end : End

-- a parser that has read nothing
abbrev pub start : Parsing
start = record { taken = 0; end = Whole }

-- an item as the model has it
abbrev pub item_view : Item → ModelItem
item_view (One c) = OneItem c

-- what a line of that meaning is answered, as the line of number n
abbrev pub answer_to : ℕ → Meaning → Result (Option Item) ScriptFault
answer_to n Skipped = Ok None
answer_to n (Says c) = Ok (Some (One c))
answer_to n Bad = Err (BadLine n)

-- what the line of number n is answered where the script ends so before it: a fault is given again, and the lines are at most 2,097,152
abbrev pub line_answer_at : ℕ → End → List ℕ → Result (Option Item) ScriptFault
line_answer_at n Whole line = if nat_lt 2097152 n then Err TooLong else answer_to n (meaning line)
line_answer_at n (BadAt m) line = Err (BadLine m)
line_answer_at n TooMany line = Err TooLong

-- what the next line is answered, where there is memory
abbrev pub line_answer : Parsing → List ℕ → Result (Option Item) ScriptFault
line_answer p line = line_answer_at (p.taken + 1) p.end line

-- what a parser has read after it answered a line so: a line is taken where no fault was given for it, and want of memory changes nothing
abbrev pub after_answer : Parsing → Result (Option Item) ScriptFault → Parsing
after_answer p (Ok item) = record { taken = p.taken + 1; end = p.end }
after_answer p (Err (BadLine n)) = record { taken = p.taken; end = BadAt n }
after_answer p (Err TooLong) = record { taken = p.taken; end = TooMany }
after_answer p (Err NoMemory) = p

-- what the end of the script is answered
abbrev pub finish_answer : End → Result ⊤ ScriptFault
finish_answer Whole = Ok tt
finish_answer (BadAt n) = Err (BadLine n)
finish_answer TooMany = Err TooLong

-- one answer before the rest of the script
abbrev pub with_answer : Result (Option Item) ScriptFault → Script → Script
with_answer (Ok None) rest = rest
with_answer (Ok (Some item)) rest = record { items = item_view item ∷ rest.items; end = rest.end }
with_answer (Err fault) rest = rest

-- the items that the lines are answered, one after another, and the end that stands after them all
abbrev pub parsed : Parsing → List (List ℕ) → Script
parsed p [] = record { items = []; end = p.end }
parsed p (line ∷ rest) = with_answer (line_answer p line) (parsed (after_answer p (line_answer p line)) rest)
