-- How a parser's own field stands for the end of the script.
use Rattle.std.specs.Prelude.{Option, Some, None, ⊤}
use Rattle.lama_model.specs.Script.{End}
use Rattle.lama_model.specs.Script.End.{Whole, BadAt, TooMany}
use Rattle.lama_script.specs.declared.item.ScriptFault.{ScriptFault}
use Rattle.lama_script.specs.declared.item.ScriptFault.TheVariants.{BadLine, TooLong, NoMemory}

-- the end that a given fault makes
abbrev pub end_of : Option ScriptFault → End
end_of None = Whole
end_of (Some (BadLine n)) = BadAt n
end_of (Some TooLong) = TooMany
end_of (Some NoMemory) = Whole

-- want of memory is no fault that a parser keeps
abbrev pub IsKept : Option ScriptFault → Type 0
IsKept None = ⊤
IsKept (Some (BadLine n)) = ⊤
IsKept (Some TooLong) = ⊤
IsKept (Some NoMemory) = ⊥
