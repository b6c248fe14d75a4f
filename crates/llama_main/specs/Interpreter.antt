-- A run between two lines: what it is expected to write.
use Rattle.std.specs.Prelude.{◌≡◌, ℕ, ◌+◌, ◌*◌, ◌≤◌, List, length}
use Rattle.lama_model.specs.Script.End.{Whole}
use Rattle.llama_main.specs.Outcome.{Outcome}
use Rattle.llama_main.specs.Expected.{behind, expected_from}
use Rattle.lama_model.specs.declared.commands.Command.{Command}
use Rattle.lama_script.specs.declared.item.Item.{Item}
use Rattle.lama_script.specs.declared.item.Item.TheVariants.{One}
use Rattle.llama_main.specs.declared.interpreter.Interpreter.{Interpreter}

-- what will have been written where these lines are still to come
abbrev pub expected_of : Interpreter → List (List ℕ) → Outcome
expected_of i rest = behind i.out.items (expected_from i.store (i.parser.taken + 1) rest)

-- no line was bad, and no line made more than two calls
pub record IsRunning (i : Interpreter) : Type 0 where
  pub whole : i.parser.end ≡ Whole
  pub calls : length i.store.journal ≤ 2 * i.parser.taken

-- the command of an item
abbrev pub command_in : Item → Command
command_in (One c) = c
