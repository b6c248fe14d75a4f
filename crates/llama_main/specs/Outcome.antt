-- What a script comes to: its text, its end and its journal. The clauses of the top calls speak of it.
use Rattle.std.specs.Prelude.{ℕ, List, []}
use Rattle.lama_model.specs.Opening.{Opening}
use Rattle.lama_model.specs.Script.{End, script}
use Rattle.lama_model.specs.Text.{text, transcript_from}
use Rattle.lama_model.specs.declared.calls.Entry.{Entry}

-- a text, how the script ends, and the journal
pub record Outcome : Type 0 where
  pub text : List ℕ
  pub end : End
  pub journal : List Entry

-- the journal of the script's bytes
abbrev pub journal_of : Opening → List ℕ → List Entry
journal_of o bytes = (transcript_from o [] (script bytes).items).journal

-- the outcome of a script of these bytes
abbrev pub outcome : Opening → List ℕ → Outcome
outcome o bytes = record { text = text o bytes; end = (script bytes).end; journal = journal_of o bytes }
