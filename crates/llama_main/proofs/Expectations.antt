-- What is expected at the start is the outcome, and how it goes on line by line.
use Rattle.std.proofs.Common.{◌≡◌, ℕ, ◌+◌, ◌<◌, ◌≤◌, Bool, true, false, cond, List, [], ◌∷◌, ◌++◌, length, refl, sym, ap, ◌∙◌, arith}
use Rattle.std.specs.Prelude.{nat_lt}
use Rattle.std.proofs.lemmas.List.{append_assoc}
use Rattle.std.proofs.lemmas.Bool.Decides.{nat_tests}
use Rattle.lama_model.specs.Opening.{empty_opening}
use Rattle.lama_model.specs.Journal.{standing, newest, reply, reply_at}
use Rattle.lama_model.specs.Script.{Meaning, Script, meaning, meaning_of_words, words, without_return, script_from, lines, with_line}
use Rattle.lama_model.specs.Script.Meaning.{Skipped, Says, Bad}
use Rattle.lama_model.specs.Script.End.{Whole, TooMany}
use Rattle.lama_model.specs.Lines.{reply_line, last_line}
use Rattle.lama_model.specs.Text.{entry, transcript_from, text, text_of, journal_after, lines_of, reading_lines, look_of}
use Rattle.lama_model.specs.declared.calls.Call.TheVariants.{Look, Install}
use Rattle.lama_model.specs.declared.calls.Entry.{Entry}
use Rattle.lama_model.specs.declared.commands.Command.{Command}
use Rattle.lama_model.specs.declared.commands.Command.TheVariants.{Write as Writes, Checkpoint as Checkpoints, Merge as Merges, Retire as Retires, Read as Reads}
use Rattle.lama_model.specs.declared.commands.Read.{Read}
use Rattle.lama_model.specs.declared.answers.Reply.{Reply}
use Rattle.lama_model.specs.declared.answers.Reply.TheVariants.{Accepted, Count, Snapshot, Kept, Refused}
use Rattle.llama_main.specs.Store.{Held, held_by, called}
use Rattle.llama_main.proofs.Holding.{held_by-push}
use Rattle.llama_main.specs.Outcome.{Outcome, outcome}
use Rattle.llama_main.specs.Expected.{behind, ended, held_after, printed, printed_reading, following, expected_from}

-- a command's entry
journal_after-held : (journal : List Entry) (c : Command) → held_by (journal_after empty_opening journal 0 c) ≡ held_after (held_by journal) c
journal_after-held journal (Writes w) = held_by-push journal _
journal_after-held journal Checkpoints = held_by-push journal _
journal_after-held journal Merges = ap held_by (sym (append_assoc journal (entry 0 Look ∷ []) (entry 0 (Install (newest empty_opening journal)) ∷ []))) ∙ (held_by-push (journal ++ entry 0 Look ∷ []) (Install (newest empty_opening journal)) ∙ ap (λ h. called h (Install (newest empty_opening journal))) (held_by-push journal Look))
journal_after-held journal (Retires k) = held_by-push journal _
journal_after-held journal (Reads at what) = held_by-push journal _

reading-printed : (journal : List Entry) (h : Held) (c : Command) (what : Read) (r : Reply) → held_by journal ≡ h → reading_lines empty_opening journal c what r ≡ printed_reading h c what r
reading-printed journal h c what Accepted is = refl
reading-printed journal h c what (Count n) is = refl
reading-printed journal h c what (Snapshot k) is = rw (← is) refl
reading-printed journal h c what (Kept a b) is = refl
reading-printed journal h c what (Refused r) is = refl

-- a command's lines
lines_of-printed : (journal : List Entry) (c : Command) → lines_of empty_opening journal 0 c ≡ printed (held_by journal) c
lines_of-printed journal (Writes w) = refl
lines_of-printed journal Checkpoints = refl
lines_of-printed journal Merges = ap (λ h. reply_line Merges (reply_at empty_opening h.standing (Install (newest empty_opening journal)))) (held_by-push journal Look)
lines_of-printed journal (Retires k) = refl
lines_of-printed journal (Reads at what) =
    reading-printed (journal_after empty_opening journal 0 (Reads at what)) (held_after (held_by journal) (Reads at what)) (Reads at what) what (reply empty_opening journal (look_of at)) (journal_after-held journal (Reads at what))

-- the outcome of a script that was read so, after a journal
abbrev outcome_of : List Entry → Script → Outcome
outcome_of journal s = record { text = text_of empty_opening journal s; end = s.end; journal = (transcript_from empty_opening journal s.items).journal }

-- the same text before the rest, grouped the other way
outcome_of-says : (journal : List Entry) (n : ℕ) (c : Command) (s : Script) → outcome_of journal (with_line n (Says c) s) ≡ behind (printed (held_by journal) c) (outcome_of (journal_after empty_opening journal 0 c) s)
outcome_of-says journal n c s =
    let later = transcript_from empty_opening (journal_after empty_opening journal 0 c) s.items in
    let last = last_line (length later.journal) s.end in
    ap (λ (text : List ℕ). let o : Outcome = record { text = text; end = s.end; journal = later.journal } in o) (append_assoc (lines_of empty_opening journal 0 c) later.printed last ∙ ap (λ (said : List ℕ). said ++ (later.printed ++ last)) (lines_of-printed journal c))

-- one line more, by what it says, where the rest is known
line-following : (journal : List Entry) (n : ℕ) (rest : List (List ℕ)) (m : Meaning) → ((j : List Entry) → outcome_of j (script_from (n + 1) rest) ≡ expected_from (held_by j) (n + 1) rest) → outcome_of journal (with_line n m (script_from (n + 1) rest)) ≡ following (held_by journal) n m (λ g. expected_from g (n + 1) rest)
line-following journal n rest Skipped known = known journal
line-following journal n rest Bad known = refl
line-following journal n rest (Says c) known =
    outcome_of-says journal n c (script_from (n + 1) rest) ∙ ap (behind (printed (held_by journal) c)) (known (journal_after empty_opening journal 0 c) ∙ ap (λ (h : Held). expected_from h (n + 1) rest) (journal_after-held journal c))

choice : (journal : List Entry) (b : Bool) (s : Script) (o : Outcome) → outcome_of journal s ≡ o → outcome_of journal (cond b (record { items = []; end = TooMany }) s) ≡ cond b (ended (held_by journal) TooMany) o
choice journal true s o h = refl
choice journal false s o h = h

expected_of-script : (journal : List Entry) (n : ℕ) (ls : List (List ℕ)) → outcome_of journal (script_from n ls) ≡ expected_from (held_by journal) n ls
unfolding expected_from
expected_of-script journal n [] = refl
expected_of-script journal n (line ∷ rest) =
    choice journal (nat_lt 2097152 n) (with_line n (meaning line) (script_from (n + 1) rest)) (following (held_by journal) n (meaning line) (λ g. expected_from g (n + 1) rest)) (line-following journal n rest (meaning line) (λ j. expected_of-script j (n + 1) rest))

-- what is expected before anything came is the outcome
pub outcome-expected_of : (bytes : List ℕ) → outcome empty_opening bytes ≡ expected_from (held_by []) 1 (lines bytes)
unfolding text standing
outcome-expected_of bytes = expected_of-script [] 1 (lines bytes)

-- the next line, where it is one of those that are taken
pub expected_from-line : (h : Held) (n : ℕ) (line : List ℕ) (rest : List (List ℕ)) → n ≤ 2097152 → expected_from h n (line ∷ rest) ≡ following h n (meaning line) (λ g. expected_from g (n + 1) rest)
unfolding expected_from
expected_from-line h n line rest few =
    let test : nat_lt 2097152 n ≡ false = grind (arith, nat_tests) in
    ap (λ (b : Bool). cond b (ended h TooMany) (following h n (meaning line) (λ g. expected_from g (n + 1) rest))) test

-- a line past the last one that is taken
pub expected_from-many : (h : Held) (n : ℕ) (line : List ℕ) (rest : List (List ℕ)) → 2097152 < n → expected_from h n (line ∷ rest) ≡ ended h TooMany
unfolding expected_from
expected_from-many h n line rest many =
    let test : nat_lt 2097152 n ≡ true = grind (arith, nat_tests) in
    ap (λ (b : Bool). cond b (ended h TooMany) (following h n (meaning line) (λ g. expected_from g (n + 1) rest))) test

-- no line
pub expected_from-nil : (h : Held) (n : ℕ) → expected_from h n [] ≡ ended h Whole
unfolding expected_from
expected_from-nil h n = refl

-- a line that is too long says nothing good
pub meaning-long : (line : List ℕ) → 1024 < length line → meaning line ≡ Bad
unfolding meaning
meaning-long line long =
    let test : nat_lt 1024 (length line) ≡ true = grind (arith, nat_tests) in
    ap (λ (b : Bool). cond b Bad (meaning_of_words (words (without_return line)))) test
