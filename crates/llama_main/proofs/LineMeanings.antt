-- What a parser's answer says of the line that it was given.
use Rattle.std.proofs.Common.{◌≡◌, ◌≢◌, ℕ, ◌+◌, ◌<◌, ◌≤◌, Bool, true, false, cond, List, ◌∷◌, ◌++◌, refl, sym, ap, ◌∙◌, arith, Option, Some, None, Result, Ok, Err}
use Rattle.std.specs.Prelude.{nat_lt}
use Rattle.std.proofs.lemmas.List.{append_assoc}
use Rattle.std.proofs.lemmas.Bool.Decides.{nat_tests}
use Rattle.lama_model.specs.Script.{Meaning, meaning, End}
use Rattle.lama_model.specs.Script.Meaning.{Skipped, Says, Bad}
use Rattle.lama_model.specs.Script.End.{Whole, BadAt, TooMany}
use Rattle.lama_model.specs.Lines.{last_line}
use Rattle.lama_model.specs.declared.commands.Command.{Command}
use Rattle.lama_script.specs.declared.item.Item.{Item}
use Rattle.lama_script.specs.declared.item.Item.TheVariants.{One}
use Rattle.lama_script.specs.declared.item.ScriptFault.{ScriptFault}
use Rattle.lama_script.specs.declared.item.ScriptFault.TheVariants.{BadLine, TooLong, NoMemory}
use Rattle.lama_script.specs.Parsing.{Parsing, line_answer, line_answer_at, answer_to, after_answer}
use Rattle.llama_main.specs.Store.{Held}
use Rattle.llama_main.specs.Outcome.{Outcome}
use Rattle.llama_main.specs.Expected.{behind, printed, held_after, following, expected_from}
use Rattle.llama_main.specs.Stop.{last_of}
use Rattle.llama_main.specs.Interpreter.{command_in, expected_of}
use Rattle.llama_main.specs.declared.interpreter.Interpreter.{Interpreter}
use Rattle.llama_main.proofs.Expectations.{expected_from-line, expected_from-many}

-- the line is one of those that are taken, and says this
pub record Means (n : ℕ) (line : List ℕ) (m : Meaning) : Type 0 where
  pub few : n ≤ 2097152
  pub says : meaning line ≡ m

pub means_skipped : (n : ℕ) (line : List ℕ) → Ok None ≡ line_answer_at n Whole line → Means n line Skipped
means_skipped n line h = cases (nat_lt 2097152 n) refl (meaning line) refl h
  where
    cases : (b : Bool) → nat_lt 2097152 n ≡ b → (m : Meaning) → meaning line ≡ m → Ok None ≡ cond b (Err TooLong) (answer_to n m) → Means n line Skipped
    cases true e m f h = cc
    cases false e Skipped f h = record { few = grind (arith, nat_tests); says = f }
    cases false e (Says c) f h = cc
    cases false e Bad f h = cc

pub means_item : (n : ℕ) (line : List ℕ) (item : Item) → Ok (Some item) ≡ line_answer_at n Whole line → Means n line (Says (command_in item))
means_item n line item h = cases (nat_lt 2097152 n) refl (meaning line) refl h
  where
    cases : (b : Bool) → nat_lt 2097152 n ≡ b → (m : Meaning) → meaning line ≡ m → Ok (Some item) ≡ cond b (Err TooLong) (answer_to n m) → Means n line (Says (command_in item))
    cases true e m f h = cc
    cases false e Skipped f h = cc
    cases false e (Says c) f h = let same : item ≡ One c = cc in record { few = grind (arith, nat_tests); says = f ∙ ap Says (sym (ap command_in same)) }
    cases false e Bad f h = cc

-- the line is bad, and that is its number
pub record MeansBad (n m : ℕ) (line : List ℕ) : Type 0 where
  pub bad : Means n line Bad
  pub number : m ≡ n

pub means_bad : (n m : ℕ) (line : List ℕ) → Err (BadLine m) ≡ line_answer_at n Whole line → MeansBad n m line
means_bad n m line h = cases (nat_lt 2097152 n) refl (meaning line) refl h
  where
    cases : (b : Bool) → nat_lt 2097152 n ≡ b → (s : Meaning) → meaning line ≡ s → Err (BadLine m) ≡ cond b (Err TooLong) (answer_to n s) → MeansBad n m line
    cases true e s f h = cc
    cases false e Skipped f h = cc
    cases false e (Says c) f h = cc
    cases false e Bad f h = record { bad = record { few = grind (arith, nat_tests); says = f }; number = cc }

pub means_many : (n : ℕ) (line : List ℕ) → Err TooLong ≡ line_answer_at n Whole line → 2097152 < n
means_many n line h = cases (nat_lt 2097152 n) refl (meaning line) h
  where
    cases : (b : Bool) → nat_lt 2097152 n ≡ b → (s : Meaning) → Err TooLong ≡ cond b (Err TooLong) (answer_to n s) → 2097152 < n
    cases true e s h = grind (arith, nat_tests)
    cases false e Skipped h = cc
    cases false e (Says c) h = cc
    cases false e Bad h = cc

-- what is expected goes on with the next line
pub expected_skipped : (h : Held) (n : ℕ) (out line : List ℕ) (rest : List (List ℕ)) → Means n line Skipped → behind out (expected_from h n (line ∷ rest)) ≡ behind out (expected_from h (n + 1) rest)
expected_skipped h n out line rest t = ap (behind out) (expected_from-line h n line rest t.few ∙ ap (λ (m : Meaning). following h n m (λ g. expected_from g (n + 1) rest)) t.says)

pub expected_says : (h : Held) (n : ℕ) (out line : List ℕ) (rest : List (List ℕ)) (c : Command) → Means n line (Says c) → behind out (expected_from h n (line ∷ rest)) ≡ behind (out ++ printed h c) (expected_from (held_after h c) (n + 1) rest)
expected_says h n out line rest c t =
    let later = expected_from (held_after h c) (n + 1) rest in
    ap (behind out) (expected_from-line h n line rest t.few ∙ ap (λ (m : Meaning). following h n m (λ g. expected_from g (n + 1) rest)) t.says) ∙ ap (λ (text : List ℕ). let o : Outcome = record { text = text; end = later.end; journal = later.journal } in o) (sym (append_assoc out (printed h c) later.text))

pub expected_bad : (h : Held) (n m : ℕ) (out line : List ℕ) (rest : List (List ℕ)) → MeansBad n m line → behind out (expected_from h n (line ∷ rest)) ≡ last_of out h.journal (BadAt m)
unfolding last_line
expected_bad h n m out line rest t =
    ap (behind out) (expected_from-line h n line rest t.bad.few ∙ ap (λ (m : Meaning). following h n m (λ g. expected_from g (n + 1) rest)) t.bad.says) ∙ ap (λ (k : ℕ). last_of out h.journal (BadAt k)) (sym t.number)

pub expected_many : (h : Held) (n : ℕ) (out line : List ℕ) (rest : List (List ℕ)) → 2097152 < n → behind out (expected_from h n (line ∷ rest)) ≡ last_of out h.journal TooMany
unfolding last_line
expected_many h n out line rest many = ap (behind out) (expected_from-many h n line rest many)

-- what the answer says where no line was bad before
answered : (p : Parsing) (line : List ℕ) (r s : Result (Option Item) ScriptFault) → p.end ≡ Whole → (r ≢ Err NoMemory → r ≡ line_answer p line) → r ≡ s → (s ≡ Err NoMemory → ⊥) → s ≡ line_answer_at (p.taken + 1) Whole line
answered p line r s whole answer is some = sym is ∙ (answer (λ none. some (sym is ∙ none)) ∙ ap (λ (e : End). line_answer_at (p.taken + 1) e line) whole)

pub answered_none : (p : Parsing) (line : List ℕ) (r : Result (Option Item) ScriptFault) → p.end ≡ Whole → (r ≢ Err NoMemory → r ≡ line_answer p line) → r ≡ Ok None → Means (p.taken + 1) line Skipped
answered_none p line r whole answer is = means_skipped (p.taken + 1) line (answered p line r (Ok None) whole answer is (λ h. cc))

pub answered_item : (p : Parsing) (line : List ℕ) (r : Result (Option Item) ScriptFault) (item : Item) → p.end ≡ Whole → (r ≢ Err NoMemory → r ≡ line_answer p line) → r ≡ Ok (Some item) → Means (p.taken + 1) line (Says (command_in item))
answered_item p line r item whole answer is = means_item (p.taken + 1) line item (answered p line r (Ok (Some item)) whole answer is (λ h. cc))

pub answered_bad : (p : Parsing) (line : List ℕ) (r : Result (Option Item) ScriptFault) (m : ℕ) → p.end ≡ Whole → (r ≢ Err NoMemory → r ≡ line_answer p line) → r ≡ Err (BadLine m) → MeansBad (p.taken + 1) m line
answered_bad p line r m whole answer is = means_bad (p.taken + 1) m line (answered p line r (Err (BadLine m)) whole answer is (λ h. cc))

pub answered_many : (p : Parsing) (line : List ℕ) (r : Result (Option Item) ScriptFault) → p.end ≡ Whole → (r ≢ Err NoMemory → r ≡ line_answer p line) → r ≡ Err TooLong → 2097152 < p.taken + 1
answered_many p line r whole answer is = means_many (p.taken + 1) line (answered p line r (Err TooLong) whole answer is (λ h. cc))

-- one line was taken
pub taken_one : (p q : Parsing) (r : Result (Option Item) ScriptFault) (found : Option Item) → q ≡ after_answer p r → r ≡ Ok found → q.taken ≡ p.taken + 1
taken_one p q r found after is = ap (λ (x : Parsing). x.taken) (after ∙ ap (after_answer p) is)

pub next_skipped : (old : Interpreter) (q : Parsing) (line : List ℕ) (r : Result (Option Item) ScriptFault) (rest : List (List ℕ)) → old.parser.end ≡ Whole → (r ≢ Err NoMemory → r ≡ line_answer old.parser line) → q ≡ after_answer old.parser r → r ≡ Ok None → expected_of old (line ∷ rest) ≡ behind old.out.items (expected_from old.store (q.taken + 1) rest)
next_skipped old q line r rest whole answer after is =
    expected_skipped old.store (old.parser.taken + 1) old.out.items line rest (answered_none old.parser line r whole answer is) ∙ ap (λ (n : ℕ). behind old.out.items (expected_from old.store (n + 1) rest)) (sym (taken_one old.parser q r None after is))

pub next_says : (old new : Interpreter) (q : Parsing) (line : List ℕ) (r : Result (Option Item) ScriptFault) (item : Item) (rest : List (List ℕ)) → old.parser.end ≡ Whole → (r ≢ Err NoMemory → r ≡ line_answer old.parser line) → q ≡ after_answer old.parser r → r ≡ Ok (Some item) → new.parser ≡ q → new.store ≡ held_after old.store (command_in item) → new.out.items ≡ old.out.items ++ printed old.store (command_in item) → expected_of old (line ∷ rest) ≡ expected_of new rest
next_says old new q line r item rest whole answer after is parser store out =
    let taken : new.parser.taken ≡ old.parser.taken + 1 = ap (λ (x : Parsing). x.taken) parser ∙ taken_one old.parser q r (Some item) after is in
    expected_says old.store (old.parser.taken + 1) old.out.items line rest (command_in item) (answered_item old.parser line r item whole answer is)
    ∙ (ap (λ (o : List ℕ). behind o (expected_from (held_after old.store (command_in item)) (old.parser.taken + 1 + 1) rest)) (sym out)
    ∙ (ap (λ (h : Held). behind new.out.items (expected_from h (old.parser.taken + 1 + 1) rest)) (sym store)
    ∙ ap (λ (n : ℕ). behind new.out.items (expected_from new.store (n + 1) rest)) (sym taken)))

-- a line that was taken is one of those that are
pub taken_within : (p q : Parsing) (line : List ℕ) (r : Result (Option Item) ScriptFault) (found : Option Item) → p.end ≡ Whole → (r ≢ Err NoMemory → r ≡ line_answer p line) → q ≡ after_answer p r → r ≡ Ok found → q.taken ≤ 2097152
taken_within p q line r None whole answer after is = omega (arith, taken_one p q r None after is, (answered_none p line r whole answer is).few)
taken_within p q line r (Some item) whole answer after is = omega (arith, taken_one p q r (Some item) after is, (answered_item p line r item whole answer is).few)
