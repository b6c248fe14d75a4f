-- What the parser answers over the lines of a script is the script.
use Rattle.std.proofs.Common.{◌≡◌, refl, ap, ℕ, ◌+◌, true, false, nat_lt, List, [], ◌∷◌, cond}
use Rattle.lama_model.specs.Script.{End, meaning, Meaning, script_from, with_line}
use Rattle.lama_model.specs.Script.End.{Whole, BadAt, TooMany}
use Rattle.lama_model.specs.Script.Meaning.{Skipped, Says, Bad}
use Rattle.lama_script.specs.Parsing.{Parsing, parsed, line_answer, after_answer, with_answer, answer_to}

abbrev stopped : ℕ → End → Parsing
stopped t e = record { taken = t; end = e }

-- after a bad line nothing more is read
pub parsed-bad : (t n : ℕ) (lines : List (List ℕ)) → parsed (record { taken = t; end = BadAt n }) lines ≡ record { items = []; end = BadAt n }
parsed-bad t n [] = refl
parsed-bad t n (line ∷ rest) = parsed-bad t n rest

-- after too many lines nothing more is read
pub parsed-many : (t : ℕ) (lines : List (List ℕ)) → parsed (record { taken = t; end = TooMany }) lines ≡ record { items = []; end = TooMany }
parsed-many t [] = refl
parsed-many t (line ∷ rest) = parsed-many t rest

-- a line that is answered by its meaning, before the rest of the script
said : (t : ℕ) (m : Meaning) (rest : List (List ℕ)) → parsed (record { taken = t + 1; end = Whole }) rest ≡ script_from (t + 1 + 1) rest →
    with_answer (answer_to (t + 1) m) (parsed (after_answer (record { taken = t; end = Whole }) (answer_to (t + 1) m)) rest) ≡ with_line (t + 1) m (script_from (t + 1 + 1) rest)
said t Skipped rest h = h
said t (Says c) rest h = ap (with_line (t + 1) (Says c)) h
said t Bad rest h = parsed-bad t (t + 1) rest

-- where t lines were taken without a fault, the rest is the script that begins with the next number
pub parsed-whole : (t : ℕ) (lines : List (List ℕ)) → parsed (record { taken = t; end = Whole }) lines ≡ script_from (t + 1) lines
parsed-whole t [] = refl
parsed-whole t (line ∷ rest) =
    elim (nat_lt 2097152 (t + 1)) as (λ b.
    with_answer (cond b (line_answer (stopped 0 TooMany) line) (answer_to (t + 1) (meaning line)))
    (parsed (after_answer (record { taken = t; end = Whole }) (cond b (line_answer (stopped 0 TooMany) line) (answer_to (t + 1) (meaning line)))) rest)
    ≡ cond b (record { items = []; end = TooMany }) (with_line (t + 1) (meaning line) (script_from (t + 1 + 1) rest))) [
      | true ↦ parsed-many t rest
      | false ↦ said t (meaning line) rest (parsed-whole (t + 1) rest)
    ]
