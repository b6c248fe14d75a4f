-- A run over the source and the sink, piece by piece, and what it says of the script.
use Rattle.std.proofs.Common.{◌≡◌, ℕ, ◌+◌, ◌<◌, List, [], ◌++◌, length, take, refl, sym, ap, subst, ◌∙◌, Option, Result, Ok, Err, ◌⊎◌, inl, inr}
use Rattle.std.specs.Prelude.{OnOk, IfErr}
use Rattle.std.proofs.lemmas.List.{append-nil, append_assoc}
use Rattle.lama_base.specs.Bytes.{Gives}
use Rattle.lama_model.specs.Opening.{empty_opening}
use Rattle.lama_model.specs.Script.{End, lines}
use Rattle.lama_model.specs.Script.End.{Whole, BadAt, TooMany}
use Rattle.lama_model.specs.Lines.{last_line}
use Rattle.lama_model.specs.Text.{text}
use Rattle.lama_model.specs.declared.calls.Entry.{Entry}
use Rattle.llama_main.specs.declared.stop.Stop.{Stop}
use Rattle.llama_main.specs.declared.stop.Stop.TheVariants.{BadLine, TooManyLines, ReadFault, WriteFault, NoMemory}
use Rattle.llama_main.specs.declared.status.Status.{Status}
use Rattle.llama_main.specs.declared.status.Status.TheVariants as statuses
use Rattle.llama_main.specs.declared.session.Session.{Session}
use Rattle.llama_main.specs.Outcome.{Outcome, outcome, journal_of}
use Rattle.llama_main.specs.Expected.{behind, expected_from}
use Rattle.llama_main.specs.Streams.{IsFront, Appends, Gave, HasEnded}
use Rattle.llama_main.specs.Stop.{StopsAt, last_of}
use Rattle.llama_main.specs.Interpreter.{expected_of}
use Rattle.llama_main.specs.Session.{expected, Wrote, Stopped}
use Rattle.llama_main.specs.Ending.{last_text, IsText, IsSettled}
use Rattle.llama_main.specs.Run.{Reached, HasRead, Says, whole_of, status_of, Fits, RanWith, Ran}
use Rattle.llama_main.proofs.Bytes.{Appends-none, Appends-append, Gave-none, Gave-append, Gave-gives, HasEnded-gives, IsFront-trans, IsFront-append}
use Rattle.llama_main.proofs.LineLemmas.{lines-nil}
use Rattle.llama_main.proofs.Expectations.{expected_from-nil}
use Rattle.llama_main.proofs.Sessions.{StopsAt-behind, Stopped-after}

-- one piece after another
pub Wrote-append : (a b c : Option (List ℕ)) (s t u : Session) (p q : List ℕ) → Wrote a b s t p → Wrote b c t u q → Wrote a c s u (p ++ q)
Wrote-append a b c s t u p q first last = record {
  said = first.said ++ last.said;
  appended = Appends-append a b c first.said last.said first.appended last.appended;
  kept = λ more.
      ap (expected s) (append_assoc p q more)
      ∙ (first.kept (q ++ more)
      ∙ (ap (behind first.said) (last.kept more)
      ∙ ap (λ (t : List ℕ). let o : Outcome = record { text = t; end = (expected u more).end; journal = (expected u more).journal } in o) (sym (append_assoc first.said last.said (expected u more).text))));
}

-- what was gathered was written
pub Reached-written : (l0 l w0 w w1 : Option (List ℕ)) (s0 s s1 : Session) → Reached l0 l w0 w s0 s → Wrote w w1 s s1 [] → Reached l0 l w0 w1 s0 s1
Reached-written l0 l w0 w w1 s0 s s1 reached wrote = record {
  given = reached.given;
  gave = reached.gave;
  wrote = subst (λ (xs : List ℕ). Wrote w0 w1 s0 s1 xs) (append-nil reached.given) (Wrote-append w0 w w1 s0 s s1 reached.given [] reached.wrote wrote);
}

-- a piece was read and taken
pub Reached-piece : (l0 l l1 w0 w w1 : Option (List ℕ)) (s0 s s1 : Session) (n : ℕ) (buffer : List ℕ) → Reached l0 l w0 w s0 s → Gives l l1 n buffer → Wrote w w1 s s1 (take n buffer) → Reached l0 l1 w0 w1 s0 s1
Reached-piece l0 l l1 w0 w w1 s0 s s1 n buffer reached gives wrote = record {
  given = reached.given ++ take n buffer;
  gave = Gave-append l0 l l1 reached.given (take n buffer) reached.gave (Gave-gives l l1 n buffer gives);
  wrote = Wrote-append w0 w w1 s0 s s1 reached.given (take n buffer) reached.wrote wrote;
}

-- a stop at a piece
pub HasRead-stopped : (l0 l l1 w0 w w1 : Option (List ℕ)) (s0 s : Session) (piece out : List ℕ) (journal : List Entry) (stop : Stop) → Reached l0 l w0 w s0 s → Gave l l1 piece → Stopped w w1 s piece out journal stop → HasRead l0 l1 w0 w1 s0 out journal (Err stop)
HasRead-stopped l0 l l1 w0 w w1 s0 s piece out journal stop reached gave stopped =
    let whole = Stopped-after w0 w w1 s0 s reached.given piece out stopped.said journal stop reached.wrote stopped.appended stopped.stops in
    record {
      given = reached.given ++ piece;
      said = whole.said;
      gave = Gave-append l0 l l1 reached.given piece reached.gave gave;
      appended = whole.appended;
      says = inr whole.stops;
    }

-- the source failed
pub HasRead-unread : (l0 l l1 w0 w : Option (List ℕ)) (s0 s : Session) (journal : List Entry) → Reached l0 l w0 w s0 s → l1 ≡ l → HasRead l0 l1 w0 w s0 s.interpreter.out.items journal (Err ReadFault)
HasRead-unread l0 l l1 w0 w s0 s journal reached same = record {
  given = reached.given;
  said = reached.wrote.said;
  gave = subst (λ (x : Option (List ℕ)). Gave l0 x reached.given) (sym same) reached.gave;
  appended = reached.wrote.appended;
  says = inr (λ more. (
    (expected_from s.interpreter.store (s.interpreter.parser.taken + 1) (lines (s.carry.items ++ more))).text,
    ap (λ (o : Outcome). o.text) (reached.wrote.kept more) ∙ sym (append_assoc reached.wrote.said s.interpreter.out.items _),
  ));
}

last_whole : (s : Session) → s.carry.items ≡ [] → expected s [] ≡ whole_of s.interpreter.store.journal s.interpreter.out.items
last_whole s none =
    ap (expected_of s.interpreter) (ap (λ (xs : List ℕ). lines (xs ++ [])) none ∙ lines-nil) ∙ ap (behind s.interpreter.out.items) (expected_from-nil s.interpreter.store (s.interpreter.parser.taken + 1))

-- the source was read to its end, and the last line was taken or stopped the run
pub HasRead-last : (l0 l l1 w0 w : Option (List ℕ)) (s0 s t : Session) (n : ℕ) (buffer : List ℕ) (answer : Result (Unit {0}) Stop) → Reached l0 l w0 w s0 s → Gives l l1 n buffer → 0 < length buffer → n ≡ 0 → OnOk answer (expected s [] ≡ expected t []) → OnOk answer (t.carry.items ≡ []) → IfErr answer (λ stop. StopsAt stop t.interpreter.out.items t.interpreter.store.journal (expected s [])) → HasRead l0 l1 w0 w s0 t.interpreter.out.items t.interpreter.store.journal answer
HasRead-last l0 l l1 w0 w s0 s t n buffer (Ok done) reached gives some zero ok none err = record {
  given = reached.given;
  said = reached.wrote.said;
  gave = subst (Gave l0 l1) (ap (λ (m : ℕ). reached.given ++ take m buffer) zero ∙ append-nil reached.given) (Gave-append l0 l l1 reached.given (take n buffer) reached.gave (Gave-gives l l1 n buffer gives));
  appended = reached.wrote.appended;
  says = (
    HasEnded-gives l0 l l1 reached.given n buffer reached.gave gives some zero,
    sym (ap (expected s0) (append-nil reached.given)) ∙ (reached.wrote.kept [] ∙ (ap (behind reached.wrote.said) (ok ∙ last_whole t none)
        ∙ ap (λ (xs : List ℕ). let o : Outcome = record { text = xs; end = Whole; journal = t.interpreter.store.journal } in o) (sym (append_assoc reached.wrote.said t.interpreter.out.items (last_line (length t.interpreter.store.journal) Whole))))),
  );
}
HasRead-last l0 l l1 w0 w s0 s t n buffer (Err stop) reached gives some zero ok none err = record {
  given = reached.given;
  said = reached.wrote.said;
  gave = subst (Gave l0 l1) (ap (λ (m : ℕ). reached.given ++ take m buffer) zero ∙ append-nil reached.given) (Gave-append l0 l l1 reached.given (take n buffer) reached.gave (Gave-gives l l1 n buffer gives));
  appended = reached.wrote.appended;
  says = inl (
    HasEnded-gives l0 l l1 reached.given n buffer reached.gave gives some zero,
    subst (StopsAt stop (reached.wrote.said ++ t.interpreter.out.items) t.interpreter.store.journal) (sym (sym (ap (expected s0) (append-nil reached.given)) ∙ reached.wrote.kept []))
        (StopsAt-behind stop reached.wrote.said t.interpreter.out.items t.interpreter.store.journal (expected s []) err),
  );
}

-- nothing was read, for want of memory
pub HasRead-nothing : (l w : Option (List ℕ)) (s : Session) (journal : List Entry) → HasRead l l w w s [] journal (Err NoMemory)
HasRead-nothing l w s journal = record { given = []; said = []; gave = Gave-none l; appended = Appends-none w; says = inr (λ more. ((expected s more).text, refl)) }

-- the last line at a bad line or past the last one does not name the calls
last_line-stop : (calls n : ℕ) → last_line calls (BadAt n) ≡ last_line 0 (BadAt n)
unfolding last_line
last_line-stop calls n = refl

last_line-many : (calls : ℕ) → last_line calls TooMany ≡ last_line 0 TooMany
unfolding last_line
last_line-many calls = refl

-- whatever is said, a stop says it of what was read
at_given : (l l1 : Option (List ℕ)) (s0 : Session) (given said : List ℕ) (journal : List Entry) (stop : Stop) → Says l l1 s0 given said journal (Err stop) → StopsAt stop said journal (expected s0 given)
at_given l l1 s0 given said journal stop (inl h) = h.1
at_given l l1 s0 given said journal stop (inr h) = subst (λ (xs : List ℕ). StopsAt stop said journal (expected s0 xs)) (append-nil given) (h [])

-- what was said and is to be written is a front of the text
says_front : (l l1 : Option (List ℕ)) (s0 : Session) (given said : List ℕ) (journal : List Entry) (answer : Result (Unit {0}) Stop) → Says l l1 s0 given said journal answer → IsFront (said ++ last_text (length journal) (status_of answer)) (expected s0 given).text
says_front l l1 s0 given said journal (Ok done) h = ([], ap (λ (o : Outcome). o.text) h.1 ∙ sym (append-nil (said ++ last_line (length journal) Whole)))
says_front l l1 s0 given said journal (Err (BadLine n)) h =
    ([], ap (λ (o : Outcome). o.text) (at_given l l1 s0 given said journal (BadLine n) h) ∙ (ap (λ (xs : List ℕ). said ++ xs) (sym (last_line-stop (length journal) n)) ∙ sym (append-nil (said ++ last_line (length journal) (BadAt n)))))
says_front l l1 s0 given said journal (Err TooManyLines) h =
    ([], ap (λ (o : Outcome). o.text) (at_given l l1 s0 given said journal TooManyLines h) ∙ (ap (λ (xs : List ℕ). said ++ xs) (sym (last_line-many (length journal))) ∙ sym (append-nil (said ++ last_line (length journal) TooMany))))
says_front l l1 s0 given said journal (Err ReadFault) h = subst (λ (xs : List ℕ). IsFront xs (expected s0 given).text) (sym (append-nil said)) (at_given l l1 s0 given said journal ReadFault h)
says_front l l1 s0 given said journal (Err WriteFault) h = subst (λ (xs : List ℕ). IsFront xs (expected s0 given).text) (sym (append-nil said)) (at_given l l1 s0 given said journal WriteFault h)
says_front l l1 s0 given said journal (Err NoMemory) h = subst (λ (xs : List ℕ). IsFront xs (expected s0 given).text) (sym (append-nil said)) (at_given l l1 s0 given said journal NoMemory h)

-- a stop that comes whatever follows settles the text
settled : (l l1 : Option (List ℕ)) (s0 : Session) (given said : List ℕ) (journal : List Entry) (e : End) → ((bytes : List ℕ) → outcome empty_opening bytes ≡ expected s0 bytes) → (HasEnded l l1 × (expected s0 given ≡ last_of said journal e)) ⊎ ((more : List ℕ) → expected s0 (given ++ more) ≡ last_of said journal e) → IsSettled l l1 given
settled l l1 s0 given said journal e start (inl h) = inl h.0
settled l l1 s0 given said journal e start (inr h) = inr (λ more. start (given ++ more) ∙ (h more ∙ sym (start given ∙ (sym (ap (expected s0) (append-nil given)) ∙ h []))))

-- what was written is the text
whole_text : (s0 : Session) (given taken said : List ℕ) (journal : List Entry) (e : End) → ((bytes : List ℕ) → outcome empty_opening bytes ≡ expected s0 bytes) → expected s0 given ≡ last_of said journal e → taken ≡ said ++ last_line 0 e → IsText given taken e
whole_text s0 given taken said journal e start is written = record {
  whole = written ∙ sym (ap (λ (o : Outcome). o.text) (start given ∙ is));
  ends = ap (λ (o : Outcome). o.end) (start given ∙ is);
}

-- how a conclusion ends: as it was to, or at a fault of the sink with a front written
abbrev pub Ends : Option (List ℕ) → Option (List ℕ) → List ℕ → ℕ → Status → Status → Type 0
Ends w w' out calls status result =
    ((result ≡ status) × Appends w w' (out ++ last_text calls status))
    ⊎ ((said : List ℕ) × Appends w w' said × IsFront said (out ++ last_text calls status) × ((result ≡ statuses.WriteFault) ⊎ (result ≡ statuses.NoMemory)))

-- the front of the text that was written before and now
all_front : (l l1 : Option (List ℕ)) (s0 : Session) (given said out : List ℕ) (journal : List Entry) (answer : Result (Unit {0}) Stop) → ((bytes : List ℕ) → outcome empty_opening bytes ≡ expected s0 bytes) → Says l l1 s0 given (said ++ out) journal answer → IsFront (said ++ (out ++ last_text (length journal) (status_of answer))) (text empty_opening given)
all_front l l1 s0 given said out journal answer start says =
    let front = says_front l l1 s0 given (said ++ out) journal answer says in
    (front.0, ap (λ (o : Outcome). o.text) (start given) ∙ (front.1 ∙ ap (λ (xs : List ℕ). xs ++ front.0) (append_assoc said out (last_text (length journal) (status_of answer)))))

-- what was expected names the journal of what was read
expected_journal : (s0 : Session) (given : List ℕ) (o : Outcome) → ((bytes : List ℕ) → outcome empty_opening bytes ≡ expected s0 bytes) → expected s0 given ≡ o → o.journal ≡ journal_of empty_opening given
expected_journal s0 given o start is = sym (ap (λ (x : Outcome). x.journal) (start given ∙ is))

-- the status is the answer's, and all was written
fits_all : (l l1 : Option (List ℕ)) (s0 : Session) (given said out : List ℕ) (journal : List Entry) (answer : Result (Unit {0}) Stop) → ((bytes : List ℕ) → outcome empty_opening bytes ≡ expected s0 bytes) → Says l l1 s0 given (said ++ out) journal answer → Fits l l1 given (said ++ (out ++ last_text (length journal) (status_of answer))) journal (status_of answer)
fits_all l l1 s0 given said out journal (Ok done) start says = (
  says.0,
  record {
    whole = sym (append_assoc said out (last_line (length journal) Whole)) ∙ sym (ap (λ (o : Outcome). o.text) (start given ∙ says.1));
    ends = ap (λ (o : Outcome). o.end) (start given ∙ says.1);
  },
  expected_journal s0 given (whole_of journal (said ++ out)) start says.1,
)
fits_all l l1 s0 given said out journal (Err (BadLine n)) start says = (
  settled l l1 s0 given (said ++ out) journal (BadAt n) start says,
  whole_text s0 given (said ++ (out ++ last_line (length journal) (BadAt n))) (said ++ out) journal (BadAt n) start (at_given l l1 s0 given (said ++ out) journal (BadLine n) says)
      (sym (append_assoc said out (last_line (length journal) (BadAt n))) ∙ ap (λ (xs : List ℕ). (said ++ out) ++ xs) (last_line-stop (length journal) n)),
  expected_journal s0 given (last_of (said ++ out) journal (BadAt n)) start (at_given l l1 s0 given (said ++ out) journal (BadLine n) says),
)
fits_all l l1 s0 given said out journal (Err TooManyLines) start says = (
  settled l l1 s0 given (said ++ out) journal TooMany start says,
  whole_text s0 given (said ++ (out ++ last_line (length journal) TooMany)) (said ++ out) journal TooMany start (at_given l l1 s0 given (said ++ out) journal TooManyLines says)
      (sym (append_assoc said out (last_line (length journal) TooMany)) ∙ ap (λ (xs : List ℕ). (said ++ out) ++ xs) (last_line-many (length journal))),
  expected_journal s0 given (last_of (said ++ out) journal TooMany) start (at_given l l1 s0 given (said ++ out) journal TooManyLines says),
)
fits_all l l1 s0 given said out journal (Err ReadFault) start says = all_front l l1 s0 given said out journal (Err ReadFault) start says
fits_all l l1 s0 given said out journal (Err WriteFault) start says = all_front l l1 s0 given said out journal (Err WriteFault) start says
fits_all l l1 s0 given said out journal (Err NoMemory) start says = all_front l l1 s0 given said out journal (Err NoMemory) start says

-- a status at which a front was written
cut_fits : (l l1 : Option (List ℕ)) (given taken : List ℕ) (journal : List Entry) (result : Status) → (result ≡ statuses.WriteFault) ⊎ (result ≡ statuses.NoMemory) → IsFront taken (text empty_opening given) → Fits l l1 given taken journal result
cut_fits l l1 given taken journal result (inl is) front = subst (Fits l l1 given taken journal) (sym is) front
cut_fits l l1 given taken journal result (inr is) front = subst (Fits l l1 given taken journal) (sym is) front

-- a run that concludes what it has read
pub Ran-concluded : (l l1 w0 w w1 : Option (List ℕ)) (s0 : Session) (out : List ℕ) (journal : List Entry) (answer : Result (Unit {0}) Stop) (status result : Status) → ((bytes : List ℕ) → outcome empty_opening bytes ≡ expected s0 bytes) → HasRead l l1 w0 w s0 out journal answer → status ≡ status_of answer → Ends w w1 out (length journal) status result → RanWith l l1 w0 w1 journal result
Ran-concluded l l1 w0 w w1 s0 out journal answer status result start has_read is (inl h) = record {
  given = has_read.given;
  taken = has_read.said ++ (out ++ last_text (length journal) status);
  gave = has_read.gave;
  took = Appends-append w0 w w1 has_read.said (out ++ last_text (length journal) status) has_read.appended h.1;
  fits = subst (Fits l l1 has_read.given (has_read.said ++ (out ++ last_text (length journal) status)) journal) (sym (h.0 ∙ is))
      (subst (λ (s : Status). Fits l l1 has_read.given (has_read.said ++ (out ++ last_text (length journal) s)) journal (status_of answer)) (sym is) (fits_all l l1 s0 has_read.given has_read.said out journal answer start has_read.says));
}
Ran-concluded l l1 w0 w w1 s0 out journal answer status result start has_read is (inr h) = record {
  given = has_read.given;
  taken = has_read.said ++ h.0;
  gave = has_read.gave;
  took = Appends-append w0 w w1 has_read.said h.0 has_read.appended h.1;
  fits = cut_fits l l1 has_read.given (has_read.said ++ h.0) journal result h.3
      (IsFront-trans (has_read.said ++ h.0) (has_read.said ++ (out ++ last_text (length journal) status)) (text empty_opening has_read.given) (IsFront-append has_read.said h.0 (out ++ last_text (length journal) status) h.2)
      (subst (λ (s : Status). IsFront (has_read.said ++ (out ++ last_text (length journal) s)) (text empty_opening has_read.given)) (sym is) (all_front l l1 s0 has_read.given has_read.said out journal answer start has_read.says)));
}

-- the status that came is the one that was to come, unless the sink failed or there was no memory
pub concluded : (w w' : Option (List ℕ)) (out : List ℕ) (calls : ℕ) (status result : Status) → Ends w w' out calls status result → (result ≡ status) ⊎ ((result ≡ statuses.WriteFault) ⊎ (result ≡ statuses.NoMemory))
concluded w w' out calls status result (inl h) = inl h.0
concluded w w' out calls status result (inr h) = inr h.3

-- a run that read and wrote nothing, for want of memory
pub Ran-nothing : (l w : Option (List ℕ)) → Ran l l w w statuses.NoMemory
Ran-nothing l w = record { journal = []; run = record { given = []; taken = []; gave = Gave-none l; took = Appends-none w; fits = (text empty_opening [], refl) } }
