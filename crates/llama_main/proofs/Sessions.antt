-- What is expected when bytes come in pieces.
use Rattle.std.proofs.Common.{◌≡◌, ℕ, ◌+◌, ◌<◌, ◌≤◌, true, false, List, [], ◌∷◌, ◌++◌, length, get_or, take, drop, refl, sym, ap, subst, ◌∙◌, arith, Option, add-one, drop-cons, eqb}
use Rattle.std.proofs.lemmas.Bool.Decides.{nat_tests}
use Rattle.std.proofs.lemmas.List.{append-nil, append_assoc, length-append, take-append-drop}
use Rattle.std.proofs.lemmas.List.Elements.{All-append}
use Rattle.lama_model.specs.Script.{lines, is_line_feed}
use Rattle.lama_model.specs.Script.End.{BadAt, TooMany}
use Rattle.lama_model.specs.Lines.{last_line}
use Rattle.lama_model.specs.declared.calls.Entry.{Entry}
use Rattle.llama_main.specs.declared.stop.Stop.{Stop}
use Rattle.llama_main.specs.declared.stop.Stop.TheVariants.{BadLine, TooManyLines, ReadFault, WriteFault, NoMemory}
use Rattle.llama_main.specs.declared.session.Session.{Session}
use Rattle.llama_main.specs.declared.interpreter.Interpreter.{Interpreter}
use Rattle.llama_main.specs.Outcome.{Outcome}
use Rattle.llama_main.specs.Expected.{behind}
use Rattle.llama_main.specs.Streams.{Appends}
use Rattle.llama_main.specs.Stop.{StopsAt, HasNoFeed, last_of}
use Rattle.llama_main.specs.Interpreter.{expected_of}
use Rattle.llama_main.specs.Session.{expected, Wrote, Stopped}
use Rattle.llama_main.proofs.Bytes.{Appends-none, Appends-append}
use Rattle.llama_main.proofs.LineLemmas.{lines-line, lines-last, lines-nil, lines-begun, lines-some}
use Rattle.llama_main.proofs.Expectations.{meaning-long}
use Rattle.llama_main.proofs.LineMeanings.{expected_bad, expected_many}

-- a line whose front came before
pub expected_of-line : (i : Interpreter) (carry part more : List ℕ) → HasNoFeed carry → HasNoFeed part → expected_of i (lines (carry ++ (part ++ 10 ∷ more))) ≡ expected_of i ((carry ++ part) ∷ lines more)
expected_of-line i carry part more none none' =
    ap (expected_of i) (ap lines (sym (append_assoc carry part (10 ∷ more))) ∙ lines-line (carry ++ part) more (All-append (λ b. is_line_feed b ≡ false) carry part none none'))

-- a last line without a line feed
pub expected_of-last : (i : Interpreter) (carry : List ℕ) → HasNoFeed carry → 0 < length carry → expected_of i (lines (carry ++ [])) ≡ expected_of i (carry ∷ [])
expected_of-last i carry none some = ap (expected_of i) (ap lines (append-nil carry) ∙ lines-last carry none some)

-- a byte after the last line that is taken
pub expected_of-many : (i : Interpreter) (bytes : List ℕ) → 0 < length bytes → 2097152 ≤ i.parser.taken → expected_of i (lines bytes) ≡ last_of i.out.items i.store.journal TooMany
expected_of-many i [] some many = absurd (omega arith)
expected_of-many i (b ∷ bytes) some many =
    let cut = lines-some b bytes in
    ap (expected_of i) cut.1.1 ∙ expected_many i.store (i.parser.taken + 1) i.out.items cut.0 cut.1.0 (omega arith)

-- a line that is too long before its end has come
pub expected_of-long : (i : Interpreter) (line more : List ℕ) → HasNoFeed line → 1024 < length line → i.parser.taken < 2097152 → expected_of i (lines (line ++ more)) ≡ last_of i.out.items i.store.journal (BadAt (i.parser.taken + 1))
expected_of-long i line more none long few =
    let begun = lines-begun line more none (omega arith) in
    ap (expected_of i) begun.is ∙ expected_bad i.store (i.parser.taken + 1) (i.parser.taken + 1) i.out.items (line ++ begun.part) begun.rest
    (record {
      bad = record { few = omega arith; says = meaning-long (line ++ begun.part) (omega (arith, length-append line begun.part)) };
      number = refl;
    })

-- what was written before counts to what was said
pub StopsAt-behind : (stop : Stop) (said out : List ℕ) (journal : List Entry) (whole : Outcome) → StopsAt stop out journal whole → StopsAt stop (said ++ out) journal (behind said whole)
StopsAt-behind (BadLine n) said out journal whole h =
    ap (behind said) h ∙ ap (λ (text : List ℕ). let o : Outcome = record { text = text; end = BadAt n; journal = journal } in o) (sym (append_assoc said out (last_line 0 (BadAt n))))
StopsAt-behind TooManyLines said out journal whole h =
    ap (behind said) h ∙ ap (λ (text : List ℕ). let o : Outcome = record { text = text; end = TooMany; journal = journal } in o) (sym (append_assoc said out (last_line 0 TooMany)))
StopsAt-behind ReadFault said out journal whole h = (h.0, ap (λ (xs : List ℕ). said ++ xs) h.1 ∙ sym (append_assoc said out h.0))
StopsAt-behind WriteFault said out journal whole h = (h.0, ap (λ (xs : List ℕ). said ++ xs) h.1 ∙ sym (append_assoc said out h.0))
StopsAt-behind NoMemory said out journal whole h = (h.0, ap (λ (xs : List ℕ). said ++ xs) h.1 ∙ sym (append_assoc said out h.0))

behind-behind : (xs ys : List ℕ) (o : Outcome) → behind xs (behind ys o) ≡ behind (xs ++ ys) o
behind-behind xs ys o = ap (λ (text : List ℕ). let r : Outcome = record { text = text; end = o.end; journal = o.journal } in r) (sym (append_assoc xs ys o.text))

-- a rest begins with its first line
pub cut_line : (rest : List ℕ) (end : ℕ) → end < length rest → get_or rest end 0 ≡ 10 → rest ≡ take end rest ++ 10 ∷ drop (end + 1) rest
cut_line rest end lt is =
    sym (take-append-drop end rest) ∙ ap (λ (xs : List ℕ). take end rest ++ xs) (drop_at ∙ ap (λ (b : ℕ). b ∷ drop (end + 1) rest) is)
  where
    drop_at : drop end rest ≡ get_or rest end 0 ∷ drop (end + 1) rest
    drop_at = rw (add-one, drop-cons rest end 0) refl

-- one line more
pub Wrote-line : (a b c : Option (List ℕ)) (s t u v : Session) (front part : List ℕ) → Wrote a b s t front → ((more : List ℕ) → expected t (part ++ 10 ∷ more) ≡ expected u more) → Wrote b c u v [] → Wrote a c s v (front ++ (part ++ 10 ∷ []))
Wrote-line a b c s t u v front part first line last = record {
  said = first.said ++ last.said;
  appended = Appends-append a b c first.said last.said first.appended last.appended;
  kept = λ more.
      ap (expected s) (append_assoc front (part ++ 10 ∷ []) more ∙ ap (λ (xs : List ℕ). front ++ xs) (append_assoc part (10 ∷ []) more))
      ∙ (first.kept (part ++ 10 ∷ more) ∙ (ap (behind first.said) (line more ∙ last.kept more) ∙ behind-behind first.said last.said (expected v more)));
}

-- a stop after a front of the piece
pub Stopped-after : (a b c : Option (List ℕ)) (s t : Session) (front rest out said : List ℕ) (journal : List Entry) (stop : Stop) → Wrote a b s t front → Appends b c said → ((more : List ℕ) → StopsAt stop (said ++ out) journal (expected t (rest ++ more))) → Stopped a c s (front ++ rest) out journal stop
Stopped-after a b c s t front rest out said journal stop first appended stops = record {
  said = first.said ++ said;
  appended = Appends-append a b c first.said said first.appended appended;
  stops = λ more.
      subst (λ (xs : List ℕ). StopsAt stop xs journal (expected s ((front ++ rest) ++ more))) (sym (append_assoc first.said said out))
      (subst (StopsAt stop (first.said ++ (said ++ out)) journal) (sym (ap (expected s) (append_assoc front rest more) ∙ first.kept (rest ++ more)))
      (StopsAt-behind stop first.said (said ++ out) journal (expected t (rest ++ more)) (stops more)));
}

pub empty_list : (xs : List ℕ) → eqb (length xs) 0 ≡ true → xs ≡ []
empty_list [] h = refl
empty_list (x ∷ xs) h = absurd (grind (arith, nat_tests))

pub some_list : (xs : List ℕ) → eqb (length xs) 0 ≡ false → 0 < length xs
some_list [] h = cc
some_list (x ∷ xs) h = omega arith

-- a line that was taken whole, of which a front came before
pub part-taken : (i j : Interpreter) (carry part line after : List ℕ) → HasNoFeed carry → HasNoFeed part → line ≡ carry ++ part → after ≡ [] → ((rest : List (List ℕ)) → expected_of i (line ∷ rest) ≡ expected_of j rest) → (more : List ℕ) → expected_of i (lines (carry ++ (part ++ 10 ∷ more))) ≡ expected_of j (lines (after ++ more))
part-taken i j carry part line after none none' is gone taken more =
    expected_of-line i carry part more none none' ∙ (ap (λ (l : List ℕ). expected_of i (l ∷ lines more)) (sym is) ∙ (taken (lines more) ∙ ap (λ (xs : List ℕ). expected_of j (lines (xs ++ more))) (sym gone)))

pub part-stopped : (i : Interpreter) (stop : Stop) (out carry part line : List ℕ) (journal : List Entry) → HasNoFeed carry → HasNoFeed part → line ≡ carry ++ part → ((rest : List (List ℕ)) → StopsAt stop out journal (expected_of i (line ∷ rest))) → (more : List ℕ) → StopsAt stop out journal (expected_of i (lines (carry ++ (part ++ 10 ∷ more))))
part-stopped i stop out carry part line journal none none' is stops more =
    subst (StopsAt stop out journal) (sym (expected_of-line i carry part more none none' ∙ ap (λ (l : List ℕ). expected_of i (l ∷ lines more)) (sym is))) (stops (lines more))

-- a last line that was taken
pub last-taken : (i j : Interpreter) (carry line after : List ℕ) → HasNoFeed carry → 0 < length carry → line ≡ carry → after ≡ [] → ((rest : List (List ℕ)) → expected_of i (line ∷ rest) ≡ expected_of j rest) → expected_of i (lines (carry ++ [])) ≡ expected_of j (lines (after ++ []))
last-taken i j carry line after none some is gone taken =
    expected_of-last i carry none some ∙ (ap (λ (l : List ℕ). expected_of i (l ∷ [])) (sym is) ∙ (taken [] ∙ (ap (expected_of j) (sym lines-nil) ∙ ap (λ (xs : List ℕ). expected_of j (lines (xs ++ []))) (sym gone))))

pub last-stopped : (i : Interpreter) (stop : Stop) (out carry line : List ℕ) (journal : List Entry) → HasNoFeed carry → 0 < length carry → line ≡ carry → ((rest : List (List ℕ)) → StopsAt stop out journal (expected_of i (line ∷ rest))) → StopsAt stop out journal (expected_of i (lines (carry ++ [])))
last-stopped i stop out carry line journal none some is stops =
    subst (StopsAt stop out journal) (sym (expected_of-last i carry none some ∙ ap (λ (l : List ℕ). expected_of i (l ∷ [])) (sym is))) (stops [])

regroup : (a b c : List ℕ) → a ++ (b ++ 10 ∷ c) ≡ (a ++ (b ++ 10 ∷ [])) ++ c
regroup a b c = sym (append_assoc a (b ++ 10 ∷ []) c ∙ ap (λ (xs : List ℕ). a ++ xs) (append_assoc b (10 ∷ []) c))

-- the front of the piece with one line more
pub piece-line : (piece front rest line after : List ℕ) → piece ≡ front ++ rest → rest ≡ line ++ 10 ∷ after → piece ≡ (front ++ (line ++ 10 ∷ [])) ++ after
piece-line piece front rest line after is cut = is ∙ (ap (λ (xs : List ℕ). front ++ xs) cut ∙ regroup front line after)

-- a stop at what is left of the piece, with nothing written
pub stop-in-rest : (a b : Option (List ℕ)) (s t : Session) (piece front rest out : List ℕ) (journal : List Entry) (stop : Stop) → piece ≡ front ++ rest → Wrote a b s t front → ((more : List ℕ) → StopsAt stop out journal (expected t (rest ++ more))) → Stopped a b s piece out journal stop
stop-in-rest a b s t piece front rest out journal stop is wrote stops =
    subst (λ (xs : List ℕ). Stopped a b s xs out journal stop) (sym is) (Stopped-after a b b s t front rest out [] journal stop wrote (Appends-none b) stops)

line-more : (t : Session) (rest line after more : List ℕ) → rest ≡ line ++ 10 ∷ after → expected t (rest ++ more) ≡ expected t (line ++ 10 ∷ (after ++ more))
line-more t rest line after more cut = ap (expected t) (ap (λ (xs : List ℕ). xs ++ more) cut ∙ append_assoc line (10 ∷ after) more)

-- a stop at the next line
pub stop-in-line : (a b : Option (List ℕ)) (s t : Session) (piece front rest line after out : List ℕ) (journal : List Entry) (stop : Stop) → piece ≡ front ++ rest → rest ≡ line ++ 10 ∷ after → Wrote a b s t front → ((more : List ℕ) → StopsAt stop out journal (expected t (line ++ 10 ∷ more))) → Stopped a b s piece out journal stop
stop-in-line a b s t piece front rest line after out journal stop is cut wrote stops =
    stop-in-rest a b s t piece front rest out journal stop is wrote (λ more. subst (StopsAt stop out journal) (sym (line-more t rest line after more cut)) (stops (after ++ more)))

-- a stop at writing what the next line printed
pub stop-in-writing : (a b c : Option (List ℕ)) (s t u : Session) (piece front rest line after out : List ℕ) (journal : List Entry) (stop : Stop) → piece ≡ front ++ rest → rest ≡ line ++ 10 ∷ after → Wrote a b s t front → ((more : List ℕ) → expected t (line ++ 10 ∷ more) ≡ expected u more) → Stopped b c u [] out journal stop → Stopped a c s piece out journal stop
stop-in-writing a b c s t u piece front rest line after out journal stop is cut wrote took stopped =
    subst (λ (xs : List ℕ). Stopped a c s xs out journal stop) (sym is)
    (Stopped-after a b c s t front rest out stopped.said journal stop wrote stopped.appended
    (λ more. subst (StopsAt stop (stopped.said ++ out) journal) (sym (line-more t rest line after more cut ∙ took (after ++ more))) (stopped.stops (after ++ more))))
