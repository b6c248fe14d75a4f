-- The graphs of the accepted checkpoints, entry by entry.
use Rattle.std.proofs.Common.{◌≡◌, ◌∙◌, ℕ, ◌+◌, ◌-◌, ◌<◌, ◌≤◌, inl, inr, List, [], ◌∷◌, ◌++◌, length, get_or, cond, leb, Bool, true, false, refl, sym, ap, arith}
use Rattle.std.specs.List.{fold}
use Rattle.std.proofs.lemmas.Bool.{false≢true, cases_Bool, lt-leb}
use Rattle.std.proofs.lemmas.Bool.Decides.{leb_tells}
use Rattle.std.proofs.lemmas.List.{get_or_append_left, get_or_push, length_push}
use Rattle.lama_model.specs.Graph.{Graph, no_graph}
use Rattle.lama_model.specs.Opening.{Opening, last_number, opening_graph}
use Rattle.lama_model.specs.Journal.{Standing, begun, newest, graph, standing, cut, reply_at, is_accepted, done, after, is_made, before_made}
use Rattle.lama_model.specs.Laws.{count_made}
use Rattle.lama_model.specs.declared.calls.Call.{Call}
use Rattle.lama_model.specs.declared.calls.Call.TheVariants.{Write as Writes, Checkpoint, Look, LookAt, Install, Retire}
use Rattle.lama_model.specs.declared.calls.Entry.{Entry}

-- what the calls leave, made where s stands
abbrev run : Opening → Standing → List Entry → Standing
run o s journal = fold (λ s e. after o s e.call) s journal

-- one of two
first_of : (b : Bool) (t s : Standing) → b ≡ true → (cond b t s).made ≡ t.made
first_of true t s h = refl
first_of false t s h = absurd (false≢true h)

either_keeps : (b : Bool) (t s : Standing) → t.made ≡ s.made → (cond b t s).made ≡ s.made
either_keeps true t s h = h
either_keeps false t s h = refl

second_of : (b : Bool) (t s : Standing) → b ≡ false → (cond b t s).made ≡ s.made
second_of true t s h = absurd (false≢true (sym h))
second_of false t s h = refl

-- an accepted checkpoint adds the standing graph at the end
made-more : (o : Opening) (s : Standing) (call : Call) → is_made o s call ≡ true → (after o s call).made ≡ s.made ++ s.graph ∷ []
unfolding after
made-more o s Checkpoint h = first_of (is_accepted (reply_at o s Checkpoint)) (done Checkpoint s) s h
made-more o s (Writes w) h = absurd (false≢true h)
made-more o s Look h = absurd (false≢true h)
made-more o s (LookAt k) h = absurd (false≢true h)
made-more o s (Install k) h = absurd (false≢true h)
made-more o s (Retire k) h = absurd (false≢true h)

-- no other call does
made-same : (o : Opening) (s : Standing) (call : Call) → is_made o s call ≡ false → (after o s call).made ≡ s.made
unfolding after
made-same o s Checkpoint h = second_of (is_accepted (reply_at o s Checkpoint)) (done Checkpoint s) s h
made-same o s (Writes w) h = either_keeps (is_accepted (reply_at o s (Writes w))) (done (Writes w) s) s refl
made-same o s Look h = either_keeps (is_accepted (reply_at o s Look)) (done Look s) s refl
made-same o s (LookAt k) h = either_keeps (is_accepted (reply_at o s (LookAt k))) (done (LookAt k) s) s refl
made-same o s (Install k) h = either_keeps (is_accepted (reply_at o s (Install k))) (done (Install k) s) s refl
made-same o s (Retire k) h = either_keeps (is_accepted (reply_at o s (Retire k))) (done (Retire k) s) s refl

-- how many there are after a call
length-more : (o : Opening) (s : Standing) (call : Call) → is_made o s call ≡ true → length (after o s call).made ≡ length s.made + 1
length-more o s call h = ap length (made-more o s call h) ∙ length_push s.made s.graph

length-same : (o : Opening) (s : Standing) (call : Call) → is_made o s call ≡ false → length (after o s call).made ≡ length s.made
length-same o s call h = ap length (made-same o s call h)

-- the graphs that are there stay in their places
kept_by_call : (o : Opening) (s : Standing) (call : Call) (i : ℕ) (d : Graph) → i < length s.made → (i < length (after o s call).made) × (get_or (after o s call).made i d ≡ get_or s.made i d)
kept_by_call o s call i d h = elim (cases_Bool (is_made o s call)) [
  | inl t ↦ let l = length-more o s call t in (omega (arith, l, h), ap (λ gs. get_or gs i d) (made-more o s call t) ∙ get_or_append_left s.made (s.graph ∷ []) d i h)
  | inr f ↦ let l = length-same o s call f in (omega (arith, l, h), ap (λ gs. get_or gs i d) (made-same o s call f))
]

kept : (o : Opening) (journal : List Entry) (s : Standing) (i : ℕ) (d : Graph) → i < length s.made → get_or (run o s journal).made i d ≡ get_or s.made i d
kept o [] s i d h = refl
kept o (e ∷ journal) s i d h = let step = kept_by_call o s e.call i d h in kept o journal (after o s e.call) i d step.0 ∙ step.1

-- how many there are after the journal
length-run : (o : Opening) (journal : List Entry) (s : Standing) → length (run o s journal).made ≡ length s.made + count_made o s journal
length-run o [] s = omega arith
length-run o (e ∷ journal) s = with_one (is_made o s e.call) refl (length-run o journal (after o s e.call))
  where
    with_one : (b : Bool) → is_made o s e.call ≡ b → length (run o (after o s e.call) journal).made ≡ length (after o s e.call).made + count_made o (after o s e.call) journal → length (run o s (e ∷ journal)).made ≡ length s.made + count_made o s (e ∷ journal)
    with_one true h rest = let l = length-more o s e.call h in rw h (omega (arith, l, rest))
    with_one false h rest = let l = length-same o s e.call h in rw h (omega (arith, l, rest))

-- where the prefix before the n-th one ends
before-stops : (o : Opening) (s : Standing) (n : ℕ) (e : Entry) (journal : List Entry) → is_made o s e.call ≡ true → leb n 1 ≡ true → before_made o s n (e ∷ journal) ≡ []
before-stops o s n e journal h k = rw (h, k) refl

before-less : (o : Opening) (s : Standing) (n : ℕ) (e : Entry) (journal : List Entry) → is_made o s e.call ≡ true → leb n 1 ≡ false → before_made o s n (e ∷ journal) ≡ e ∷ before_made o (after o s e.call) (n - 1) journal
before-less o s n e journal h k = rw (h, k) refl

before-same : (o : Opening) (s : Standing) (n : ℕ) (e : Entry) (journal : List Entry) → is_made o s e.call ≡ false → before_made o s n (e ∷ journal) ≡ e ∷ before_made o (after o s e.call) n journal
before-same o s n e journal h = rw h refl

-- the n-th graph that the journal adds stood after the entries before the n-th accepted checkpoint
abbrev AreCut : Opening → List Entry → Standing → Type 0
AreCut o journal s = (n at : ℕ) → 1 ≤ n → at + 1 ≡ length s.made + n → at < length (run o s journal).made → get_or (run o s journal).made at no_graph ≡ (run o s (before_made o s n journal)).graph

cut-more : (o : Opening) (s : Standing) (e : Entry) (journal : List Entry) → AreCut o journal (after o s e.call) → AreCut o (e ∷ journal) s
cut-more o s e journal rest n at some place below = elim (cases_Bool (is_made o s e.call)) [
  | inl t ↦ elim (leb_tells n 1) [ inl last ↦ stops t last.0 last.1 | inr more ↦ less t more.0 more.1 ]
  | inr f ↦ same f
]
  where
    stops : is_made o s e.call ≡ true → leb n 1 ≡ true → n ≤ 1 → get_or (run o s (e ∷ journal)).made at no_graph ≡ (run o s (before_made o s n (e ∷ journal))).graph
    stops t last le =
        let l = length-more o s e.call t in
        let here : length s.made ≡ at = omega arith in
        kept o journal (after o s e.call) at no_graph (omega (arith, l, here))
        ∙ (ap (λ gs. get_or gs at no_graph) (made-more o s e.call t)
        ∙ (get_or_push s.made s.graph no_graph at here
        ∙ ap (λ js. (run o s js).graph) (sym (before-stops o s n e journal t last))))

    less : is_made o s e.call ≡ true → leb n 1 ≡ false → 1 < n → get_or (run o s (e ∷ journal)).made at no_graph ≡ (run o s (before_made o s n (e ∷ journal))).graph
    less t more lt =
        let l = length-more o s e.call t in
        rest (n - 1) at (omega arith) (omega (arith, l, place, lt)) below
        ∙ ap (λ js. (run o s js).graph) (sym (before-less o s n e journal t more))

    same : is_made o s e.call ≡ false → get_or (run o s (e ∷ journal)).made at no_graph ≡ (run o s (before_made o s n (e ∷ journal))).graph
    same f =
        let l = length-same o s e.call f in
        rest n at some (omega (arith, l, place)) below
        ∙ ap (λ js. (run o s js).graph) (sym (before-same o s n e journal f))

cut_all : (o : Opening) (journal : List Entry) (s : Standing) → AreCut o journal s
cut_all o [] s = λ n at some place below. absurd (omega arith)
cut_all o (e ∷ journal) s = cut-more o s e journal (cut_all o journal (after o s e.call))

-- the same of the journal from its beginning
pub newest_counted : (o : Opening) (journal : List Entry) → newest o journal ≡ last_number o + count_made o (begun o) journal
unfolding standing
newest_counted o journal = let l = length-run o journal (begun o) in omega (arith, l)

pub graph_cut : (o : Opening) (journal : List Entry) (k : ℕ) → last_number o < k → k ≤ newest o journal → graph o journal k ≡ (standing o (cut o journal k)).graph
unfolding standing
graph_cut o journal k above within =
    let high = lt-leb k (last_number o) above in
    ap (λ b. cond b (opening_graph o k) (get_or (run o (begun o) journal).made (k - last_number o - 1) no_graph)) high
    ∙ cut_all o journal (begun o) (k - last_number o) (k - last_number o - 1) (omega arith) (omega arith) (omega arith)
