-- What a longer journal leaves as it was, and which numbers never fall.
use Rattle.std.proofs.Common.{◌≡◌, ◌∙◌, ℕ, ◌+◌, ◌-◌, ◌<◌, ◌≤◌, List, [], ◌∷◌, ◌++◌, length, get_or, cond, leb, Bool, true, false, refl, sym, ap, subst, arith}
use Rattle.std.specs.Prelude.{fold, max}
use Rattle.std.proofs.lemmas.Bool.Decides.{nat_tests}
use Rattle.std.proofs.lemmas.List.{get_or_append_left, length_push}
use Rattle.std.proofs.lemmas.List.Sums.{fold-append}
use Rattle.lama_model.specs.Graph.{no_graph}
use Rattle.lama_model.specs.Change.{change_between}
use Rattle.lama_model.specs.Opening.{Opening, first_number, last_number, opening_graph, opening_change}
use Rattle.lama_model.specs.Journal.{Standing, begun, newest_of, graph_of, change_of, floor_of, standing, newest, oldest, floor_at, graph, change, reply_at, is_accepted, done, after}
use Rattle.lama_model.specs.declared.calls.Call.{Call}
use Rattle.lama_model.specs.declared.calls.Call.TheVariants.{Write as Writes, Checkpoint, Look, LookAt, Install, Retire}
use Rattle.lama_model.specs.declared.calls.Entry.{Entry}
use Rattle.lama_model.proofs.StandingLemmas.{standing-keeps}

-- t has all that s has, and maybe more
pub record Extends (o : Opening) (s t : Standing) : Type 0 where
  pub made : (i : ℕ) → i < length s.made → get_or t.made i no_graph ≡ get_or s.made i no_graph
  pub written : (i : ℕ) → i < length s.written → get_or t.written i [] ≡ get_or s.written i []
  pub longer : length s.made ≤ length t.made
  pub also : length s.written ≤ length t.written
  pub oldest : s.oldest ≤ t.oldest
  pub floors : (j : ℕ) → floor_of o s j ≤ floor_of o t j

extends-self : (o : Opening) (s : Standing) → Extends o s s
extends-self o s = record { made = λ i h. refl; written = λ i h. refl; longer = omega arith; also = omega arith; oldest = omega arith; floors = λ j. omega arith }

extends-more : (o : Opening) (s t u : Standing) → Extends o s t → Extends o t u → Extends o s u
extends-more o s t u h k = record {
  made = λ i lt. let a = h.longer in k.made i (omega (arith, lt, a)) ∙ h.made i lt;
  written = λ i lt. let a = h.also in k.written i (omega (arith, lt, a)) ∙ h.written i lt;
  longer = let a = h.longer in let b = k.longer in omega (arith, a, b);
  also = let a = h.also in let b = k.also in omega (arith, a, b);
  oldest = let a = h.oldest in let b = k.oldest in omega (arith, a, b);
  floors = λ j. let a = h.floors j in let b = k.floors j in omega (arith, a, b);
}

-- a greater start gives a greater floor
floor-start : (j : ℕ) (ks : List ℕ) (f f' : ℕ) → f ≤ f' → fold (λ f k. cond (leb k j) (max f k) f) f ks ≤ fold (λ f k. cond (leb k j) (max f k) f) f' ks
floor-start j [] f f' le = le
floor-start j (k ∷ ks) f f' le = floor-start j ks (cond (leb k j) (max f k) f) (cond (leb k j) (max f' k) f') (by (leb k j))
  where
    by : (b : Bool) → cond b (max f k) f ≤ cond b (max f' k) f'
    by true = omega arith
    by false = le

floor-more : (o : Opening) (s : Standing) (k j : ℕ) → floor_of o s j ≤ (let t : Standing = record s { installed = k ∷ s.installed } in floor_of o t j)
floor-more o s k j = floor-start j s.installed (first_number o) (cond (leb k j) (max (first_number o) k) (first_number o)) (by (leb k j))
  where
    by : (b : Bool) → first_number o ≤ cond b (max (first_number o) k) (first_number o)
    by true = omega arith
    by false = omega arith

pub extends-done : (o : Opening) (s : Standing) (call : Call) → Extends o s (done call s)
extends-done o s (Writes w) = record { made = λ i h. refl; written = λ i h. refl; longer = omega arith; also = omega arith; oldest = omega arith; floors = λ j. omega arith }
extends-done o s Checkpoint = record {
  made = λ i h. get_or_append_left s.made (s.graph ∷ []) no_graph i h;
  written = λ i h. get_or_append_left s.written (s.pending ∷ []) [] i h;
  longer = let l = length_push s.made s.graph in omega (arith, l);
  also = let l = length_push s.written s.pending in omega (arith, l);
  oldest = omega arith;
  floors = λ j. omega arith;
}
extends-done o s Look = extends-self o s
extends-done o s (LookAt k) = extends-self o s
extends-done o s (Install k) = record { made = λ i h. refl; written = λ i h. refl; longer = omega arith; also = omega arith; oldest = omega arith; floors = λ j. floor-more o s k j }
extends-done o s (Retire k) = record { made = λ i h. refl; written = λ i h. refl; longer = omega arith; also = omega arith; oldest = omega arith; floors = λ j. omega arith }

pub extends-after : (o : Opening) (s : Standing) (call : Call) → Extends o s (after o s call)
unfolding after
extends-after o s call = by (is_accepted (reply_at o s call))
  where
    by : (b : Bool) → Extends o s (cond b (done call s) s)
    by true = extends-done o s call
    by false = extends-self o s

extends-run : (o : Opening) (s : Standing) (more : List Entry) → Extends o s (fold (λ s e. after o s e.call) s more)
extends-run o s [] = extends-self o s
extends-run o s (e ∷ more) = extends-more o s (after o s e.call) (fold (λ s e. after o s e.call) (after o s e.call) more) (extends-after o s e.call) (extends-run o (after o s e.call) more)

extends : (o : Opening) (journal more : List Entry) → Extends o (standing o journal) (standing o (journal ++ more))
unfolding standing
extends o journal more =
    let whole = fold-append (λ (s : Standing) (e : Entry). after o s e.call) (begun o) journal more in
    let longer = extends-run o (standing o journal) more in
    subst (λ t. Extends o (standing o journal) t) (sym whole) longer

written-step : (o : Opening) (s : Standing) (call : Call) → length s.written ≡ length s.made → length (after o s call).written ≡ length (after o s call).made
unfolding after
written-step o s call h = by (is_accepted (reply_at o s call)) call
  where
    by : (b : Bool) (call : Call) → length (cond b (done call s) s).written ≡ length (cond b (done call s) s).made
    by false call = h
    by true (Writes w) = h
    by true Checkpoint = length_push s.written s.pending ∙ (ap (λ n. n + 1) h ∙ sym (length_push s.made s.graph))
    by true Look = h
    by true (LookAt k) = h
    by true (Install k) = h
    by true (Retire k) = h

pub written-made : (o : Opening) (journal : List Entry) → length (standing o journal).written ≡ length (standing o journal).made
written-made o journal = standing-keeps o (λ s. length s.written ≡ length s.made) refl (written-step o) journal

-- what stands under a number is the same where more is there
pub graph_of-extends : (o : Opening) (s t : Standing) → Extends o s t → (k : ℕ) → k ≤ newest_of o s → graph_of o t k ≡ graph_of o s k
graph_of-extends o s t h k within = by (leb k (last_number o)) refl
  where
    by : (b : Bool) → leb k (last_number o) ≡ b → cond b (opening_graph o k) (get_or t.made (k - last_number o - 1) no_graph) ≡ cond b (opening_graph o k) (get_or s.made (k - last_number o - 1) no_graph)
    by true is = refl
    by false is = let above : last_number o < k = grind (arith, nat_tests, is) in h.made (k - last_number o - 1) (omega (arith, above, within))

pub change_of-extends : (o : Opening) (s t : Standing) → Extends o s t → length s.written ≡ length s.made → (k : ℕ) → k ≤ newest_of o s → change_of o t k ≡ change_of o s k
unfolding change_of
change_of-extends o s t h same k within = by (leb k (last_number o)) refl
  where
    by : (b : Bool) → leb k (last_number o) ≡ b → cond b (opening_change o k) (change_between (graph_of o t (k - 1)) (get_or t.written (k - last_number o - 1) []) k) ≡ cond b (opening_change o k) (change_between (graph_of o s (k - 1)) (get_or s.written (k - last_number o - 1) []) k)
    by true is = refl
    by false is =
        let above : last_number o < k = grind (arith, nat_tests, is) in
        ap (λ g. change_between g (get_or t.written (k - last_number o - 1) []) k) (graph_of-extends o s t h (k - 1) (omega (arith, within)))
        ∙ ap (λ ws. change_between (graph_of o s (k - 1)) ws k) (h.written (k - last_number o - 1) (omega (arith, above, within, same)))

pub longer_graphs : (o : Opening) (journal more : List Entry) (k : ℕ) → k ≤ newest o journal → graph o (journal ++ more) k ≡ graph o journal k
longer_graphs o journal more k within = graph_of-extends o (standing o journal) (standing o (journal ++ more)) (extends o journal more) k within

pub longer_changes : (o : Opening) (journal more : List Entry) (k : ℕ) → k ≤ newest o journal → change o (journal ++ more) k ≡ change o journal k
longer_changes o journal more k within = change_of-extends o (standing o journal) (standing o (journal ++ more)) (extends o journal more) (written-made o journal) k within

pub newest-rises : (o : Opening) (journal more : List Entry) → newest o journal ≤ newest o (journal ++ more)
newest-rises o journal more = let h = (extends o journal more).longer in omega (arith, h)

pub oldest-rises : (o : Opening) (journal more : List Entry) → oldest o journal ≤ oldest o (journal ++ more)
oldest-rises o journal more = (extends o journal more).oldest

pub floors-rise : (o : Opening) (journal more : List Entry) (j : ℕ) → floor_at o journal j ≤ floor_at o (journal ++ more) j
floors-rise o journal more j = (extends o journal more).floors j

-- an install leaves the graph of every number
pub installed-graphs : (o : Opening) (journal : List Entry) (caller i k : ℕ) → graph o (journal ++ record { caller = caller; call = Install i } ∷ []) k ≡ graph o journal k
unfolding standing after
installed-graphs o journal caller i k =
    ap (λ s. graph_of o s k) (fold-append (λ (s : Standing) (e : Entry). after o s e.call) (begun o) journal (record { caller = caller; call = Install i } ∷ []))
    ∙ by (standing o journal) (is_accepted (reply_at o (standing o journal) (Install i)))
  where
    by : (s : Standing) (b : Bool) → graph_of o (cond b (done (Install i) s) s) k ≡ graph_of o s k
    by s true = refl
    by s false = refl
