-- The floors of numbers, before and after an install.
use Rattle.std.proofs.Common.{◌≡◌, ◌∙◌, ℕ, ◌≤◌, List, [], ◌∷◌, max, Bool, true, false, cond, leb, refl, sym, ap, arith}
use Rattle.std.specs.Prelude.{fold, All}
use Rattle.std.specs.List.{AllByRecursion}
use Rattle.std.proofs.lemmas.Bool.Decides.{nat_tests}
use Rattle.std.proofs.lemmas.List.{length_push}
use Rattle.std.proofs.lemmas.List.Elements.{All-nil, All-weaker, All-from_recursion, recursion_from_All}
use Rattle.lama_model.specs.Opening.{Opening, IsOpening, first_number}
use Rattle.lama_model.specs.Journal.{Standing, newest_of, floor_of, standing, reply_at, is_accepted, done, after}
use Rattle.lama_model.specs.declared.calls.Call.{Call}
use Rattle.lama_model.specs.declared.calls.Call.TheVariants.{Write as Writes, Checkpoint, Look, LookAt, Install, Retire}
use Rattle.lama_model.specs.declared.answers.Reply.TheVariants.{Snapshot}
use Rattle.lama_model.specs.declared.calls.Entry.{Entry}
use Rattle.lama_model.proofs.StandingLemmas.{standing-keeps, kept-within}

-- no number is installed that is not there
abbrev AreWithin : Opening → Standing → Type 0
AreWithin o s = All (λ k. k ≤ newest_of o s) s.installed

install-within : (o : Opening) (s : Standing) (k : ℕ) → AreWithin o s → is_accepted (reply_at o s (Install k)) ≡ true → AreWithin o (done (Install k) s)
unfolding reply_at
install-within o s k h ok = All-from_recursion (λ i. i ≤ newest_of o s) (k ∷ s.installed) ((kept-within o s k (Snapshot k) ok).1, recursion_from_All (λ i. i ≤ newest_of o s) s.installed h)

within-step : (o : Opening) (s : Standing) (call : Call) → AreWithin o s → AreWithin o (after o s call)
unfolding after
within-step o s call h = by (is_accepted (reply_at o s call)) refl call refl
  where
    by : (b : Bool) → is_accepted (reply_at o s call) ≡ b → (c : Call) → c ≡ call → AreWithin o (cond b (done c s) s)
    by false ok c is = h
    by true ok (Writes w) is = h
    by true ok Checkpoint is = let more = length_push s.made s.graph in All-weaker (λ k. k ≤ newest_of o s) (λ k. k ≤ newest_of o (done Checkpoint s)) (λ k le. omega (arith, le, more)) s.installed h
    by true ok Look is = h
    by true ok (LookAt k) is = h
    by true ok (Install k) is = install-within o s k h (ap (λ x. is_accepted (reply_at o s x)) is ∙ ok)
    by true ok (Retire k) is = h

pub installed-within : (o : Opening) → IsOpening o → (journal : List Entry) → All (λ k. k ≤ newest_of o (standing o journal)) (standing o journal).installed
unfolding standing
installed-within o is journal = standing-keeps o (AreWithin o) (All-nil (λ k. k ≤ newest_of o (standing o []))) (within-step o) journal

-- numbers from the newest on have one floor
pub floor-above : (o : Opening) (s : Standing) (j k : ℕ) → j ≤ k → All (λ i. i ≤ j) s.installed → floor_of o s j ≡ floor_of o s k
floor-above o s j k le within = same s.installed (first_number o) (recursion_from_All (λ i. i ≤ j) s.installed within)
  where
    same : (ks : List ℕ) (f : ℕ) → AllByRecursion (λ i. i ≤ j) ks → fold (λ f i. cond (leb i j) (max f i) f) f ks ≡ fold (λ f i. cond (leb i k) (max f i) f) f ks
    same [] f h = refl
    same (i ∷ ks) f h =
        let low = h.0 in
        let a : leb i j ≡ true = grind (arith, nat_tests, low) in
        let b : leb i k ≡ true = grind (arith, nat_tests, low, le) in
        ap (λ x. fold (λ f i. cond (leb i j) (max f i) f) x ks) (ap (λ t. cond t (max f i) f) a)
        ∙ (same ks (max f i) h.1 ∙ sym (ap (λ x. fold (λ f i. cond (leb i k) (max f i) f) x ks) (ap (λ t. cond t (max f i) f) b)))

-- an installed number is the floor of those from it on whose floor is below it
pub floor-installed : (o : Opening) (s : Standing) (k j : ℕ) → floor_of o (done (Install k) s) j ≡ cond (leb k j) (max (floor_of o s j) k) (floor_of o s j)
floor-installed o s k j = by (leb k j)
  where
    one : (i f : ℕ) (ks : List ℕ) → ((f : ℕ) → fold (λ f i. cond (leb i j) (max f i) f) (max f k) ks ≡ max (fold (λ f i. cond (leb i j) (max f i) f) f ks) k) → (b : Bool) →
        fold (λ f i. cond (leb i j) (max f i) f) (cond b (max (max f k) i) (max f k)) ks ≡ max (fold (λ f i. cond (leb i j) (max f i) f) (cond b (max f i) f) ks) k
    one i f ks rest true = ap (λ x. fold (λ f i. cond (leb i j) (max f i) f) x ks) (let e : max (max f k) i ≡ max (max f i) k = omega arith in e) ∙ rest (max f i)
    one i f ks rest false = rest f

    from : (ks : List ℕ) (f : ℕ) → fold (λ f i. cond (leb i j) (max f i) f) (max f k) ks ≡ max (fold (λ f i. cond (leb i j) (max f i) f) f ks) k
    from [] f = refl
    from (i ∷ ks) f = one i f ks (from ks) (leb i j)

    by : (b : Bool) → fold (λ f i. cond (leb i j) (max f i) f) (cond b (max (first_number o) k) (first_number o)) s.installed ≡ cond b (max (floor_of o s j) k) (floor_of o s j)
    by true = from s.installed (first_number o)
    by false = refl
