-- Views and lists of callers.
use Rattle.std.proofs.Common.{◌≡◌, ◌≢◌, ℕ, ◌<◌, ◌≤◌, ◌==◌, zero, suc, Bool, List, [], ◌∷◌, ◌++◌, length, All, filter, drop, refl, sym, ap, ◌∙◌, subst, arith, Option, Some, None, append-nil, append_assoc, length-append, false, ne_eqb, eq-eqb, true}
use Rattle.std.proofs.lemmas.List.Elements.{All-head, All-tail, All-cons, All-nil, All-append, All-weaker, filter-append}
use Rattle.std.proofs.lemmas.List.{drop-append-le}
use Rattle.std.proofs.lemmas.Bool.{false≢true}
use mathlib.Core.Option.{some, some-ne-none}
use lib.ListN.{get_elem?}
use Rattle.lama_model.specs.Pass.{calls_by, BeginsWith, IsByOneOf}
use Rattle.lama_model.specs.declared.calls.Entry.{Entry}
use Rattle.lama_lock.specs.declared.view.Founding.{Founding}
use Rattle.lama_lock.specs.declared.view.Stage.{Stage}
use Rattle.lama_lock.specs.declared.view.View.{View}
use Rattle.lama_lock.specs.Views.{Keeps, Known, pass, starting, first_number, first_seen, first_own}

-- callers whose numbers were not drawn have made no call
pub none-of : (c : ℕ) (drawn : ℕ) (es : List Entry) → drawn < c → All (IsByOneOf drawn) es → filter (λ (e : Entry). e.caller == c) es ≡ []
none-of c drawn [] far all = refl
none-of c drawn (e ∷ es) far all =
    let first = All-head (IsByOneOf drawn) e es all in
    let other : (e.caller == c) ≡ false = ne_eqb e.caller c (λ same. omega (arith, first.0, first.1)) in
    rw other (none-of c drawn es far (All-tail (IsByOneOf drawn) e es all))

-- the journal begins with itself
pub whole : (log : List Entry) → BeginsWith log log
whole log = ([], sym (append-nil log))

module _ {B : Type 0} where
  abbrev or_else : Founding B → Option (Founding B) → Founding B
  or_else f None = f
  or_else f (Some g) = g

  -- what a pass knows can be read off its view
  pub same-known : (stage : Stage) (k h : Known B) → pass stage k ≡ pass stage h → k ≡ h
  same-known stage k h e = λ i. record { founding = or_else k.founding (e i).founding; caller = first_number (e i).members; seen = first_seen (e i).members; own = first_own (e i).members }

  pub same-seat : {C : Type 0} (stage : Stage) (k h : Known B) (c d : C) → ◌≡◌ {A = View B × C} (pass stage k, c) (pass stage h, d) → k ≡ h
  same-seat stage k h c d e = same-known stage k h (λ i. (e i).0)

  abbrev pub value_or : B → Option B → B
  value_or x None = x
  value_or x (Some y) = y

  abbrev pub value_in : B → List (ℕ × Option B) → B
  value_in x [] = x
  value_in x (y ∷ ys) = value_or x y.1

  -- and the value, off what its seat has
  pub same-held : (stage : Stage) (k h : Known B) (x y : B) → ◌≡◌ {A = View B × List (ℕ × Option B)} (pass stage k, (0, Some x) ∷ []) (pass stage h, (0, Some y) ∷ []) → ◌≡◌ {A = Known B × B} (k, x) (h, y)
  same-held stage k h x y e = λ i. (
    record { founding = or_else k.founding (e i).0.founding; caller = first_number (e i).0.members; seen = first_seen (e i).0.members; own = first_own (e i).0.members },
    value_in x (e i).1,
  )

  pub founding-is : (f g : Founding B) → Some f ≡ Some g → f ≡ g
  founding-is f g e = λ i. or_else f (e i)

  -- the same of the starting view
  pub same-start : (stage : Stage) (f g : Founding B) (d e : ℕ) → ◌≡◌ {A = View B × List (ℕ × Option B)} (starting f stage d, []) (starting g stage e, []) → ◌≡◌ {A = Founding B × ℕ} (f, d) (g, e)
  same-start stage f g d e p = λ i. (or_else f (p i).0.founding, (p i).0.drawn)

-- what stands at a place stands within the list
pub within : {A : Type 0} (l : List A) (i : ℕ) (a : A) → get_elem? l i ≡ some a → i < length l
within [] i a e = absurd (some-ne-none a (sym e))
within (x ∷ xs) zero a e = omega arith
within (x ∷ xs) (suc i) a e = omega (arith, within xs i a e)

pub more-callers : (n m : ℕ) (es : List Entry) → n ≤ m → All (IsByOneOf n) es → All (IsByOneOf m) es
more-callers n m es le all = All-weaker (IsByOneOf n) (IsByOneOf m) (λ e p. (p.0, omega (arith, le, p.1))) es all

-- one call more at the end of a journal
module _ (start : ℕ) (log : List Entry) (e : Entry) (from : start ≤ length log) where
  pub drops-last : drop start (log ++ e ∷ []) ≡ drop start log ++ e ∷ []
  drops-last = drop-append-le start log (e ∷ []) from

  calls-more : (c : ℕ) → calls_by c start (log ++ e ∷ []) ≡ calls_by c start log ++ filter (λ (x : Entry). x.caller == c) (e ∷ [])
  calls-more c = ap (filter (λ (x : Entry). x.caller == c)) drops-last ∙ filter-append (λ (x : Entry). x.caller == c) (drop start log) (e ∷ [])

  -- it is another caller's
  pub calls-other : (c : ℕ) → e.caller ≢ c → calls_by c start (log ++ e ∷ []) ≡ calls_by c start log
  calls-other c other = calls-more c ∙ rw (ne_eqb e.caller c other) (append-nil (calls_by c start log))

  -- it is the caller's own
  pub calls-own : calls_by e.caller start (log ++ e ∷ []) ≡ calls_by e.caller start log ++ e ∷ []
  calls-own = calls-more e.caller ∙ rw (eq-eqb e.caller e.caller refl) refl

  pub begins-more : (seen : List Entry) → BeginsWith log seen → BeginsWith (log ++ e ∷ []) seen
  begins-more seen t = (t.0 ++ e ∷ [], ap (λ (l : List Entry). l ++ e ∷ []) t.1 ∙ append_assoc seen t.0 (e ∷ []))

  pub named-more : (n : ℕ) → IsByOneOf n e → All (IsByOneOf n) (drop start log) → All (IsByOneOf n) (drop start (log ++ e ∷ []))
  named-more n by all = subst (λ (l : List Entry). All (IsByOneOf n) l) (sym drops-last) (All-append (IsByOneOf n) (drop start log) (e ∷ []) all (All-cons (IsByOneOf n) e [] by (All-nil (IsByOneOf n))))

-- a journal is no shorter than a part of it that was seen
pub seen-short : (log seen : List Entry) → BeginsWith log seen → length seen ≤ length log
seen-short log seen t = omega (arith, ap length t.1, length-append seen t.0)

abbrev is_there : {A : Type 0} → Option A → Bool
is_there None = false
is_there (Some x) = true

pub none-not-some : {A : Type 0} (x : A) → None ≡ Some x → ⊥
none-not-some x e = false≢true (λ i. is_there (e i))

-- a value keeps what it has
pub keeps-same : {B S : Type 0} (fits : S → B → Type 0) (room : B → ℕ) (x y : B) → x ≡ y → Keeps fits room x y
keeps-same fits room x y e = subst (λ z. Keeps fits room x z) e ((λ s h. h), omega arith)
