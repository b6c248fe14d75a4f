-- Passes that are taken off the end of a list, one after another.
use Rattle.std.proofs.Common.{◌≡◌, ◌+◌, ◌-◌, ◌≤◌, ℕ, Contains, subst, arith, Option, List, [], ◌∷◌, ◌++◌, All, map, refl, sym, ap, ◌∙◌, append_assoc}
use Rattle.std.specs.List.{range_with_len}
use Rattle.std.proofs.lemmas.List.{map-append}
use Rattle.std.proofs.lemmas.List.FromFn.{map-range_with_len_more, length-range_with_len, get_or-range_with_len}
use Rattle.std.proofs.lemmas.List.Elements.{All-head, All-tail, All-cons, All-nil}
use Rattle.atomic_table.specs.Table.{Me}
use Rattle.atomic_table.specs.Seated.{TableId}
use Rattle.lama_model.specs.declared.calls.Entry.{Entry}
use Rattle.lama_lock.specs.declared.view.Founding.{Founding}
use Rattle.lama_lock.specs.declared.view.Stage.TheVariants.{Idle}
use Rattle.lama_lock.specs.declared.view.Member.{Member}
use Rattle.lama_lock.specs.declared.view.View.{View}
use Rattle.lama_lock.specs.Views.{Known, pass, newcomer}
use Rattle.lama_lock.specs.Hall.{Hall, Caller, IsPassOf, AreAll, shown, first_pass, member_in, numbers}

-- what a pass shows, as its seat knows it
abbrev pub known-in : {B : Type 0} → Founding B → Caller B → Known B
known-in f p = record { founding = f; caller = p.known.caller; seen = p.known.seen; own = p.known.own }

pub split-last : {X : Type 0} (P : X → Type 0) (xs : List X) (x : X) → All P (xs ++ x ∷ []) → All P xs × P x
split-last P [] x all = (All-nil P, All-head P x [] all)
split-last P (y ∷ ys) x all = let t = split-last P ys x (All-tail P y (ys ++ x ∷ []) all) in (All-cons P y ys (All-head P y (ys ++ x ∷ []) all) t.0, t.1)

pub gathered : {X Y : Type 0} (f : X → Y) (all xs : List X) (x : X) (ys total : List Y) → all ≡ xs ++ x ∷ [] → map f all ++ ys ≡ total → map f xs ++ (f x ∷ ys) ≡ total
gathered f all xs x ys total e t =
    sym (append_assoc (map f xs) (f x ∷ []) ys) ∙ (ap (λ l. l ++ ys) (sym (map-append f xs (x ∷ []))) ∙ (ap (λ l. map f l ++ ys) (sym e) ∙ t))

pub all-of-map : {X Y : Type 0} (f : X → Y) (P : Y → Type 0) (xs : List X) → All P (map f xs) → All (λ x. P (f x)) xs
all-of-map f P [] all = All-nil (λ x. P (f x))
all-of-map f P (x ∷ xs) all = All-cons (λ y. P (f y)) x xs (All-head P (f x) (map f xs) all) (all-of-map f P xs (All-tail P (f x) (map f xs) all))

pub numbers-same : {B : Type 0} (ps : List (Caller B)) → map (λ (m : Member). m.caller) (map member_in ps) ≡ numbers ps
numbers-same [] = refl
numbers-same (p ∷ ps) = ap (λ l. p.known.caller ∷ l) (numbers-same ps)

-- the pass of a seat that was dealt
pub first-as : {B : Type 0} (journal : B → List Entry) (id : TableId) (me : Me (Option B) (View B)) (h : Hall B) (c : ℕ) → id ≡ h.id
    → me ≡ (pass Idle (newcomer (record { value = h.start; callers = h.callers }) c (journal h.start)), [])
    → ◌≡◌ {A = Caller B} (record { hall = id; founding = me.0.founding; known = shown journal me.0 }) (first_pass journal h c)
first-as journal id me h c e e' = λ i. record { hall = e i; founding = (e' i).0.founding; known = shown journal (e' i).0 }

-- one element more of a row of them
pub dealt-more : {X : Type 0} (f : ℕ → X) (n j m : ℕ) (xs ys : List X) (x : X) → ys ≡ xs ++ x ∷ [] → xs ≡ map f (range_with_len 1 n) → x ≡ f j → 1 + n ≡ j → n + 1 ≡ m → ys ≡ map f (range_with_len 1 m)
dealt-more f n j m xs ys x grown before last at long =
    grown ∙ (ap (λ l. l ++ x ∷ []) before ∙ (ap (λ y. map f (range_with_len 1 n) ++ y ∷ []) last ∙ (sym (map-range_with_len_more f 1 n j at) ∙ ap (λ k. map f (range_with_len 1 k)) long)))

-- the passes of a new hall are its own, and all of them
pub first-ours : {B : Type 0} (journal : B → List Entry) (h : Hall B) (cs : List ℕ) → All (IsPassOf h) (map (first_pass journal h) cs)
first-ours journal h [] = All-nil (IsPassOf h)
first-ours journal h (c ∷ cs) = All-cons (IsPassOf h) (first_pass journal h c) (map (first_pass journal h) cs) (record { hall = refl; founding = refl }) (first-ours journal h cs)

first-numbers : {B : Type 0} (journal : B → List Entry) (h : Hall B) (cs : List ℕ) → numbers (map (first_pass journal h) cs) ≡ cs
first-numbers journal h [] = refl
first-numbers journal h (c ∷ cs) = ap (λ l. c ∷ l) (first-numbers journal h cs)

in-range : (n c : ℕ) → 1 ≤ c → c ≤ n → Contains (range_with_len 1 n) c
in-range n c low high = (c - 1, omega (arith, length-range_with_len 1 n, low, high), get_or-range_with_len 1 n (c - 1) c (omega (arith, low, high)) ∙ omega (arith, low))

pub first-all : {B : Type 0} (journal : B → List Entry) (h : Hall B) (n : ℕ) → h.callers ≡ n → AreAll h (map (first_pass journal h) (range_with_len 1 n))
first-all journal h n same = λ c low high. subst (λ l. Contains l c) (sym (first-numbers journal h (range_with_len 1 n))) (in-range n c low (omega (arith, high, same)))
