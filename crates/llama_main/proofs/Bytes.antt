-- Bytes that were written or given, one piece after another.
use Rattle.std.proofs.Common.{◌≡◌, ℕ, ◌+◌, ◌-◌, ◌<◌, List, [], ◌++◌, length, take, drop, refl, sym, ap, subst, ◌∙◌, arith, append_assoc, Option, Some, None}
use Rattle.std.proofs.lemmas.List.{append-nil, take-append-drop, take_all, length-drop}
use Rattle.std.specs.Prelude.{IfSome}
use Rattle.std.proofs.Math.Seq.{take-add}
use Rattle.lama_base.specs.Bytes.{Takes, Gives}
use Rattle.llama_main.specs.Streams.{IsFront, Appends, Gave, HasEnded}

-- nothing was written
pub Appends-none : (w : Option (List ℕ)) → Appends w w []
Appends-none None = tt
Appends-none (Some x) = ap Some (sym (append-nil x))

-- one piece after another
pub Appends-append : (a b c : Option (List ℕ)) (p q : List ℕ) → Appends a b p → Appends b c q → Appends a c (p ++ q)
Appends-append None b c p q h k = tt
Appends-append (Some x) b c p q h k = subst (λ (y : Option (List ℕ)). y ≡ Some (x ++ (p ++ q))) (sym (subst (λ (y : Option (List ℕ)). IfSome y (λ w. c ≡ Some (w ++ q))) h k ∙ ap Some (append_assoc x p q))) refl

pub IsFront-take : (n : ℕ) (xs : List ℕ) → IsFront (take n xs) xs
IsFront-take n xs = (drop n xs, sym (take-append-drop n xs))

-- a write that took some of what was still to be written
pub Appends-takes : (a b c : Option (List ℕ)) (bytes : List ℕ) (written n : ℕ) → Appends a b (take written bytes) → Takes b c n (take (length bytes - written) (drop written bytes)) → Appends a c (take (written + n) bytes)
Appends-takes a b c bytes written n h k =
    let rest : take (length bytes - written) (drop written bytes) ≡ drop written bytes = take_all (length bytes - written) (drop written bytes) (omega (arith, length-drop written bytes)) in
    subst (Appends a c) (sym (take-add written n bytes)) (Appends-append a b c (take written bytes) (take n (drop written bytes)) h (subst (Takes b c n) rest k))

-- nothing was given
pub Gave-none : (l : Option (List ℕ)) → Gave l l []
Gave-none None = tt
Gave-none (Some x) = (x, refl, refl)

pub Gave-append : (a b c : Option (List ℕ)) (p q : List ℕ) → Gave a b p → Gave b c q → Gave a c (p ++ q)
Gave-append None b c p q h k = tt
Gave-append (Some x) b c p q h k =
    let known = subst (λ (y : Option (List ℕ)). Gave y c q) h.1 k in
    (known.0, known.1, h.2 ∙ (ap (λ (xs : List ℕ). p ++ xs) known.2 ∙ sym (append_assoc p q known.0)))

-- what a read gave
pub Gave-gives : (a b : Option (List ℕ)) (n : ℕ) (buffer : List ℕ) → Gives a b n buffer → Gave a b (take n buffer)
Gave-gives None b n buffer h = tt
Gave-gives (Some x) b n buffer h = (h.0, h.1, h.2.moved)

-- a read that gave nothing into a buffer that has room
pub HasEnded-gives : (a b c : Option (List ℕ)) (p : List ℕ) (n : ℕ) (buffer : List ℕ) → Gave a b p → Gives b c n buffer → 0 < length buffer → n ≡ 0 → HasEnded a c
HasEnded-gives None b c p n buffer h k some zero = tt
HasEnded-gives (Some x) b c p n buffer h k some zero =
    let known = subst (λ (y : Option (List ℕ)). Gives y c n buffer) h.1 k in
    let none : h.0 ≡ [] = known.2.ended some zero in
    let after : h.0 ≡ take n buffer ++ known.0 = known.2.moved in
    let gone : take n buffer ≡ [] = ap (λ (m : ℕ). take m buffer) zero in
    known.1 ∙ ap Some (ap (λ (xs : List ℕ). xs ++ known.0) (sym gone) ∙ (sym after ∙ none))

-- a front of a front
pub IsFront-trans : (a b c : List ℕ) → IsFront a b → IsFront b c → IsFront a c
IsFront-trans a b c h k = (h.0 ++ k.0, k.1 ∙ (ap (λ (xs : List ℕ). xs ++ k.0) h.1 ∙ append_assoc a h.0 k.0))

-- the same before both
pub IsFront-append : (a b c : List ℕ) → IsFront b c → IsFront (a ++ b) (a ++ c)
IsFront-append a b c h = (h.0, ap (λ (xs : List ℕ). a ++ xs) h.1 ∙ sym (append_assoc a b h.0))
