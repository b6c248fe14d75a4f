-- The pieces lie one after another and make up the whole.
use Rattle.std.proofs.Common.{◌≡◌, ◌∙◌, ℕ, suc, ◌+◌, ◌-◌, ◌*◌, ◌/◌, ◌<◌, ◌≤◌, List, [], ◌∷◌, ◌++◌, length, get_or, take, drop, sym, ap, subst, arith}
use Rattle.std.specs.List.{flat_map}
use Rattle.std.specs.Prelude.{Result, Ok, Err, IfOk}
use Rattle.std.proofs.Math.Nat.{div-le_self, div-mul-le_self, mul-div_cancel, mul-le-mul_left}
use Rattle.std.proofs.lemmas.Nat.{le-div}
use Rattle.std.proofs.lemmas.List.{drop_all, drop-drop, take-append-drop}
use Rattle.lama_work.specs.Pieces.{piece_start}

-- the same for greater numbers
div-mono : (a b k : ℕ) → 0 < k → a ≤ b → a / k ≤ b / k
div-mono a b k pos le = let part = div-mul-le_self a k in le-div (a / k) b k pos (omega (arith, part, le))

module _ (n workers : ℕ) (some : 1 ≤ workers) where
  -- a piece begins no later than the next one
  pub starts-rise : (i j : ℕ) → i ≤ j → piece_start n workers i ≤ piece_start n workers j
  starts-rise i j le = div-mono (n * i) (n * j) workers (omega (arith, some)) (mul-le-mul_left n le)

  -- the last piece ends with the whole
  pub last-end : piece_start n workers workers ≡ n
  last-end = mul-div_cancel n (omega (arith, some))

  -- each piece ends within the whole
  pub starts-within : (i : ℕ) → i ≤ workers → piece_start n workers i ≤ n
  starts-within i le = subst (λ k. piece_start n workers i ≤ k) last-end (starts-rise i workers le)

  pub first-start : piece_start n workers 0 ≡ 0
  first-start = let none : n * 0 ≡ 0 = omega arith in let le = div-le_self 0 workers in ap (λ k. k / workers) none ∙ omega (arith, le)

-- what each piece of a list gives, one after another, is what the whole gives
module _ {T B : Type 0} (items : T → List B) (f : List ℕ → List B) (joins : (xs ys : List ℕ) → f (xs ++ ys) ≡ f xs ++ f ys) (none : f [] ≡ [])
    (us : List ℕ) (n workers : ℕ) (some : 1 ≤ workers) (size : length us ≡ n) where
  abbrev pub piece_of : ℕ → List ℕ
  piece_of i = take (piece_start n workers (i + 1) - piece_start n workers i) (drop (piece_start n workers i) us)

  from : (i : ℕ) (rs : List T) → i + length rs ≡ workers → ((j : ℕ) (d : T) → j < length rs → items (get_or rs j d) ≡ f (piece_of (i + j))) → flat_map items rs ≡ f (drop (piece_start n workers i) us)
  from i [] len each =
      let last : i ≡ workers = omega (arith, len) in
      let end : piece_start n workers i ≡ length us = ap (piece_start n workers) last ∙ (last-end n workers some ∙ sym size) in
      sym (ap (λ k. f (drop k us)) end ∙ (ap f (drop_all (length us) us (omega arith)) ∙ none))
  from i (r ∷ rs) len each =
      let a = piece_start n workers i in
      let b = piece_start n workers (i + 1) in
      let here : i + 0 ≡ i = omega arith in
      let up : a ≤ b = starts-rise n workers some i (i + 1) (omega arith) in
      let sum : a + (b - a) ≡ b = omega (arith, up) in
      let first : items r ≡ f (piece_of i) = each 0 r (omega arith) ∙ ap (λ k. f (piece_of k)) here in
      let rest : flat_map items rs ≡ f (drop b us) = from (i + 1) rs (omega (arith, len)) (λ j d lt. let next : i + suc j ≡ i + 1 + j = omega arith in each (suc j) d (omega (arith, lt)) ∙ ap (λ k. f (piece_of k)) next) in
      (λ j. first j ++ rest j)
      ∙ (sym (joins (piece_of i) (drop b us))
      ∙ ap f (ap (λ l. piece_of i ++ l) (ap (λ k. drop k us) (sym sum) ∙ sym (drop-drop (b - a) a us)) ∙ take-append-drop (b - a) (drop a us)))

  -- all pieces of the list
  pub cover : (rs : List T) → length rs ≡ workers → ((i : ℕ) (d : T) → i < workers → items (get_or rs i d) ≡ f (piece_of i)) → flat_map items rs ≡ f us
  cover rs len each = from 0 rs (omega (arith, len)) (λ j d lt. let here : j ≡ 0 + j = omega arith in each j d (omega (arith, lt, len)) ∙ ap (λ k. f (piece_of k)) here)
      ∙ ap (λ k. f (drop k us)) (first-start n workers some)

-- an answer that meets both
pub both-ok : {T E : Type 0} (r : Result T E) (P Q : T → Type 0) → IfOk r P → IfOk r Q → IfOk r (λ v. P v × Q v)
both-ok (Ok x) P Q p q = (p, q)
both-ok (Err e) P Q p q = tt
