-- A page of w records that is filled from a place on.
use Rattle.std.proofs.Common.{◌≡◌, ℕ, ◌+◌, ◌-◌, ◌<◌, ◌≤◌, List, [], ◌∷◌, ◌++◌, length, take, drop, set, get_or, replicate, sym, ◌∙◌, ap, arith, length-append, append_assoc}
use Rattle.std.proofs.lemmas.List.{append-nil, drop_all, drop_more, length-drop, length-take, length-replicate, replicate_more, set_at}

-- xs with x from `from` up to i
abbrev pub filled : {A : Type 0} → ℕ → ℕ → A → List A → List A
filled from i x xs = (take from xs ++ replicate (i - from) x) ++ drop i xs

module _ {A : Type 0} (w from i : ℕ) (x : A) (xs : List A) (above : from ≤ i) where
  length-filled : length (filled from i x xs) ≡ length (take from xs) + (i - from) + (length xs - i)
  length-filled = omega (arith, length-append (take from xs ++ replicate (i - from) x) (drop i xs), length-append (take from xs) (replicate (i - from) x), length-replicate (i - from) x, length-drop i xs)

  pub filled-whole : i < w → length (filled from i x xs) ≡ w → length xs ≡ w
  filled-whole below whole = omega (arith, length-filled, length-take from xs)

  pub filled-more : i < w → length (filled from i x xs) ≡ w → set (filled from i x xs) i x ≡ filled from (i + 1) x xs
  filled-more below whole =
      let all : length xs ≡ w = filled-whole below whole in
      let front = take from xs ++ replicate (i - from) x in
      let at : length front ≡ i = omega (arith, length-append (take from xs) (replicate (i - from) x), length-replicate (i - from) x, length-take from xs, all) in
      let more : drop i xs ≡ get_or xs i x ∷ drop (i + 1) xs = drop_more xs i x (omega (arith, all)) in
      let next : i - from + 1 ≡ i + 1 - from = omega arith in
      let grown : front ++ x ∷ [] ≡ take from xs ++ replicate (i + 1 - from) x =
      append_assoc (take from xs) (replicate (i - from) x) (x ∷ []) ∙ ap (λ t. take from xs ++ t) (replicate_more (i - from) x ∙ ap (λ k. replicate k x) next) in
      ap (λ t. set (front ++ t) i x) more
      ∙ set_at front (get_or xs i x) (drop (i + 1) xs) x i at
      ∙ sym (append_assoc front (x ∷ []) (drop (i + 1) xs))
      ∙ ap (λ t. t ++ drop (i + 1) xs) grown

  pub filled-all : length xs ≤ i → filled from i x xs ≡ take from xs ++ replicate (i - from) x
  filled-all short = ap (λ t. (take from xs ++ replicate (i - from) x) ++ t) (drop_all i xs short) ∙ append-nil (take from xs ++ replicate (i - from) x)
