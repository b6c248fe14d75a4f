-- Indexes that rise.
use Rattle.std.proofs.Common.{◌≡◌, ◌∙◌, ℕ, zero, suc, ◌+◌, ◌<◌, ◌≤◌, List, [], ◌∷◌, length, get_or, cond, eqb, true, false, refl, ap, subst, arith}
use Rattle.std.specs.List.Sorted.{IsStrictlyIncreasing}
use Rattle.std.proofs.lemmas.Bool.Decides.{nat_tests}
use Rattle.std.proofs.lemmas.List.Kept.{AllPairs-from_increasing}
use Rattle.lama_model.specs.Change.{has_index}

-- each is above k
abbrev pub Above : ℕ → List ℕ → Type 0
Above k [] = Unit {0}
Above k (x ∷ xs) = (k < x) × Above k xs

-- each is above those before it
abbrev pub Rises : List ℕ → Type 0
Rises [] = Unit {0}
Rises (x ∷ xs) = Above x xs × Rises xs

above-from : (k : ℕ) (xs : List ℕ) → ((i : ℕ) → i < length xs → k < get_or xs i 0) → Above k xs
above-from k [] h = tt
above-from k (x ∷ xs) h = (h 0 (omega arith), above-from k xs (λ i lt. h (suc i) (omega arith)))

rises-pairs : (xs : List ℕ) → ((i j : ℕ) → i < j → j < length xs → get_or xs i 0 < get_or xs j 0) → Rises xs
rises-pairs [] h = tt
rises-pairs (x ∷ xs) h = (above-from x xs (λ i lt. h 0 (suc i) (omega arith) (omega arith)), rises-pairs xs (λ i j lt lt'. h (suc i) (suc j) (omega arith) (omega arith)))

pub rises-from : (xs : List ℕ) → IsStrictlyIncreasing xs → Rises xs
rises-from xs h = rises-pairs xs (λ i j lt lt'. AllPairs-from_increasing xs h i j 0 lt lt')

pub above-less : (i k : ℕ) (ks : List ℕ) → i ≤ k → Above k ks → Above i ks
above-less i k [] le above = tt
above-less i k (x ∷ ks) le above = ((let first = above.0 in omega (arith, le, first)), above-less i k ks le above.1)

-- an index below all others is none of them
pub has-above : (i : ℕ) (ks : List ℕ) → Above i ks → has_index i ks ≡ false
has-above i [] above = refl
has-above i (k ∷ ks) above =
    let first = above.0 in
    let other : eqb k i ≡ false = grind (arith, nat_tests, first) in
    ap (λ b. cond b true (has_index i ks)) other ∙ has-above i ks above.1

next-rises : (xs : List ℕ) → Rises xs → (k : ℕ) → suc k < length xs → get_or xs k 0 < get_or xs (suc k) 0
next-rises [] h k lt = absurd (omega (arith, lt))
next-rises (x ∷ []) h k lt = absurd (omega (arith, lt))
next-rises (x ∷ (y ∷ xs)) h zero lt = h.0.0
next-rises (x ∷ (y ∷ xs)) h (suc k) lt = next-rises (y ∷ xs) h.1 k (omega (arith, lt))

pub increasing-from : (xs : List ℕ) → Rises xs → IsStrictlyIncreasing xs
increasing-from xs h k lt =
    let is : suc k ≡ k + 1 = omega arith in
    subst (λ n. get_or xs k 0 < get_or xs n 0) is (next-rises xs h k (omega (arith, lt)))
