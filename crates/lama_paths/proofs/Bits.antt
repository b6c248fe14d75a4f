-- A mark more among marks.
use Rattle.std.proofs.Common.{◌≡◌, ◌≢◌, ◌∙◌, ◌*◌, ◌^◌, ◌<◌, ◌≤◌, ◌⊎◌, ◌/◌, ◌%◌, ℕ, List, inl, inr, eqb, Bool, true, false, refl, sym, length, ap, arith, get_or, get_or-set_other, get_or-set_same}
use Rattle.std.specs.Prelude.{◌||◌, slice_set, bit_or}
use Rattle.std.proofs.lemmas.Bool.{cases_eq}
use Rattle.std.proofs.lemmas.Bool.Decides.{nat_tests}
use Rattle.std.proofs.lemmas.Nat.{one_shl}
use Rattle.std.proofs.lemmas.Nat.Bits.{bit_at_or, bit_at-pow_same, bit_at-pow_other}
use Rattle.std.specs.Int.{bit_at}
use Rattle.lama_paths.specs.Marks.{is_set}

or-true : (a : Bool) → a || true ≡ true
or-true true = refl
or-true false = refl

or-false : (a : Bool) → a || false ≡ a
or-false true = refl
or-false false = refl

-- the bit itself is set, and another stays as it is
bit-same : (x k : ℕ) → bit_at (bit_or x (2 ^ k)) k ≡ 1
bit-same x k =
    let e = bit_at_or x (2 ^ k) k in
    let one = bit_at-pow_same k in
    let small : bit_at x k ≤ 1 = omega arith in
    omega (arith, e, one, small)

bit-other : (x k i : ℕ) → i ≢ k → bit_at (bit_or x (2 ^ k)) i ≡ bit_at x i
bit-other x k i ne =
    let e = bit_at_or x (2 ^ k) i in
    let none = bit_at-pow_other k i ne in
    omega (arith, e, none)

pub set-is : (words : List ℕ) (v : ℕ) → v / 64 < length words → (w : ℕ) → is_set (slice_set words (v / 64) (bit_or (get_or words (v / 64) 0) (1 * 2 ^ (v % 64) % 18446744073709551616))) w ≡ is_set words w || eqb v w
unfolding is_set
set-is words v within w = ap (λ bit. eqb (bit_at (get_or (slice_set words (v / 64) (bit_or (get_or words (v / 64) 0) bit)) (w / 64) 0) (w % 64)) 1) (one_shl (v % 64) 64 (omega arith)) ∙ by-place (cases_eq (w / 64) (v / 64))
  where
    new : ℕ
    new = bit_or (get_or words (v / 64) 0) (2 ^ (v % 64))

    by-place : (w / 64 ≡ v / 64) ⊎ (w / 64 ≢ v / 64) → eqb (bit_at (get_or (slice_set words (v / 64) (bit_or (get_or words (v / 64) 0) (2 ^ (v % 64)))) (w / 64) 0) (w % 64)) 1 ≡ eqb (bit_at (get_or words (w / 64) 0) (w % 64)) 1 || eqb v w
    by-place (inl e) = ap (λ k. eqb (bit_at (get_or (slice_set words (v / 64) (bit_or (get_or words (v / 64) 0) (2 ^ (v % 64)))) k 0) (w % 64)) 1) e
        ∙ (ap (λ x. eqb (bit_at x (w % 64)) 1) (get_or-set_same words (v / 64) (bit_or (get_or words (v / 64) 0) (2 ^ (v % 64))) 0 within) ∙ by-bit (cases_eq (w % 64) (v % 64)))
      where
        by-bit : (w % 64 ≡ v % 64) ⊎ (w % 64 ≢ v % 64) → eqb (bit_at (bit_or (get_or words (v / 64) 0) (2 ^ (v % 64))) (w % 64)) 1 ≡ eqb (bit_at (get_or words (w / 64) 0) (w % 64)) 1 || eqb v w
        by-bit (inl f) =
            let same : v ≡ w = omega (arith, e, f) in
            let t : eqb v w ≡ true = grind (arith, nat_tests, same) in
            ap (λ k. eqb (bit_at (bit_or (get_or words (v / 64) 0) (2 ^ (v % 64))) k) 1) f
            ∙ (ap (λ bit. eqb bit 1) (bit-same (get_or words (v / 64) 0) (v % 64))
            ∙ sym (ap (λ b. eqb (bit_at (get_or words (w / 64) 0) (w % 64)) 1 || b) t ∙ or-true (eqb (bit_at (get_or words (w / 64) 0) (w % 64)) 1)))
        by-bit (inr ne) =
            let t : eqb v w ≡ false = other in
            ap (λ bit. eqb bit 1) (bit-other (get_or words (v / 64) 0) (v % 64) (w % 64) ne)
            ∙ (ap (λ k. eqb (bit_at (get_or words k 0) (w % 64)) 1) (sym e)
            ∙ sym (ap (λ b. eqb (bit_at (get_or words (w / 64) 0) (w % 64)) 1 || b) t ∙ or-false (eqb (bit_at (get_or words (w / 64) 0) (w % 64)) 1)))
          where
            other : eqb v w ≡ false
            other = let differ : v ≢ w = λ s. ne (ap (λ k. k % 64) (sym s)) in grind (arith, nat_tests, differ)
    by-place (inr ne) =
        let t : eqb v w ≡ false = other in
        ap (λ x. eqb (bit_at x (w % 64)) 1) (get_or-set_other words (v / 64) (w / 64) (bit_or (get_or words (v / 64) 0) (2 ^ (v % 64))) 0 ne)
        ∙ sym (ap (λ b. eqb (bit_at (get_or words (w / 64) 0) (w % 64)) 1 || b) t ∙ or-false (eqb (bit_at (get_or words (w / 64) 0) (w % 64)) 1))
      where
        other : eqb v w ≡ false
        other = let differ : v ≢ w = λ s. ne (ap (λ k. k / 64) (sym s)) in grind (arith, nat_tests, differ)
