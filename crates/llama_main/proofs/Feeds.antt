-- Where the first line feed of bytes stands.
use Rattle.std.proofs.Common.{◌≡◌, ◌∙◌, ℕ, ◌<◌, Bool, true, false, List, length, take, get_or, eqb, refl, ap, arith, Option, Some, None}
use Rattle.std.specs.Prelude.{MatchOption, slice_index}
use Rattle.std.proofs.lemmas.Bool.Decides.{nat_tests}
use Rattle.std.proofs.lemmas.List.{get_or_default, get_or-take, length-take-le}
use Rattle.memchr.specs.Find.{IsFirstByte, is_byte}
use Rattle.llama_main.specs.Stop.{HasNoFeed}

other : (b : ℕ) → (eqb b 10 ≡ true → ⊥) → eqb b 10 ≡ false
other b h = by (eqb b 10) refl
  where
    by : (t : Bool) → eqb b 10 ≡ t → eqb b 10 ≡ false
    by true is = absurd (h is)
    by false is = is

pub feed-found : (bytes : List ℕ) (r : Option ℕ) → IsFirstByte (is_byte 10) bytes r →
    MatchOption r (HasNoFeed bytes) (λ end. (end < length bytes) × (slice_index bytes end ≡ 10) × HasNoFeed (take end bytes))
feed-found bytes None nowhere = λ k d lt. other (get_or bytes k d) (λ h. nowhere k (omega arith) lt (ap (λ b. eqb b 10) (get_or_default bytes k 0 d lt) ∙ h))
feed-found bytes (Some end) found = let high = found.0.high in (
  high,
  (let h = found.1 in grind (arith, nat_tests, h)),
  λ k d lt.
      (let n = length-take-le end bytes (omega (arith, high)) in
      let before : k < end = omega (arith, n, lt) in
      let same = get_or-take end bytes k d before in
      ap (λ b. eqb b 10) same ∙ other (get_or bytes k d) (λ h. found.0.before k (omega arith) before (ap (λ b. eqb b 10) (get_or_default bytes k 0 d (omega (arith, before, high))) ∙ h))),
)
