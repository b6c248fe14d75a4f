-- The value of a word's digits, read one by one.
use Rattle.std.proofs.Common.{◌≡◌, ◌∙◌, refl, sym, ap, ℕ, ◌+◌, ◌-◌, ◌*◌, ◌<◌, ◌≤◌, Bool, true, false, ◌&&◌, nat_le, if◌then◌else◌, List, [], ◌∷◌, length, Option, Some, None, arith}
use Rattle.std.specs.List.{list_all, fold}
use Rattle.std.proofs.lemmas.Bool.{le-leb, lt-leb}
use Rattle.lama_model.specs.Script.{number, is_digit}

-- the value so far, with one digit more
abbrev pub with_digit : ℕ → ℕ → ℕ
with_digit n d = n * 10 + (d - 48)

-- the number whose digits so far have the value n, with these bytes after them
pub number_from : ℕ → List ℕ → Option ℕ
number_from n bytes = if list_all is_digit bytes && nat_le (fold with_digit n bytes) 4294967295 then Some (fold with_digit n bytes) else None

pub number-empty : (word : List ℕ) → length word ≡ 0 → number word ≡ None
unfolding number
number-empty [] e = refl
number-empty (b ∷ bs) e = absurd (omega arith)

pub number-start : (word : List ℕ) → 0 < length word → number_from 0 word ≡ number word
unfolding number number_from
number-start [] l = absurd (omega arith)
number-start (b ∷ bs) l = refl

pub number_from-end : (n : ℕ) → n ≤ 4294967295 → number_from n [] ≡ Some n
unfolding number_from
number_from-end n l = ap (λ t. if t then Some n else None) (le-leb n 4294967295 l)

pub number_from-bad : (n b : ℕ) (bs : List ℕ) → is_digit b ≡ false → number_from n (b ∷ bs) ≡ None
unfolding number_from
number_from-bad n b bs e = ap (λ t. if (t && list_all is_digit bs) && nat_le (fold with_digit (with_digit n b) bs) 4294967295 then Some (fold with_digit (with_digit n b) bs) else None) e

pub number_from-step : (n b : ℕ) (bs : List ℕ) → is_digit b ≡ true → number_from n (b ∷ bs) ≡ number_from (n * 10 + (b - 48)) bs
unfolding number_from
number_from-step n b bs e = ap (λ t. if (t && list_all is_digit bs) && nat_le (fold with_digit (with_digit n b) bs) 4294967295 then Some (fold with_digit (with_digit n b) bs) else None) e

-- digits never lower the value
value-grows : (n : ℕ) (bs : List ℕ) → n ≤ fold with_digit n bs
value-grows n [] = omega arith
value-grows n (b ∷ bs) = omega (arith, value-grows (with_digit n b) bs)

no_more : (a b : Bool) (n : ℕ) → b ≡ false → (if a && b then Some n else None) ≡ None
no_more true b n e = ap (λ t. if t then Some n else None) e
no_more false b n e = refl

pub number_from-over : (n : ℕ) (bs : List ℕ) → 4294967295 < n → number_from n bs ≡ None
unfolding number_from
number_from-over n bs l = no_more (list_all is_digit bs) _ _ (lt-leb _ _ (omega (arith, value-grows n bs)))

-- digits of a value that is not too great
pub number-of : (ds : List ℕ) (v : ℕ) → 0 < length ds → list_all is_digit ds ≡ true → v ≡ fold with_digit 0 ds → v ≤ 4294967295 → number ds ≡ Some v
unfolding number_from
number-of ds v some all is small =
    sym (number-start ds some)
    ∙ (λ j. if all j && nat_le (sym is j) 4294967295 then Some (sym is j) else None)
    ∙ ap (λ t. if t then Some v else None) (le-leb v 4294967295 small)
