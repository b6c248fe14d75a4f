-- A number that is read from the front of a text.
use Rattle.std.proofs.Common.{◌≡◌, ◌∙◌, ℕ, ◌+◌, ◌<◌, ◌≤◌, true, List, length, take, drop, get_or, Option, None, Some, sym, ap, arith}
use Rattle.std.specs.Prelude.{⊤, MatchOption}
use Rattle.std.specs.List.{list_all, fold, position_or_len}
use Rattle.std.proofs.lemmas.List.{drop_all, drop_more, length-take}
use Rattle.lama_model.specs.Script.{number, is_blank, is_digit}
use Rattle.lama_script.specs.Numbers.{IsLeading}
use Rattle.lama_script.proofs.Numbers.{number-of, with_digit}
use Rattle.lama_script.proofs.Words.{blank_at-cons_yes}

-- the first i bytes are digits of that value
pub record AreDigits (text : List ℕ) (i value : ℕ) : Type 0 where
  pub small : value ≤ 4294967295
  pub digits : list_all is_digit (take i text) ≡ true
  pub value_is : value ≡ fold with_digit 0 (take i text)
  pub no_blank : position_or_len is_blank text ≡ i + position_or_len is_blank (drop i text)

module _ (text : List ℕ) (i value : ℕ) (are : AreDigits text i value) where
  value-is : i ≤ length text → 0 < i → number (take i text) ≡ Some value
  value-is le some = number-of (take i text) value (omega (arith, length-take i text)) are.digits are.value_is are.small

  pub at-blank : (b : ℕ) → i < length text → b ≡ get_or text i 0 → is_blank b ≡ true → 0 < i → IsLeading text value i
  at-blank b lt at blank some =
      let here : position_or_len is_blank (drop i text) ≡ 0 =
      ap (position_or_len is_blank) (drop_more text i 0 lt) ∙ blank_at-cons_yes (get_or text i 0) (drop (i + 1) text) (ap is_blank (sym at) ∙ blank) in
      record { end = omega (arith, are.no_blank, here); number_is = value-is (omega arith) some }

  pub at-end : length text ≤ i → i ≤ length text → 0 < i → IsLeading text value i
  at-end le ge some =
      let here : position_or_len is_blank (drop i text) ≡ 0 = ap (position_or_len is_blank) (drop_all i text le) in
      record { end = omega (arith, are.no_blank, here); number_is = value-is ge some }

pub weaker : {X : Type 0} {P Q : X → Type 0} (o : Option X) → ((x : X) → P x → Q x) → MatchOption o ⊤ P → MatchOption o ⊤ Q
weaker None f h = h
weaker (Some x) f h = f x h
