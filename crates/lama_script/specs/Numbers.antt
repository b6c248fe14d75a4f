-- Numbers at the front of a line.
use Rattle.std.specs.Prelude.{◌≡◌, ℕ, List, ◌∷◌, Option, Some, take}
use Rattle.std.specs.List.{position_or_len}
use Rattle.lama_model.specs.Script.{words, number, is_blank}

-- the bytes before the first blank, which are so many, spell the number
pub record IsLeading (text : List ℕ) (value len : ℕ) : Type 0 where
  pub end : len ≡ position_or_len is_blank text
  pub number_is : number (take len text) ≡ Some value

-- the first word spells that number, or none, and the rest has the words after it
pub record IsFirstNumber (bytes : List ℕ) (value : Option ℕ) (rest : List ℕ) : Type 0 where
  pub word : List ℕ
  pub words_are : words bytes ≡ word ∷ words rest
  pub value_is : value ≡ number word
