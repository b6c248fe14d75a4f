-- The words of a line, taken off one by one.
use Rattle.std.proofs.Common.{◌≡◌, refl, sym, ap, ◌∙◌, ℕ, suc, ◌+◌, ◌<◌, Bool, true, false, not, cond, List, [], ◌∷◌, length, take, drop, filter, Option, Some, None, is_some, IsTrue, nat_lt, arith}
use Rattle.std.specs.Option.{unwrap_or}
use Rattle.std.proofs.lemmas.Option.{cond_some}
use Rattle.std.proofs.lemmas.Bool.{ltb-true, ltb-false}
use Rattle.std.proofs.lemmas.List.{length-drop}
use Rattle.std.proofs.lemmas.List.Sums.{prefix_len-le-length}
use Rattle.std.specs.List.{slice_split, position, position_or_len}
use Rattle.std.proofs.lemmas.List.Splits.{slice_split-cons_yes, slice_split-cons_no}
use Rattle.lama_model.specs.Script.{words, is_blank, is_nonempty}

-- the parts after the first one
tail_parts : List ℕ → List (List ℕ)
tail_parts [] = []
tail_parts (b ∷ bs) = slice_split is_blank bs

-- the place of the first blank
abbrev blank_at : List ℕ → ℕ
blank_at bs = position_or_len is_blank bs

-- the place of the first byte of a word
abbrev word_at : List ℕ → ℕ
word_at bs = position_or_len (λ b. not (is_blank b)) bs

pub words-blank : (b : ℕ) (bs : List ℕ) → is_blank b ≡ true → words (b ∷ bs) ≡ words bs
unfolding words
words-blank b bs e = ap (filter is_nonempty) (slice_split-cons_yes is_blank b bs e)

pub blank_at-cons_yes : (b : ℕ) (bs : List ℕ) → is_blank b ≡ true → blank_at (b ∷ bs) ≡ 0
blank_at-cons_yes b bs e = ap (λ t. cond (not t) (1 + blank_at bs) 0) e

pub blank_at-cons_no : (b : ℕ) (bs : List ℕ) → is_blank b ≡ false → blank_at (b ∷ bs) ≡ 1 + blank_at bs
blank_at-cons_no b bs e = ap (λ t. cond (not t) (1 + blank_at bs) 0) e

word_at-cons_yes : (b : ℕ) (bs : List ℕ) → is_blank b ≡ true → word_at (b ∷ bs) ≡ 1 + word_at bs
word_at-cons_yes b bs e = ap (λ t. cond (not (not t)) (1 + word_at bs) 0) e

word_at-cons_no : (b : ℕ) (bs : List ℕ) → is_blank b ≡ false → word_at (b ∷ bs) ≡ 0
word_at-cons_no b bs e = ap (λ t. cond (not (not t)) (1 + word_at bs) 0) e

-- the parts begin with the bytes before the first blank
parts_first : (bs : List ℕ) → slice_split is_blank bs ≡ take (blank_at bs) bs ∷ tail_parts (drop (blank_at bs) bs)
unfolding tail_parts
parts_first [] = refl
parts_first (b ∷ bs) =
    elim (is_blank b) as (λ t. is_blank b ≡ t → slice_split is_blank (b ∷ bs) ≡ take (blank_at (b ∷ bs)) (b ∷ bs) ∷ tail_parts (drop (blank_at (b ∷ bs)) (b ∷ bs))) [
      | true ↦ λ e. rw (slice_split-cons_yes is_blank b bs e, blank_at-cons_yes b bs e) refl
      | false ↦ λ e. let one : 1 + blank_at bs ≡ suc (blank_at bs) = omega arith in rw (slice_split-cons_no is_blank b bs e, parts_first bs, blank_at-cons_no b bs e, one) refl
    ] refl

-- the parts after the first one are those of what stands from the first blank on
tail_words : (bs : List ℕ) → filter is_nonempty (tail_parts (drop (blank_at bs) bs)) ≡ words (drop (blank_at bs) bs)
unfolding tail_parts words
tail_words [] = refl
tail_words (b ∷ bs) =
    elim (is_blank b) as (λ t. is_blank b ≡ t → filter is_nonempty (tail_parts (drop (blank_at (b ∷ bs)) (b ∷ bs))) ≡ words (drop (blank_at (b ∷ bs)) (b ∷ bs))) [
      | true ↦ λ e. rw (blank_at-cons_yes b bs e) (sym (words-blank b bs e))
      | false ↦ λ e. let one : 1 + blank_at bs ≡ suc (blank_at bs) = omega arith in rw (blank_at-cons_no b bs e, one) (tail_words bs)
    ] refl

empty_words : (bs : List ℕ) → length bs ≡ 0 → words bs ≡ []
unfolding words
empty_words [] e = refl
empty_words (b ∷ bs) e = absurd (omega arith)

-- blanks before the first word are no words
pub words-drop_blanks : (bs : List ℕ) → words (drop (word_at bs) bs) ≡ words bs
words-drop_blanks [] = refl
words-drop_blanks (b ∷ bs) =
    elim (is_blank b) as (λ t. is_blank b ≡ t → words (drop (word_at (b ∷ bs)) (b ∷ bs)) ≡ words (b ∷ bs)) [
      | true ↦ λ e. let one : 1 + word_at bs ≡ suc (word_at bs) = omega arith in rw (word_at-cons_yes b bs e, one) (words-drop_blanks bs ∙ sym (words-blank b bs e))
      | false ↦ λ e. rw (word_at-cons_no b bs e) refl
    ] refl

-- the bytes after the blanks begin with a word, unless there are none
AtWord : List ℕ → Type 0
AtWord [] = Unit {0}
AtWord (b ∷ bs) = is_blank b ≡ false

drop_blanks-at : (bs : List ℕ) → AtWord (drop (word_at bs) bs)
unfolding AtWord
drop_blanks-at [] = tt
drop_blanks-at (b ∷ bs) =
    elim (is_blank b) as (λ t. is_blank b ≡ t → AtWord (drop (word_at (b ∷ bs)) (b ∷ bs))) [
      | true ↦ λ e. let one : 1 + word_at bs ≡ suc (word_at bs) = omega arith in rw (word_at-cons_yes b bs e, one) (drop_blanks-at bs)
      | false ↦ λ e. rw (word_at-cons_no b bs e) e
    ] refl

-- a word, and the words after it
words-at : (bs : List ℕ) → AtWord bs → 0 < length bs → words bs ≡ take (blank_at bs) bs ∷ words (drop (blank_at bs) bs)
unfolding AtWord words
words-at [] h l = absurd (omega arith)
words-at (b ∷ bs) e l =
    let one : 1 + blank_at bs ≡ suc (blank_at bs) = omega arith in
    ap (filter is_nonempty) (parts_first (b ∷ bs))
    ∙ rw (blank_at-cons_no b bs e, one) (ap (λ ws. (b ∷ take (blank_at bs) bs) ∷ ws) (tail_words bs))

-- where bytes are left after the blanks, they begin with the first word
pub words-first : (bs : List ℕ) → 0 < length (drop (word_at bs) bs) →
    words bs ≡ take (blank_at (drop (word_at bs) bs)) (drop (word_at bs) bs) ∷ words (drop (blank_at (drop (word_at bs) bs)) (drop (word_at bs) bs))
words-first bs l = sym (words-drop_blanks bs) ∙ words-at (drop (word_at bs) bs) (drop_blanks-at bs) l

-- where none are left, there are no words
pub words-none : (bs : List ℕ) → length (drop (word_at bs) bs) ≡ 0 → words bs ≡ []
words-none bs e = sym (words-drop_blanks bs) ∙ empty_words (drop (word_at bs) bs) e

-- the first place that passes is a place of the list
position-is : (p : ℕ → Bool) (bs : List ℕ) (i : ℕ) → position p bs ≡ Some i → (position_or_len p bs ≡ i) × (i < length bs)
position-is p bs i e =
    let found = cond_some (nat_lt (position_or_len p bs) (length bs)) (position_or_len p bs) i e in
    (found.1, omega (arith, ltb-true (position_or_len p bs) (length bs) found.0))

-- where none passes, the first place is the end
pub position-or : (p : ℕ → Bool) (bs : List ℕ) → unwrap_or (position p bs) (length bs) ≡ position_or_len p bs
position-or p bs =
    elim (nat_lt (position_or_len p bs) (length bs)) as (λ t. nat_lt (position_or_len p bs) (length bs) ≡ t → unwrap_or (cond t (Some (position_or_len p bs)) None) (length bs) ≡ position_or_len p bs) [
      | true ↦ λ e. refl
      | false ↦ λ e. omega (arith, ltb-false (position_or_len p bs) (length bs) e, prefix_len-le-length (λ b. not (p b)) bs)
    ] refl

-- the first word, and the words after it
pub words-found : (bs tail : List ℕ) (i : ℕ) → position (λ b. not (is_blank b)) bs ≡ Some i → tail ≡ drop i bs →
    words bs ≡ take (unwrap_or (position is_blank tail) (length tail)) tail ∷ words (drop (unwrap_or (position is_blank tail) (length tail)) tail)
words-found bs tail i e same =
    let at = position-is (λ b. not (is_blank b)) bs i e in
    let whole : tail ≡ drop (word_at bs) bs = same ∙ ap (λ n. drop n bs) (sym at.0) in
    let some : 0 < length (drop (word_at bs) bs) = omega (arith, length-drop (word_at bs) bs) in
    rw (position-or is_blank tail, whole) (words-first bs some)

pub words-missing : (bs : List ℕ) → position (λ b. not (is_blank b)) bs ≡ None → words bs ≡ []
words-missing bs e =
    let end = ap (λ o. unwrap_or o (length bs)) e in
    words-none bs (omega (arith, position-or (λ b. not (is_blank b)) bs, length-drop (word_at bs) bs))

-- whether there is no word, by the first byte of one
pub words-tells : (bs : List ℕ) (start : Option ℕ) (b : Bool) → start ≡ position (λ c. not (is_blank c)) bs → is_some start ≡ not b →
    (IsTrue b → words bs ≡ []) × (words bs ≡ [] → IsTrue b)
words-tells bs None true e n = (λ _. words-missing bs (sym e), λ _. refl)
words-tells bs None false e n = cc
words-tells bs (Some i) true e n = cc
words-tells bs (Some i) false e n = (λ h. let never : false ≡ true = h in cc, λ none. let some = words-found bs (drop i bs) i (sym e) refl in cc)
