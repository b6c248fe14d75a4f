use Rattle.std.proofs.Common.{◌≡◌, ◌∙◌, ◌<◌, ◌≤◌, ◌⊎◌, ◌/◌, ◌%◌, ℕ, List, inl, inr, eqb, false, length, ap, arith, get_or}
use Rattle.std.proofs.lemmas.Bool.{cases_lt}
use Rattle.std.proofs.lemmas.List.{get_or_past}
use Rattle.std.proofs.lemmas.Nat.Bits.{bit_at-zero}
use Rattle.std.specs.Int.{bit_at}
use Rattle.lama_paths.specs.Marks.{is_set}
use Rattle.lama_paths.proofs.marks.clear.Goals as goal

none-set : (words : List ℕ) (n : ℕ) → length words ≤ n → ((k : ℕ) → k < n → get_or words k 0 ≡ 0) → (v : ℕ) → is_set words v ≡ false
unfolding is_set
none-set words n all zero v = ap (λ word. eqb (bit_at word (v % 64)) 1) (by (cases_lt (v / 64) n)) ∙ ap (λ bit. eqb bit 1) (bit_at-zero (v % 64))
  where
    by : (v / 64 < n) ⊎ (n ≤ v / 64) → get_or words (v / 64) 0 ≡ 0
    by (inl lt) = zero (v / 64) lt
    by (inr le) = get_or_past words (v / 64) 0 (omega (arith, all, le))

pub returns : goal.returns
returns c = none-set c.loop-word.words c.loop-word.word-index (omega arith) c.loop-word.invariant
