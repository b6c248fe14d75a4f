-- Columns that hold most values in a word narrower than the value, and the others beside the words.
use Rattle.std.specs.Prelude.{ℕ, ◌+◌, ◌-◌, ◌<◌, ◌==◌, ◌&&◌, nat_lt, Bool, not, List, [], ◌∷◌, Option, None, Some, if◌then◌else◌}
use Rattle.std.specs.Option.{unwrap_or}

-- the value that stands beside the words for a place, where there are such values and one is of that place
abbrev pub wide_at : {M : Type 0} → (M → ℕ → Option ℕ) → Option M → ℕ → Option ℕ
wide_at get None i = None
wide_at get (Some map) i = get map i

-- the value of a word: what it stands for, but for the greatest word, whose value stands beside the words
abbrev pub value_at : (ℕ → ℕ) → ℕ → Option ℕ → ℕ → ℕ
value_at meant greatest beside w = if w == greatest then unwrap_or beside 0 else meant w

-- the values of these words, of which the first is at place i
abbrev pub values_from : (ℕ → ℕ) → ℕ → (ℕ → Option ℕ) → ℕ → List ℕ → List ℕ
values_from meant greatest wide i [] = []
values_from meant greatest wide i (w ∷ ws) = value_at meant greatest (wide i) w ∷ values_from meant greatest wide (i + 1) ws

-- the weights of these words
abbrev pub weights_in : (ℕ → Option ℕ) → List ℕ → List ℕ
weights_in wide words = values_from (λ w. w) 4294967295 wide 0 words

-- the word of a weight
abbrev pub weight_word : ℕ → ℕ
weight_word x = if nat_lt x 4294967295 then x else 4294967295

-- the place and the word of a weight
abbrev pub worded : ℕ × ℕ → ℕ × ℕ
worded p = (p.0, weight_word p.1)

-- the weight doesn't fit into a word
abbrev pub is_wide : ℕ → Bool
is_wide x = not (nat_lt x 4294967295)

-- what stands beside the words for place i after these weights are written, the last one of a place being the one that
-- stays
abbrev pub wide_after : ℕ → List (ℕ × ℕ) → Option ℕ → Option ℕ
wide_after i [] old = old
wide_after i (p ∷ ps) old = wide_after i ps (if (p.0 == i) && is_wide p.1 then Some p.1 else old)

-- the mark of a word, where marks are counted from a number on
abbrev pub mark_of : ℕ → ℕ → ℕ
mark_of below w = if w == 0 then 0 else below + w

-- what stands beside the words is one less than the mark, so that such a mark is never 0
abbrev pub marks_beside : (ℕ → Option ℕ) → ℕ → Option ℕ
marks_beside wide i = Some (unwrap_or (wide i) 0 + 1)

-- the marks of these words
abbrev pub marks_in : ℕ → (ℕ → Option ℕ) → List ℕ → List ℕ
marks_in below wide words = values_from (mark_of below) 65535 (marks_beside wide) 0 words

-- the word of a mark
abbrev pub mark_word : ℕ → ℕ → ℕ
mark_word below x = if x == 0 then 0 else (if nat_lt below x && nat_lt (x - below) 65535 then x - below else 65535)
