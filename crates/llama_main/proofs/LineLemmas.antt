-- The lines of bytes, from the first line on.
use Rattle.std.proofs.Common.{◌≡◌, ℕ, ◌<◌, Bool, true, false, List, [], ◌∷◌, ◌++◌, length, refl, ap, ◌∙◌, arith}
use Rattle.std.specs.List.{slice_split, onto_first, AllByRecursion}
use Rattle.std.proofs.lemmas.List.Elements.{recursion_from_All}
use Rattle.std.proofs.lemmas.List.Splits.{slice_split_at, slice_split_none, slice_split-cons_no, length-slice_split}
use Rattle.lama_model.specs.Script.{lines, is_line_feed, without_empty_last}
use Rattle.llama_main.specs.Stop.{HasNoFeed}

parts_after : (part : List ℕ) (parts : List (List ℕ)) → 0 < length parts → without_empty_last (part ∷ parts) ≡ part ∷ without_empty_last parts
parts_after part [] h = absurd (omega arith)
parts_after part (next ∷ parts) h = refl

-- a line that ends, and the lines after it
pub lines-line : (line more : List ℕ) → HasNoFeed line → lines (line ++ 10 ∷ more) ≡ line ∷ lines more
unfolding lines
lines-line line more none =
    ap without_empty_last (slice_split_at is_line_feed line 10 more none refl) ∙ parts_after line (slice_split is_line_feed more) (omega (arith, length-slice_split is_line_feed more))

pub lines-nil : lines [] ≡ []
unfolding lines
lines-nil = refl

-- a last line without its line feed
pub lines-last : (line : List ℕ) → HasNoFeed line → 0 < length line → lines line ≡ line ∷ []
unfolding lines
lines-last [] none h = absurd (omega arith)
lines-last (b ∷ bs) none h = ap without_empty_last (slice_split_none is_line_feed (b ∷ bs) none)

split_first : (line : List ℕ) (part : List ℕ) (parts : List (List ℕ)) (more : List ℕ) → AllByRecursion (λ b. is_line_feed b ≡ false) line → slice_split is_line_feed more ≡ part ∷ parts → slice_split is_line_feed (line ++ more) ≡ (line ++ part) ∷ parts
split_first [] part parts more none is = is
split_first (b ∷ bs) part parts more none is =
    slice_split-cons_no is_line_feed b (bs ++ more) none.0 ∙ ap (onto_first b) (split_first bs part parts more none.1 is)

split_cons : (ps : List (List ℕ)) → 0 < length ps → (part : List ℕ) × ((parts : List (List ℕ)) × (ps ≡ part ∷ parts))
split_cons [] h = absurd (omega arith)
split_cons (p ∷ ps) h = (p, (ps, refl))

first_stays : (b : ℕ) (bs : List ℕ) (parts : List (List ℕ)) → (rest : List (List ℕ)) × (without_empty_last ((b ∷ bs) ∷ parts) ≡ (b ∷ bs) ∷ rest)
first_stays b bs [] = ([], refl)
first_stays b bs (p ∷ ps) = (without_empty_last (p ∷ ps), refl)

-- a line that has begun: what comes is its rest, and then other lines
pub record Begun (line more : List ℕ) : Type 0 where
  pub part : List ℕ
  pub rest : List (List ℕ)
  pub is : lines (line ++ more) ≡ (line ++ part) ∷ rest

pub lines-begun : (line more : List ℕ) → HasNoFeed line → 0 < length line → Begun line more
unfolding lines
lines-begun [] more none h = absurd (omega arith)
lines-begun (b ∷ bs) more none h =
    let cut = split_cons (slice_split is_line_feed more) (omega (arith, length-slice_split is_line_feed more)) in
    let whole = split_first (b ∷ bs) cut.0 cut.1.0 more (recursion_from_All (λ b. is_line_feed b ≡ false) (b ∷ bs) none) cut.1.1 in
    let stays = first_stays b (bs ++ cut.0) cut.1.0 in
    record { part = cut.0; rest = stays.0; is = ap without_empty_last whole ∙ stays.1 }

-- where there is a byte there is a line
pub lines-some : (b : ℕ) (more : List ℕ) → (line : List ℕ) × ((rest : List (List ℕ)) × (lines (b ∷ more) ≡ line ∷ rest))
unfolding lines
lines-some b more = by (is_line_feed b) refl
  where
    by : (t : Bool) → is_line_feed b ≡ t → (line : List ℕ) × ((rest : List (List ℕ)) × (without_empty_last (slice_split is_line_feed (b ∷ more)) ≡ line ∷ rest))
    by true h =
        let cut = split_cons (slice_split is_line_feed more) (omega (arith, length-slice_split is_line_feed more)) in
        let whole : slice_split is_line_feed (b ∷ more) ≡ [] ∷ slice_split is_line_feed more = rw h refl in
        ([], (without_empty_last (slice_split is_line_feed more), ap without_empty_last whole ∙ parts_after [] (slice_split is_line_feed more) (omega (arith, length-slice_split is_line_feed more))))
    by false h =
        let cut = split_cons (slice_split is_line_feed more) (omega (arith, length-slice_split is_line_feed more)) in
        let whole = slice_split-cons_no is_line_feed b more h ∙ ap (onto_first b) cut.1.1 in
        let stays = first_stays b cut.0 cut.1.0 in
        (b ∷ cut.0, (stays.0, ap without_empty_last whole ∙ stays.1))
