-- Texts that are appended piece by piece.
use Rattle.std.proofs.Common.{◌≡◌, sym, ap, ◌∙◌, ℕ, List, ◌++◌, length, sum, true, false, Option, Result, Ok, Err, OnOk, append_assoc, codes, decimal}
use Rattle.lama_model.specs.Row.{edges_in}
use Rattle.lama_model.specs.Lines.{refusal_line, edges_lines, edge_lines, levels_text, labels_text, vertex_lines, number_text, found_levels, greatest, first_greatest, count_labels, most_with_one, degrees_line, ranks_text, found_sums, distances_text}
use Rattle.lama_model.specs.declared.reach.Reach.{Reach}
use Rattle.lama_model.specs.declared.answers.Refusal.TheVariants.{UnknownVertex, NoSnapshot}

-- a piece after what was appended before
pub appended : (old front middle back new : List ℕ) → middle ≡ old ++ front → new ≡ middle ++ back → new ≡ old ++ (front ++ back)
appended old front middle back new m n = n ∙ ap (λ l. l ++ back) m ∙ append_assoc old front back

-- the last piece, which may be refused
pub appended_last : {T E : Type 0} (r : Result T E) (old front middle back new whole : List ℕ) →
    middle ≡ old ++ front → whole ≡ front ++ back → OnOk r (new ≡ middle ++ back) → OnOk r (new ≡ old ++ whole)
appended_last (Ok x) old front middle back new whole m w n = appended old front middle back new m n ∙ ap (λ l. old ++ l) (sym w)
appended_last (Err e) old front middle back new whole m w n = n

in_pairs : (a b c d e f g : List ℕ) → (((((a ++ b) ++ c) ++ d) ++ e) ++ f) ++ g ≡ (((a ++ b) ++ (c ++ d)) ++ (e ++ f)) ++ g
in_pairs a b c d e f g = simp append_assoc

in_threes : (a b c d e f : List ℕ) → a ++ b ++ c ++ d ++ e ++ f ≡ ((a ++ b) ++ (c ++ d ++ e)) ++ f
in_threes a b c d e f = simp append_assoc

pub unknown-pieces : (vertex count : ℕ) → refusal_line (UnknownVertex vertex count) ≡
    ((codes "unknown vertex " ++ decimal vertex) ++ (codes " of " ++ decimal count)) ++ codes "\n"
unfolding refusal_line
unknown-pieces vertex count = simp append_assoc

pub missing-pieces : (asked oldest newest : ℕ) → refusal_line (NoSnapshot asked oldest newest) ≡
    (((codes "no snapshot " ++ decimal asked) ++ (codes " of " ++ decimal oldest)) ++ (codes " " ++ decimal newest)) ++ codes "\n"
unfolding refusal_line
missing-pieces asked oldest newest = in_pairs (codes "no snapshot ") (decimal asked) (codes " of ") (decimal oldest) (codes " ") (decimal newest) (codes "\n")

pub edges-pieces : (k : ℕ) (rows : List (List (ℕ × ℕ))) → edges_lines k rows ≡
    ((codes "edges " ++ decimal k) ++ (codes " " ++ decimal (edges_in rows) ++ codes "\n")) ++ edge_lines 0 rows
unfolding edges_lines
edges-pieces k rows = in_threes (codes "edges ") (decimal k) (codes " ") (decimal (edges_in rows)) (codes "\n") (edge_lines 0 rows)

behind_one : (a b e f i g h j : List ℕ) → a ++ b ++ e ++ f ++ i ++ g ++ i ++ h ++ j ≡ (a ++ b) ++ (e ++ f ++ i ++ g ++ i ++ h ++ j)
behind_one a b e f i g h j = simp append_assoc

behind_two : (a b c d e f i g h j : List ℕ) → a ++ b ++ c ++ d ++ e ++ f ++ i ++ g ++ i ++ h ++ j ≡ ((a ++ b) ++ (c ++ d)) ++ (e ++ f ++ i ++ g ++ i ++ h ++ j)
behind_two a b c d e f i g h j = simp append_assoc

-- three numbers that sum something up, and the line's end
abbrev pub totals_text : ℕ → ℕ → ℕ → List ℕ
totals_text first second third = codes " sum " ++ decimal first ++ codes " " ++ decimal second ++ codes " " ++ decimal third ++ codes "\n"

pub level_sum-pieces : (k s : ℕ) (levels : List (Option ℕ)) → levels_text k s levels true ≡
    ((codes "bfs " ++ decimal k) ++ (codes " " ++ decimal s)) ++ totals_text (length (found_levels levels)) (greatest (found_levels levels)) (sum (found_levels levels))
unfolding levels_text
level_sum-pieces k s levels = behind_two (codes "bfs ") (decimal k) (codes " ") (decimal s) (codes " sum ") (decimal (length (found_levels levels))) (codes " ") (decimal (greatest (found_levels levels))) (decimal (sum (found_levels levels))) (codes "\n")

pub labels-pieces : (k : ℕ) (labels : List ℕ) → labels_text k labels false ≡
    ((codes "labels " ++ decimal k) ++ (codes " " ++ decimal (count_labels labels) ++ codes "\n")) ++ vertex_lines decimal 0 labels
unfolding labels_text
labels-pieces k labels = in_threes (codes "labels ") (decimal k) (codes " ") (decimal (count_labels labels)) (codes "\n") (vertex_lines decimal 0 labels)

pub label_sum-pieces : (k : ℕ) (labels : List ℕ) → labels_text k labels true ≡
    (codes "labels " ++ decimal k) ++ totals_text (count_labels labels) (most_with_one labels) (sum labels)
unfolding labels_text
label_sum-pieces k labels = behind_one (codes "labels ") (decimal k) (codes " sum ") (decimal (count_labels labels)) (codes " ") (decimal (most_with_one labels)) (decimal (sum labels)) (codes "\n")

in_fives : (a b c d e f g h i j k : List ℕ) → a ++ b ++ c ++ d ++ e ++ f ++ g ++ h ++ i ++ j ++ k ≡ ((((a ++ b) ++ (c ++ d)) ++ (e ++ f)) ++ (g ++ h)) ++ (i ++ j ++ k)
in_fives a b c d e f g h i j k = simp append_assoc

pub degrees-pieces : (k n m x z : ℕ) → degrees_line k n m x z
    ≡ ((((codes "degrees " ++ decimal k) ++ (codes " " ++ decimal n)) ++ (codes " " ++ decimal m)) ++ (codes " " ++ decimal x)) ++ (codes " " ++ decimal z ++ codes "\n")
unfolding degrees_line
degrees-pieces k n m x z = in_fives (codes "degrees ") (decimal k) (codes " ") (decimal n) (codes " ") (decimal m) (codes " ") (decimal x) (codes " ") (decimal z) (codes "\n")

in_fours : (a b c d e f g h i j k : List ℕ) → a ++ b ++ c ++ d ++ e ++ f ++ g ++ h ++ i ++ j ++ k ≡ (((a ++ b) ++ (c ++ d)) ++ (e ++ f)) ++ (g ++ h ++ i ++ j ++ k)
in_fours a b c d e f g h i j k = simp append_assoc

pub rank_sum-pieces : (k rounds : ℕ) (ranks : List ℕ) → ranks_text k rounds ranks true
    ≡ (((codes "rank " ++ decimal k) ++ (codes " " ++ decimal rounds)) ++ (codes " sum " ++ decimal (sum ranks))) ++ (codes " " ++ number_text (first_greatest ranks) ++ codes " " ++ decimal (greatest ranks) ++ codes "\n")
unfolding ranks_text
rank_sum-pieces k rounds ranks = in_fours (codes "rank ") (decimal k) (codes " ") (decimal rounds) (codes " sum ") (decimal (sum ranks)) (codes " ") (number_text (first_greatest ranks)) (codes " ") (decimal (greatest ranks)) (codes "\n")

in_sixes : (a b c d e f g h i j : List ℕ) → a ++ b ++ c ++ d ++ e ++ f ++ g ++ h ++ g ++ i ++ j ≡ (((((a ++ b) ++ (c ++ d)) ++ (e ++ f)) ++ (g ++ h)) ++ (g ++ i)) ++ j
in_sixes a b c d e f g h i j = simp append_assoc

pub distance_sum-pieces : (k s : ℕ) (reach : List (Option Reach)) → distances_text k s reach true
    ≡ (((((codes "dist " ++ decimal k) ++ (codes " " ++ decimal s)) ++ (codes " sum " ++ decimal (length (found_sums reach)))) ++ (codes " " ++ decimal (greatest (found_sums reach)))) ++ (codes " " ++ decimal (sum (found_sums reach)))) ++ codes "\n"
unfolding distances_text
distance_sum-pieces k s reach = in_sixes (codes "dist ") (decimal k) (codes " ") (decimal s) (codes " sum ") (decimal (length (found_sums reach))) (codes " ") (decimal (greatest (found_sums reach))) (decimal (sum (found_sums reach))) (codes "\n")
