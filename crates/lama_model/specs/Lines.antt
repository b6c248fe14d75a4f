-- The lines that a script's commands print. Each ends with a line feed, and has one blank between two words.
use Rattle.std.specs.Prelude.{ℕ, suc, ◌==◌, max, nat_eq, Bool, true, false, List, [], ◌∷◌, ◌++◌, length, map, fold, sum, codes, decimal, Option, None, Some, slice_index}
use Rattle.std.specs.List.{flat_map, filter_map, count_by}
use Rattle.std.specs.Option.{option_map}
use Rattle.std.specs.Set.{distinct_count}
use Rattle.lama_model.specs.Row.{edges_in}
use Rattle.lama_model.specs.Levels.{first_from}
use Rattle.lama_model.specs.declared.reach.Reach.{Reach}
use Rattle.lama_model.specs.Script.{End}
use Rattle.lama_model.specs.Script.End.{Whole, BadAt, TooMany}
use Rattle.lama_model.specs.declared.calls.Write.TheVariants.{Vertices}
use Rattle.lama_model.specs.declared.commands.Command.{Command}
use Rattle.lama_model.specs.declared.commands.Command.TheVariants.{Write as Writes, Checkpoint as Checkpoints, Merge as Merges, Retire as Retires}
use Rattle.lama_model.specs.declared.answers.Reply.{Reply}
use Rattle.lama_model.specs.declared.answers.Reply.TheVariants.{Count, Snapshot, Kept, Refused}
use Rattle.lama_model.specs.declared.answers.Refusal.{Refusal}
use Rattle.lama_model.specs.declared.answers.Refusal.TheVariants.{UnknownVertex, FullVertices, FullEdges, FullKept, FullNumbers, NoSnapshot}

-- what is printed in place of an answer
unfoldable pub refusal_line : Refusal → List ℕ
refusal_line (UnknownVertex vertex count) = codes "unknown vertex " ++ decimal vertex ++ codes " of " ++ decimal count ++ codes "\n"
refusal_line FullVertices = codes "full vertices\n"
refusal_line FullEdges = codes "full edges\n"
refusal_line FullKept = codes "full snapshots\n"
refusal_line FullNumbers = codes "full numbers\n"
refusal_line (NoSnapshot asked oldest newest) = codes "no snapshot " ++ decimal asked ++ codes " of " ++ decimal oldest ++ codes " " ++ decimal newest ++ codes "\n"

-- what is printed for a reply to a command that reads nothing
unfoldable pub reply_line : Command → Reply → List ℕ
reply_line command (Refused r) = refusal_line r
reply_line (Writes (Vertices n)) (Count count) = codes "vertices " ++ decimal count ++ codes "\n"
reply_line Checkpoints (Snapshot number) = codes "snapshot " ++ decimal number ++ codes "\n"
reply_line Merges (Snapshot number) = codes "merged " ++ decimal number ++ codes "\n"
reply_line (Retires k) (Kept oldest newest) = codes "kept " ++ decimal oldest ++ codes " " ++ decimal newest ++ codes "\n"
reply_line command reply = []

-- a blank, and the target and the weight of an edge
abbrev pub pair_text : ℕ × ℕ → List ℕ
pair_text p = codes " " ++ decimal p.0 ++ codes "/" ++ decimal p.1

-- a row of the snapshot k
unfoldable pub row_line : ℕ → ℕ → List (ℕ × ℕ) → List ℕ
row_line k v pairs = codes "row " ++ decimal k ++ codes " " ++ decimal v ++ codes " :" ++ flat_map pair_text pairs ++ codes "\n"

-- a blank and a target
abbrev pub target_text : ℕ → List ℕ
target_text t = codes " " ++ decimal t

-- the targets of the row of v in the graph of the number j, as the snapshot k tells them
unfoldable pub as_of_line : ℕ → ℕ → ℕ → List ℕ → List ℕ
as_of_line k j v targets = codes "asof " ++ decimal k ++ codes " " ++ decimal j ++ codes " " ++ decimal v ++ codes " :" ++ flat_map target_text targets ++ codes "\n"

-- an edge of the source u: its source, target and weight
abbrev pub edge_line : ℕ → ℕ × ℕ → List ℕ
edge_line u p = decimal u ++ codes " " ++ decimal p.0 ++ codes " " ++ decimal p.1 ++ codes "\n"

-- the edges of the rows from that of vertex u on
abbrev pub edge_lines : ℕ → List (List (ℕ × ℕ)) → List ℕ
edge_lines u [] = []
edge_lines u (r ∷ rows) = flat_map (edge_line u) r ++ edge_lines (suc u) rows

-- all edges of the snapshot k, with their number before them
unfoldable pub edges_lines : ℕ → List (List (ℕ × ℕ)) → List ℕ
edges_lines k rows = codes "edges " ++ decimal k ++ codes " " ++ decimal (edges_in rows) ++ codes "\n" ++ edge_lines 0 rows

-- the greatest of the numbers, or 0 where there is none
abbrev pub greatest : List ℕ → ℕ
greatest xs = fold max 0 xs

-- how many of the numbers are x
abbrev pub occurrences : List ℕ → ℕ → ℕ
occurrences xs x = count_by (λ y. y == x) xs

-- a line for each vertex from v on, with what is said of it
abbrev pub vertex_lines : {A : Type 0} → (A → List ℕ) → ℕ → List A → List ℕ
vertex_lines text v [] = []
vertex_lines text v (x ∷ xs) = decimal v ++ codes " " ++ text x ++ codes "\n" ++ vertex_lines text (suc v) xs

-- a number, or a dash where there is none
abbrev pub number_text : Option ℕ → List ℕ
number_text None = codes "-"
number_text (Some d) = decimal d

-- the levels that there are
abbrev pub found_levels : List (Option ℕ) → List ℕ
found_levels levels = filter_map (λ level. level) levels

-- the levels from s in the snapshot k, a vertex a line, or how many vertices are reached, their greatest level and the sum of all levels
unfoldable pub levels_text : ℕ → ℕ → List (Option ℕ) → Bool → List ℕ
levels_text k s levels false = codes "bfs " ++ decimal k ++ codes " " ++ decimal s ++ codes "\n" ++ vertex_lines number_text 0 levels
levels_text k s levels true =
    codes "bfs " ++ decimal k ++ codes " " ++ decimal s ++ codes " sum " ++ decimal (length (found_levels levels)) ++ codes " "
    ++ decimal (greatest (found_levels levels)) ++ codes " " ++ decimal (sum (found_levels levels)) ++ codes "\n"

-- how many different labels there are
abbrev pub count_labels : List ℕ → ℕ
count_labels labels = distinct_count nat_eq labels

-- the greatest number of vertices with one label
abbrev pub most_with_one : List ℕ → ℕ
most_with_one labels = greatest (map (occurrences labels) labels)

-- the labels in the snapshot k: how many there are and each vertex a line, or how many, how often the most frequent one stands and the sum of all
unfoldable pub labels_text : ℕ → List ℕ → Bool → List ℕ
labels_text k labels false = codes "labels " ++ decimal k ++ codes " " ++ decimal (count_labels labels) ++ codes "\n" ++ vertex_lines decimal 0 labels
labels_text k labels true =
    codes "labels " ++ decimal k ++ codes " sum " ++ decimal (count_labels labels) ++ codes " " ++ decimal (most_with_one labels) ++ codes " "
    ++ decimal (sum labels) ++ codes "\n"

-- the four numbers of the snapshot k: vertices, edges, the greatest out-degree, and vertices without out-edges
unfoldable pub degrees_line : ℕ → ℕ → ℕ → ℕ → ℕ → List ℕ
degrees_line k vertices edges most sinks =
    codes "degrees " ++ decimal k ++ codes " " ++ decimal vertices ++ codes " " ++ decimal edges ++ codes " " ++ decimal most ++ codes " "
    ++ decimal sinks ++ codes "\n"

-- the least vertex of the greatest rank, or none where there is no vertex
abbrev pub first_greatest : List ℕ → Option ℕ
first_greatest ranks = first_from (λ v. slice_index ranks v == greatest ranks) 0 (length ranks)

-- the ranks after so many rounds in the snapshot k: a vertex a line, or their sum, the least vertex of the greatest rank and that rank
unfoldable pub ranks_text : ℕ → ℕ → List ℕ → Bool → List ℕ
ranks_text k rounds ranks false = codes "rank " ++ decimal k ++ codes " " ++ decimal rounds ++ codes "\n" ++ vertex_lines decimal 0 ranks
ranks_text k rounds ranks true =
    codes "rank " ++ decimal k ++ codes " " ++ decimal rounds ++ codes " sum " ++ decimal (sum ranks) ++ codes " "
    ++ number_text (first_greatest ranks) ++ codes " " ++ decimal (greatest ranks) ++ codes "\n"

-- a distance's sum, its edges and the parent, or a dash where there is none
abbrev pub reach_text : Option Reach → List ℕ
reach_text None = codes "-"
reach_text (Some r) = decimal r.sum ++ codes " " ++ decimal r.hops ++ codes " " ++ decimal r.parent

-- the sums of the distances that there are
abbrev pub found_sums : List (Option Reach) → List ℕ
found_sums reach = filter_map (λ r. option_map (λ (q : Reach). q.sum) r) reach

-- the distances from s in the snapshot k, a vertex a line, or how many vertices are reached, their greatest sum and all sums together
unfoldable pub distances_text : ℕ → ℕ → List (Option Reach) → Bool → List ℕ
distances_text k s reach false = codes "dist " ++ decimal k ++ codes " " ++ decimal s ++ codes "\n" ++ vertex_lines reach_text 0 reach
distances_text k s reach true =
    codes "dist " ++ decimal k ++ codes " " ++ decimal s ++ codes " sum " ++ decimal (length (found_sums reach)) ++ codes " "
    ++ decimal (greatest (found_sums reach)) ++ codes " " ++ decimal (sum (found_sums reach)) ++ codes "\n"

-- the last line, for a run whose journal has that many entries
unfoldable pub last_line : ℕ → End → List ℕ
last_line entries Whole = codes "end " ++ decimal entries ++ codes "\n"
last_line entries (BadAt n) = codes "bad line " ++ decimal n ++ codes "\n"
last_line entries TooMany = codes "too many lines\n"

-- where the words of the command line are not in the grammar
unfoldable pub usage_line : List ℕ
usage_line = codes "usage\n"
