-- What writes that name edges of one source make of its row.
use Rattle.std.specs.Prelude.{ℕ, ◌+◌, ◌==◌, List, [], ◌∷◌, ◌++◌, map, filter, not, if◌then◌else◌, Option, Some, None}
use Rattle.std.specs.List.{range_with_len}
use Rattle.lama_model.specs.Row.{row_at}
use Rattle.lama_model.specs.Change.{RowChange, is_empty_change}
use Rattle.lama_delta.specs.declared.edge_writes.EdgeWrite.{EdgeWrite}
use Rattle.lama_delta.specs.declared.edge_writes.Act.{Act}
use Rattle.lama_delta.specs.declared.edge_writes.Act.TheVariants.{Add, Remove, Weigh}
use Rattle.lama_delta.specs.declared.row_writes.Fate.{Fate}
use Rattle.lama_delta.specs.declared.row_writes.Fate.TheVariants.{Gone, Weight}
use Rattle.lama_delta.specs.EdgeWrites.{is_from}

-- what becomes of an edge that was there before such a write, where that is what the later ones do
abbrev pub fate_before : Act → Option Fate → Option Fate
fate_before (Add w) later = later
fate_before Remove later = Some Gone
fate_before (Weigh w) None = Some (Weight w)
fate_before (Weigh w) (Some f) = Some f

-- what the writes, oldest first, make of an edge to v that was there before them: None where they leave it as it is
abbrev pub fate_of : List EdgeWrite → ℕ → Option Fate
fate_of [] v = None
fate_of (e ∷ es) v = if e.target == v then fate_before e.act (fate_of es v) else fate_of es v

-- the edge that a write adds, where the later ones leave it, with the weight that they give it
abbrev pub new_pair : Act → ℕ → Option Fate → List (ℕ × ℕ)
new_pair (Add w) v None = (v, w) ∷ []
new_pair (Add w) v (Some Gone) = []
new_pair (Add w) v (Some (Weight x)) = (v, x) ∷ []
new_pair Remove v later = []
new_pair (Weigh w) v later = []

-- what the writes leave of the edges that they add, newest first
abbrev pub left_of : List EdgeWrite → List (ℕ × ℕ)
left_of [] = []
left_of (e ∷ es) = left_of es ++ new_pair e.act e.target (fate_of es e.target)

-- the index of an old edge, where it is gone
abbrev pub gone_here : ℕ → Option Fate → List ℕ
gone_here i None = []
gone_here i (Some Gone) = i ∷ []
gone_here i (Some (Weight x)) = []

-- its index with its new weight, where that is another
abbrev pub set_here : ℕ → ℕ → Option Fate → List (ℕ × ℕ)
set_here i w None = []
set_here i w (Some Gone) = []
set_here i w (Some (Weight x)) = if x == w then [] else (i, x) ∷ []

-- the indexes, from i on, of the old edges that are gone, by what becomes of those to each target
abbrev pub gone_from : ℕ → (ℕ → Option Fate) → List (ℕ × ℕ) → List ℕ
gone_from i fate [] = []
gone_from i fate (p ∷ row) = gone_here i (fate p.0) ++ gone_from (i + 1) fate row

-- and those of the old edges that have another weight, with it
abbrev pub set_from : ℕ → (ℕ → Option Fate) → List (ℕ × ℕ) → List (ℕ × ℕ)
set_from i fate [] = []
set_from i fate (p ∷ row) = set_here i p.1 (fate p.0) ++ set_from (i + 1) fate row

-- what the writes make of the row of u
abbrev pub change_of : ℕ → List EdgeWrite → List (ℕ × ℕ) → RowChange
change_of u writes row = record { source = u; added = left_of writes; killed = gone_from 0 (fate_of writes) row; set = set_from 0 (fate_of writes) row }

-- what the writes make of the row of u among all rows
abbrev pub change_at : List (List (ℕ × ℕ)) → List EdgeWrite → ℕ → RowChange
change_at rows writes u = change_of u (filter (is_from u) writes) (row_at rows u)

-- the changed rows of the sources below n
abbrev pub changes_below : List (List (ℕ × ℕ)) → List EdgeWrite → ℕ → List RowChange
changes_below rows writes n = filter (λ c. not (is_empty_change c)) (map (change_at rows writes) (range_with_len 0 n))
