-- What changes from one graph to the next, source by source.
use Rattle.std.specs.Prelude.{◌≡◌, ℕ, ◌+◌, ◌-◌, ◌<◌, ◌==◌, ◌&&◌, All, Bool, not, is_none, List, [], ◌∷◌, ◌++◌, length, map, filter, reverse, take, fold, if◌then◌else◌, Option, Some, None}
use Rattle.std.specs.List.{enumerate_from, range_with_len}
use Rattle.std.specs.List.Sorted.{IsStrictlyIncreasing}
use Rattle.lama_base.specs.declared.Edge.{Edge}
use Rattle.lama_model.specs.declared.calls.Write.{Write}
use Rattle.lama_model.specs.declared.calls.Write.TheVariants.{Vertices, Add, Remove, Weigh}
use Rattle.lama_model.specs.Graph.{Graph, effect, joins, with_weight}
use Rattle.lama_model.specs.Row.{row, graph_of_rows}

-- what changes in the row of one source. An index counts the pairs of the row before, 0 being the newest
pub record RowChange : Type 0 where
  pub source : ℕ
  -- the new targets and weights, newest first
  pub added : List (ℕ × ℕ)
  -- the indexes of the edges that are gone, rising
  pub killed : List ℕ
  -- the indexes of the edges that have a new weight, with that weight, rising
  pub set : List (ℕ × ℕ)

-- what changes in a graph: the number and the count of vertices afterwards, and the changed rows, their sources rising
pub record Change : Type 0 where
  pub number : ℕ
  pub count : ℕ
  pub rows : List RowChange

-- the index is one of the list
abbrev pub has_index : ℕ → List ℕ → Bool
has_index i [] = Bool.false
has_index i (k ∷ ks) = if k == i then Bool.true else has_index i ks

-- the weight that the list sets at the index, or the old one where it sets none
abbrev pub weight_set : ℕ → List (ℕ × ℕ) → ℕ → ℕ
weight_set i [] old = old
weight_set i (p ∷ ps) old = if p.0 == i then p.1 else weight_set i ps old

-- a row from its index i on, without the killed pairs and with the set weights
abbrev pub surviving : ℕ → List ℕ → List (ℕ × ℕ) → List (ℕ × ℕ) → List (ℕ × ℕ)
surviving i killed set [] = []
surviving i killed set (p ∷ ps) =
    if has_index i killed then surviving (i + 1) killed set ps
    else (p.0, weight_set i set p.1) ∷ surviving (i + 1) killed set ps

-- the row after a change of it
abbrev pub row_done : RowChange → List (ℕ × ℕ) → List (ℕ × ℕ)
row_done c r = c.added ++ surviving 0 c.killed c.set r

-- the row of the source v after the changes of rows
abbrev pub row_after : List RowChange → ℕ → List (ℕ × ℕ) → List (ℕ × ℕ)
row_after [] v r = r
row_after (c ∷ cs) v r = if c.source == v then row_done c r else row_after cs v r

-- the row of the source v after changes, oldest first
abbrev pub row_through : List Change → ℕ → List (ℕ × ℕ) → List (ℕ × ℕ)
row_through changes v r = fold (λ r c. row_after c.rows v r) r changes

-- the graph after the change, by its rows
abbrev pub changed : Graph → Change → Graph
changed g c = graph_of_rows (map (λ v. row_after c.rows v (row g v)) (range_with_len 0 c.count))

-- the graph after the writes, oldest first
abbrev pub graph_after : List Write → Graph → Graph
graph_after writes g = fold (λ h w. effect w h) g writes

-- edges with the numbers by which they are known, and the number of the next edge that is added
pub record Numbered : Type 0 where
  pub edges : List (ℕ × Edge)
  pub next : ℕ

-- the edges of a graph are numbered from 0 in their order
abbrev pub numbered : Graph → Numbered
numbered g = record { edges = enumerate_from 0 g.edges; next = length g.edges }

-- the effect of a write on numbered edges: an edge that it keeps keeps its number, and one that it adds gets the next
abbrev pub numbered_effect : Write → Numbered → Numbered
numbered_effect (Vertices n) t = t
numbered_effect (Add u v w) t = record { edges = t.edges ++ (t.next, record { source = u; target = v; weight = w }) ∷ []; next = t.next + 1 }
numbered_effect (Remove u v) t = record t { edges = filter (λ p. not (joins u v p.1)) t.edges }
numbered_effect (Weigh u v w) t = record t { edges = map (λ p. (p.0, if joins u v p.1 then with_weight w p.1 else p.1)) t.edges }

-- the numbered edges after the writes, oldest first
abbrev pub numbered_after : List Write → Graph → Numbered
numbered_after writes g = fold (λ t w. numbered_effect w t) (numbered g) writes

-- the weight of the edge of that number, where there is one
abbrev pub weight_of : ℕ → List (ℕ × Edge) → Option ℕ
weight_of n [] = None
weight_of n (p ∷ ps) = if p.0 == n then Some p.1.weight else weight_of n ps

-- the row of u with the edges' numbers, newest first
abbrev pub numbered_row : Graph → ℕ → List (ℕ × Edge)
numbered_row g u = reverse (filter (λ p. p.1.source == u) (enumerate_from 0 g.edges))

-- the indexes, from i on, of the edges of a row whose numbers no later edge has
abbrev pub indexes_gone : ℕ → List (ℕ × Edge) → List (ℕ × Edge) → List ℕ
indexes_gone i later [] = []
indexes_gone i later (p ∷ ps) =
    if is_none (weight_of p.0 later) then i ∷ indexes_gone (i + 1) later ps else indexes_gone (i + 1) later ps

-- an index with the later weight, where that is another
abbrev pub with_new_weight : ℕ → ℕ → Option ℕ → List (ℕ × ℕ) → List (ℕ × ℕ)
with_new_weight i old None rest = rest
with_new_weight i old (Some w) rest = if w == old then rest else (i, w) ∷ rest

-- the indexes, from i on, of the edges of a row that have another weight later, with that weight
abbrev pub indexes_reweighed : ℕ → List (ℕ × Edge) → List (ℕ × Edge) → List (ℕ × ℕ)
indexes_reweighed i later [] = []
indexes_reweighed i later (p ∷ ps) = with_new_weight i p.1.weight (weight_of p.0 later) (indexes_reweighed (i + 1) later ps)

-- what the writes change in the row of u: gone is what no edge's number has any more, reweighed what has another weight, and added all that stands before the edges that stayed
unfoldable pub row_change : Graph → List Write → ℕ → RowChange
row_change g writes u =
    let later = (numbered_after writes g).edges in
    let old = numbered_row g u in
    let new = row (graph_after writes g) u in
    let gone = indexes_gone 0 later old in
    record {
      source = u;
      added = take (length new - (length old - length gone)) new;
      killed = gone;
      set = indexes_reweighed 0 later old;
    }

-- nothing changes
abbrev pub is_empty_change : RowChange → Bool
is_empty_change c = (length c.added == 0) && (length c.killed == 0) && (length c.set == 0)

-- the changed rows among those of count sources
abbrev pub changed_rows : Graph → List Write → ℕ → List RowChange
changed_rows g writes count = filter (λ c. not (is_empty_change c)) (map (row_change g writes) (range_with_len 0 count))

-- the change that the writes make of a graph, with a number and a count of vertices
abbrev pub change_to : Graph → List Write → ℕ → ℕ → Change
change_to g writes number count = record { number = number; count = count; rows = changed_rows g writes count }

-- the change that the writes make of a graph, with its number
abbrev pub change_between : Graph → List Write → ℕ → Change
change_between g writes number = change_to g writes number (graph_after writes g).count

-- a change of one row says something, of vertices below the count, and its indexes rise and are named once
pub record IsRowChange (count : ℕ) (c : RowChange) : Type 0 where
  pub source : c.source < count
  pub targets : All (λ p. p.0 < count) c.added
  pub killed : IsStrictlyIncreasing c.killed
  pub set : IsStrictlyIncreasing (map (λ (p : ℕ × ℕ). p.0) c.set)
  pub apart : All (λ p. has_index p.0 c.killed ≡ Bool.false) c.set
  pub some : is_empty_change c ≡ Bool.false

-- the changed rows are such changes, their sources rising
pub record IsChange (c : Change) : Type 0 where
  pub rising : IsStrictlyIncreasing (map (λ (r : RowChange). r.source) c.rows)
  pub rows : All (IsRowChange c.count) c.rows
