-- Labels that are lowered in rounds.
use Rattle.std.specs.Prelude.{◌≡◌, ℕ, suc, min, ◌<◌, ◌≤◌, nat_lt, Bool, false, List, [], ◌∷◌, All, length, sum, if◌then◌else◌, slice_index, slice_set}
use Rattle.lama_model.specs.Graph.{Graph}
use Rattle.lama_model.specs.Labels.{AreJoined}

-- the label of the label of a vertex
abbrev pub second : List ℕ → ℕ → ℕ
second ls v = slice_index ls (slice_index ls v)

-- the lower one of the labels of the labels of two vertices
abbrev pub lower_second : List ℕ → ℕ → ℕ → ℕ
lower_second ls u v = min (second ls u) (second ls v)

-- what an edge from u to v offers, as (vertex, label): that one to each of the two and to the label of each
abbrev pub offers : List ℕ → ℕ → ℕ → List (ℕ × ℕ)
offers ls u v =
    (u, lower_second ls u v) ∷ (slice_index ls u, lower_second ls u v) ∷ (v, lower_second ls u v) ∷ (slice_index ls v, lower_second ls u v) ∷ []

-- the offer is lower than the label of its vertex
abbrev pub is_lower : List ℕ → ℕ × ℕ → Bool
is_lower ls p = nat_lt p.1 (slice_index ls p.0)

-- an offer taken, where it is lower
abbrev pub take_one : ℕ × ℕ → List ℕ → List ℕ
take_one p ls = if is_lower ls p then slice_set ls p.0 p.1 else ls

-- these offers taken one after another
abbrev pub take_all : List (ℕ × ℕ) → List ℕ → List ℕ
take_all [] ls = ls
take_all (p ∷ ps) ls = take_all ps (take_one p ls)

-- the offers of an edge taken
abbrev pub take_edge : ℕ → ℕ → List ℕ → List ℕ
take_edge u v ls = take_all (offers ls u v) ls

-- the offers of these edges taken, one edge after another
abbrev pub take_edges : List (ℕ × ℕ) → List ℕ → List ℕ
take_edges [] ls = ls
take_edges (e ∷ es) ls = take_edges es (take_edge e.0 e.1 ls)

-- each of these vertices gets the label of its label, one after another
abbrev pub take_own : List ℕ → List ℕ → List ℕ
take_own [] ls = ls
take_own (v ∷ vs) ls = take_own vs (take_one (v, second ls v) ls)

-- each of these labels offered to its own vertex, which for the first is v
abbrev pub offered : ℕ → List ℕ → List (ℕ × ℕ)
offered v [] = []
offered v (l ∷ ls) = (v, l) ∷ offered (suc v) ls

-- each label is no greater than its vertex and joined to it
pub record AreLow (g : Graph) (ls : List ℕ) : Type 0 where
  pub len : length ls ≡ g.count
  pub each : (v : ℕ) → v < g.count → (slice_index ls v ≤ v) × AreJoined g (slice_index ls v) v

-- the ends of these edges are vertices of the graph that are joined
abbrev pub AreEdgesOf : Graph → List (ℕ × ℕ) → Type 0
AreEdgesOf g es = All (λ e. (e.0 < g.count) × (e.1 < g.count) × AreJoined g e.0 e.1) es

-- an edge from u to v offers nothing lower
abbrev pub IsEdgeSettled : List ℕ → ℕ → ℕ → Type 0
IsEdgeSettled ls u v = All (λ p. is_lower ls p ≡ false) (offers ls u v)

-- nor do these edges
abbrev pub AreSettled : List (ℕ × ℕ) → List ℕ → Type 0
AreSettled es ls = All (λ e. IsEdgeSettled ls e.0 e.1) es

-- the sum falls, or nothing changes and that is so
pub record IsLowered (ls ls' : List ℕ) (P : Type 0) : Type 0 where
  pub less : sum ls' ≤ sum ls
  pub same : sum ls' ≡ sum ls → (ls' ≡ ls) × P
