-- What walks along weighted edges cost at least, and conditions that tell so of a given answer.
use Rattle.std.specs.Prelude.{◌≡◌, ◌≢◌, ℕ, zero, suc, ◌+◌, ◌^◌, ◌<◌, ◌≤◌, ◌==◌, ◌&&◌, nat_lt, min, Bool, false, List, [], ◌∷◌, map, length, sum_by, Contains, Option, None, Some, if◌then◌else◌, slice_index_or}
use Rattle.std.specs.Option.{option_map, unwrap_or}
use Rattle.std.specs.List.{list_any, range_with_len}
use Rattle.lama_model.specs.declared.reach.Reach.{Reach}
use Rattle.lama_model.specs.Graph.{Graph}
use Rattle.lama_model.specs.Row.{row}
use Rattle.lama_model.specs.Levels.{first_from}

-- the steps are a walk from u to v: each is the target and the weight of an edge in the row of the vertex before it
abbrev pub IsRoute : (ℕ → List (ℕ × ℕ)) → ℕ → List (ℕ × ℕ) → ℕ → Type 0
IsRoute rows u [] v = u ≡ v
IsRoute rows u (p ∷ ps) v = Contains (rows u) p × IsRoute rows p.0 ps v

-- every edge leads to a vertex below the count
abbrev pub LeadsBelow : (ℕ → List (ℕ × ℕ)) → ℕ → Type 0
LeadsBelow rows count = (u : ℕ) (p : ℕ × ℕ) → Contains (rows u) p → p.0 < count

-- what a walk costs: the sum of its weights, and how many edges it has
pub record Cost : Type 0 where
  pub sum : ℕ
  pub hops : ℕ

-- a costs no more than b: sums count first, and where they are equal, edges
pub record IsNoMore (a b : Cost) : Type 0 where
  pub sums : a.sum ≤ b.sum
  pub edges : a.sum ≡ b.sum → a.hops ≤ b.hops

-- the cost with an edge of the weight w more
abbrev pub further : Cost → ℕ → Cost
further a w = record { sum = a.sum + w; hops = a.hops + 1 }

-- a walk from u to v costs c
pub record HasRoute (rows : ℕ → List (ℕ × ℕ)) (u v : ℕ) (c : Cost) : Type 0 where
  pub steps : List (ℕ × ℕ)
  pub walks : IsRoute rows u steps v
  pub sum : sum_by (λ (p : ℕ × ℕ). p.1) steps ≡ c.sum
  pub hops : length steps ≡ c.hops

-- c is the distance of v from s: the least cost of a walk from s to v
pub record IsDistance (rows : ℕ → List (ℕ × ℕ)) (s v : ℕ) (c : Cost) : Type 0 where
  pub reached : HasRoute rows s v c
  pub least : (d : Cost) → HasRoute rows s v d → IsNoMore c d

-- an edge leads from u to v, and with it the distance of u comes to c
pub record LeadsTo (rows : ℕ → List (ℕ × ℕ)) (s v : ℕ) (c : Cost) (u : ℕ) : Type 0 where
  pub cost : Cost
  pub distance : IsDistance rows s u cost
  pub weight : ℕ
  pub edge : Contains (rows u) (v, weight)
  pub comes : further cost weight ≡ c

-- p is the parent of v, whose distance is c: the least vertex that leads to it so, and for the source itself the source
pub record IsParent (rows : ℕ → List (ℕ × ℕ)) (s v : ℕ) (c : Cost) (p : ℕ) : Type 0 where
  pub source : v ≡ s → p ≡ s
  pub leads : v ≢ s → LeadsTo rows s v c p
  pub least : v ≢ s → (u : ℕ) → LeadsTo rows s v c u → p ≤ u

-- what is said of a vertex without its parent
abbrev pub cost_of : Reach → Cost
cost_of r = record { sum = r.sum; hops = r.hops }

-- how v is reached from s: by its distance and its parent, or not at all where no walk leads to it
abbrev pub IsReach : (ℕ → List (ℕ × ℕ)) → ℕ → ℕ → Option Reach → Type 0
IsReach rows s v None = (c : Cost) → HasRoute rows s v c → ⊥
IsReach rows s v (Some r) = IsDistance rows s v (cost_of r) × IsParent rows s v (cost_of r) r.parent

-- what is said of v
abbrev pub reach_at : List (Option Reach) → ℕ → Option Reach
reach_at reach v = slice_index_or reach v None

-- how all vertices are reached from s
pub record AreReached (g : Graph) (s : ℕ) (reach : List (Option Reach)) : Type 0 where
  pub len : length reach ≡ g.count
  pub each : (v : ℕ) → v < g.count → IsReach (row g) s v (reach_at reach v)

-- the lesser of two numbers that there may be
abbrev pub lesser : Option ℕ → Option ℕ → Option ℕ
lesser None b = b
lesser (Some a) None = Some a
lesser (Some a) (Some b) = Some (min a b)

-- the least number that the pairs give
abbrev pub least_of : (ℕ × ℕ → Option ℕ) → List (ℕ × ℕ) → Option ℕ
least_of f [] = None
least_of f (p ∷ ps) = lesser (f p) (least_of f ps)

-- the least sum of a walk of n edges from u to v
abbrev pub least_sum : (ℕ → List (ℕ × ℕ)) → ℕ → ℕ → ℕ → Option ℕ
least_sum rows zero u v = if u == v then Some 0 else None
least_sum rows (suc n) u v = least_of (λ p. option_map (λ sum. p.1 + sum) (least_sum rows n p.0 v)) (rows u)

-- the cheaper of two walks that there may be; the first has fewer edges
abbrev pub cheaper : Option Cost → Option Cost → Option Cost
cheaper None b = b
cheaper (Some a) None = Some a
cheaper (Some a) (Some b) = if nat_lt b.sum a.sum then Some b else Some a

-- the least cost of a walk of fewer than n edges from s to v
abbrev pub cost_within : (ℕ → List (ℕ × ℕ)) → ℕ → ℕ → ℕ → Option Cost
cost_within rows s v zero = None
cost_within rows s v (suc n) = cheaper (cost_within rows s v n) (option_map (λ sum. record { sum = sum; hops = n }) (least_sum rows n s v))

-- with an edge of the weight w the first cost comes to the second
abbrev pub comes_to : Option Cost → ℕ → Option Cost → Bool
comes_to (Some a) w (Some b) = (b.sum == a.sum + w) && (b.hops == a.hops + 1)
comes_to (Some a) w None = false
comes_to None w b = false

-- an edge leads from u to v, and with it the distance of u comes to that of v; there are count vertices
abbrev pub leads_to : (ℕ → List (ℕ × ℕ)) → ℕ → ℕ → ℕ → ℕ → Bool
leads_to rows count s v u = list_any (λ p. (p.0 == v) && comes_to (cost_within rows s u count) p.1 (cost_within rows s v count)) (rows u)

-- the parent of v among count vertices
abbrev pub parent : (ℕ → List (ℕ × ℕ)) → ℕ → ℕ → ℕ → ℕ
parent rows count s v = if v == s then s else unwrap_or (first_from (leads_to rows count s v) 0 count) s

-- how v is reached among count vertices: no least walk has as many edges as there are vertices
abbrev pub reach_of : (ℕ → List (ℕ × ℕ)) → ℕ → ℕ → ℕ → Option Reach
reach_of rows count s v = option_map (λ (c : Cost). record { sum = c.sum; hops = c.hops; parent = parent rows count s v }) (cost_within rows s v count)

-- how each of count vertices is reached, where they have these rows
abbrev pub reach_by : (ℕ → List (ℕ × ℕ)) → ℕ → ℕ → List (Option Reach)
reach_by rows count s = map (reach_of rows count s) (range_with_len 0 count)

-- how all vertices are reached from s
unfoldable pub distances : Graph → ℕ → List (Option Reach)
distances g s = reach_by (row g) g.count s

-- v is reached from its parent, by an edge that makes the cost of the one that of the other
pub record HasParent (rows : ℕ → List (ℕ × ℕ)) (reach : List (Option Reach)) (v : ℕ) (r : Reach) : Type 0 where
  pub before : Reach
  pub reached : reach_at reach r.parent ≡ Some before
  pub weight : ℕ
  pub edge : Contains (rows r.parent) (v, weight)
  pub comes : further (cost_of before) weight ≡ cost_of r

-- v is reached, and costs no more than c
pub record CostsNoMore (reach : List (Option Reach)) (v : ℕ) (c : Cost) : Type 0 where
  pub now : Reach
  pub reached : reach_at reach v ≡ Some now
  pub within : IsNoMore (cost_of now) c

-- the certificate: an answer for count vertices with these rows that meets it has the distances from s
pub record IsCertified (rows : ℕ → List (ℕ × ℕ)) (count s : ℕ) (reach : List (Option Reach)) : Type 0 where
  -- there is an entry for each vertex, and the source costs nothing
  pub len : length reach ≡ count
  pub source : reach_at reach s ≡ Some (record { sum = 0; hops = 0; parent = s })
  -- no walk is longer than one that meets each vertex once, by edges of 64 bits
  pub bounds : (v : ℕ) (r : Reach) → v < count → reach_at reach v ≡ Some r → (r.hops < count) × (r.sum < 2 ^ 86)
  -- what is reached is reached from its parent
  pub parents : (v : ℕ) (r : Reach) → v < count → v ≢ s → reach_at reach v ≡ Some r → HasParent rows reach v r
  -- and what is reached makes no neighbour cheaper
  pub edges : (u v w : ℕ) (q : Reach) → u < count → reach_at reach u ≡ Some q → Contains (rows u) (v, w) → CostsNoMore reach v (further (cost_of q) w)
