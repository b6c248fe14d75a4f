-- What is known while distances are searched: some vertices are settled, and the others wait in order of what they cost so far.
use Rattle.std.specs.Prelude.{◌≡◌, ◌≢◌, ℕ, ◌+◌, ◌*◌, ◌-◌, ◌^◌, ◌<◌, ◌≤◌, ◌⊎◌, Bool, true, false, List, ◌∷◌, length, count_by, Contains, Option, Some, map, slice_index_or}
use Rattle.std.specs.declared.cmp.Reverse.{Reverse}
use Rattle.std.specs.Option.{option_map}
use Rattle.lama_model.specs.declared.reach.Reach.{Reach}
use Rattle.lama_model.specs.Row.{row_at, edges_in}
use Rattle.lama_model.specs.Distances.{Cost, IsNoMore, HasParent, further, cost_of, reach_at}
use Rattle.lama_paths.specs.declared.search.Offer.{Offer}
use Rattle.lama_paths.specs.declared.search.Step.{Step}
use Rattle.lama_paths.specs.declared.search.Stop.{Stop}
use Rattle.lama_paths.specs.declared.search.Stop.TheVariants.{NoMemory, TooGreat}

-- an offer as numbers: the vertex is reached at this cost
pub record Bid : Type 0 where
  pub sum : ℕ
  pub hops : ℕ
  pub vertex : ℕ

-- how a vertex is reached, where sums have these values
abbrev pub tell : {S : Type 0} → (S → ℕ) → Step S → Reach
tell value r = record { sum = value r.sum; hops = r.hops; parent = r.parent }

-- how all vertices are
abbrev pub told : {S : Type 0} → (S → ℕ) → List (Option (Step S)) → List (Option Reach)
told value reach = map (option_map (tell value)) reach

-- an offer as numbers, where sums have these values
abbrev pub bid : {S : Type 0} → (S → ℕ) → Reverse (Offer S) → Bid
bid value o = record { sum = value o.0.sum; hops = o.0.hops; vertex = o.0.vertex }

-- all of them
abbrev pub bids : {S : Type 0} → (S → ℕ) → List (Reverse (Offer S)) → List Bid
bids value offers = map (bid value) offers

-- a search ends for want of memory, or where its sums are narrower than a least sum may be
abbrev pub IsCause : ℕ → Stop → Type 0
IsCause most NoMemory = Unit {0}
IsCause most TooGreat = most < 2 ^ 86

-- the vertex is settled
abbrev pub is_settled : List Bool → ℕ → Bool
is_settled settled v = slice_index_or settled v false

-- how many are
abbrev pub settled_count : List Bool → ℕ
settled_count settled = count_by (λ b. b) settled

-- what an offer says that its vertex costs
abbrev pub price : Bid → Cost
price o = record { sum = o.sum; hops = o.hops }

-- the offer to reach v at this cost
abbrev pub offer : Cost → ℕ → Bid
offer c v = record { sum = c.sum; hops = c.hops; vertex = v }

-- an edge of the weight w from x, which is reached as q, makes v no cheaper, and makes no lesser vertex its parent
pub record IsRelaxed (reach : List (Option Reach)) (v : ℕ) (q : Reach) (x w : ℕ) : Type 0 where
  pub now : Reach
  pub reached : reach_at reach v ≡ Some now
  pub within : IsNoMore (cost_of now) (further (cost_of q) w)
  pub least : further (cost_of q) w ≡ cost_of now → now.parent ≤ x

-- the offer is for a vertex that is reached, and costs no less than it
pub record IsKnown (count : ℕ) (reach : List (Option Reach)) (o : Bid) : Type 0 where
  pub inside : o.vertex < count
  pub now : Reach
  pub reached : reach_at reach o.vertex ≡ Some now
  pub within : IsNoMore (cost_of now) (price o)

-- the vertex is reached
pub record IsReached (reach : List (Option Reach)) (v : ℕ) : Type 0 where
  pub now : Reach
  pub is : reach_at reach v ≡ Some now

-- no settled vertex costs more than b and no offer less, and each edge of a settled vertex is relaxed but those that are left
pub record IsSearch (rows : List (List (ℕ × ℕ))) (s : ℕ) (b : Cost) (left : ℕ → ℕ × ℕ → Type 0) (reach : List (Option Reach)) (settled : List Bool) (offers : List Bid) : Type 0 where
  pub len : length reach ≡ length rows
  pub size : length settled ≡ length rows
  pub source : reach_at reach s ≡ Some (record { sum = 0; hops = 0; parent = s })
  pub short : (v : ℕ) (r : Reach) → reach_at reach v ≡ Some r → r.hops ≤ settled_count settled
  pub shorter : (v : ℕ) (r : Reach) → is_settled settled v ≡ true → reach_at reach v ≡ Some r → r.hops < settled_count settled
  pub sums : (v : ℕ) (r : Reach) → reach_at reach v ≡ Some r → r.sum ≤ r.hops * 18446744073709551615
  pub reached : (v : ℕ) → is_settled settled v ≡ true → IsReached reach v
  pub low : (v : ℕ) (r : Reach) → is_settled settled v ≡ true → reach_at reach v ≡ Some r → IsNoMore (cost_of r) b
  pub high : (o : Bid) → Contains offers o → IsNoMore b (price o)
  pub waits : (v : ℕ) (r : Reach) → is_settled settled v ≡ false → reach_at reach v ≡ Some r → Contains offers (offer (cost_of r) v)
  pub known : (o : Bid) → Contains offers o → IsKnown (length rows) reach o
  pub parents : (v : ℕ) (r : Reach) → v ≢ s → reach_at reach v ≡ Some r → HasParent (row_at rows) reach v r × (is_settled settled r.parent ≡ true)
  pub relaxed : (x v w : ℕ) (q : Reach) → is_settled settled x ≡ true → reach_at reach x ≡ Some q → Contains (row_at rows x) (v, w) → IsRelaxed reach v q x w ⊎ left x (v, w)

-- no edge is left
abbrev pub none_left : ℕ → ℕ × ℕ → Type 0
none_left x p = ⊥

-- these edges of u are left
abbrev pub left_of : ℕ → List (ℕ × ℕ) → ℕ → ℕ × ℕ → Type 0
left_of u edges x p = (x ≡ u) × Contains edges p

-- between two vertices
pub record IsBetween (rows : List (List (ℕ × ℕ))) (s : ℕ) (reach : List (Option Reach)) (settled : List Bool) (offers : List Bid) : Type 0 where
  pub bound : Cost
  pub search : IsSearch rows s bound none_left reach settled offers

-- the least offer was taken, for the vertex u
pub record IsTaken (rows : List (List (ℕ × ℕ))) (s u : ℕ) (reach : List (Option Reach)) (settled : List Bool) (offers : List Bid) : Type 0 where
  pub bound : Cost
  pub taken : Bid
  pub vertex : taken.vertex ≡ u
  pub search : IsSearch rows s bound none_left reach settled (taken ∷ offers)
  pub least : (o : Bid) → Contains offers o → IsNoMore (price taken) (price o)

-- u was settled last, as from, and these of its edges are left
pub record IsAt (rows : List (List (ℕ × ℕ))) (s u : ℕ) (from : Reach) (edges : List (ℕ × ℕ)) (reach : List (Option Reach)) (settled : List Bool) (offers : List Bid) : Type 0 where
  pub search : IsSearch rows s (cost_of from) (left_of u edges) reach settled offers
  pub reached : reach_at reach u ≡ Some from
  pub done : is_settled settled u ≡ true
  pub own : (p : ℕ × ℕ) → Contains edges p → Contains (row_at rows u) p

-- what there is still to do, at most: each vertex that is not settled may make an offer for each edge, and each offer is taken once
abbrev pub work : List (List (ℕ × ℕ)) → List Bool → List Bid → ℕ
work rows settled offers = (length rows - settled_count settled) * (edges_in rows + 1) + length offers
