-- The conditions of the certificate, as tests of single edges.
use Rattle.std.specs.Prelude.{ℕ, suc, zero, ◌+◌, ◌^◌, ◌==◌, ◌&&◌, ◌||◌, nat_lt, nat_le, not, Bool, true, false, List, Option}
use Rattle.std.specs.Option.{option_map_or, is_some}
use Rattle.std.specs.List.{list_all, list_any}
use Rattle.lama_model.specs.declared.reach.Reach.{Reach}
use Rattle.lama_model.specs.Row.{row_at}
use Rattle.lama_model.specs.Distances.{reach_at}
use Rattle.lama_paths.specs.Marks.{is_set}

-- r costs no more than q and an edge of the weight w
abbrev pub is_no_more : Reach → Reach → ℕ → Bool
is_no_more r q w = nat_lt r.sum (q.sum + w) || ((r.sum == q.sum + w) && nat_le r.hops (q.hops + 1))

-- r has the parent u, which is reached as q, by an edge of the weight w
abbrev pub comes_from : Reach → ℕ → Reach → ℕ → Bool
comes_from r u q w = (r.parent == u) && (r.sum == q.sum + w) && (r.hops == q.hops + 1)

-- the target of an edge of q's is reached, and costs no more than by that edge
abbrev pub holds_at : List (Option Reach) → Reach → ℕ × ℕ → Bool
holds_at reach q p = option_map_or (λ r. is_no_more r q p.1) (reach_at reach p.0) false

-- the edge of u, which is reached as q, leads to v, and is the one from its parent
abbrev pub leads_at : List (Option Reach) → ℕ → Reach → ℕ → ℕ × ℕ → Bool
leads_at reach u q v p = (p.0 == v) && option_map_or (λ r. comes_from r u q p.1) (reach_at reach p.0) false

-- each edge of u holds, where u is reached
abbrev pub row_holds : List (List (ℕ × ℕ)) → List (Option Reach) → ℕ → Bool
row_holds rows reach u = option_map_or (λ q. list_all (holds_at reach q) (row_at rows u)) (reach_at reach u) true

-- u is v's parent, by one of its edges
abbrev pub row_leads : List (List (ℕ × ℕ)) → List (Option Reach) → ℕ → ℕ → Bool
row_leads rows reach v u = option_map_or (λ q. list_any (leads_at reach u q v) (row_at rows u)) (reach_at reach u) false

-- one of the vertices below n is
abbrev pub leads_below : List (List (ℕ × ℕ)) → List (Option Reach) → ℕ → ℕ → Bool
leads_below rows reach v zero = false
leads_below rows reach v (suc n) = leads_below rows reach v n || row_leads rows reach v n

-- there is a walk that may cost so much among count vertices
abbrev pub is_within : ℕ → Option Reach → Bool
is_within count entry = option_map_or (λ (r : Reach). nat_lt r.hops count && nat_lt r.sum (2 ^ 86)) entry true

-- v is not reached, or is the source, or is marked
abbrev pub is_led : ℕ → List (Option Reach) → List ℕ → ℕ → Bool
is_led s reach words v = (v == s) || not (is_some (reach_at reach v)) || is_set words v
