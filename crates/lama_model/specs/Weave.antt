-- One order for the calls of several lanes.
use Rattle.std.specs.Prelude.{ℕ, zero, suc, List, [], ◌∷◌, Option, Some, None, IsSome}
use Rattle.std.specs.Option.{option_map, option_and_then}

-- the next of the i-th lane, i from 1, and the lanes without it
abbrev pub next_of : {A : Type 0} → ℕ → List (List A) → Option (A × List (List A))
next_of zero lanes = None
next_of (suc i) [] = None
next_of (suc zero) ([] ∷ lanes) = None
next_of (suc zero) ((x ∷ xs) ∷ lanes) = Some (x, xs ∷ lanes)
next_of (suc (suc i)) (lane ∷ lanes) = option_map (λ r. (r.0, lane ∷ r.1)) (next_of (suc i) lanes)

-- nothing, where every lane is used up
abbrev pub used_up : {A B : Type 0} → List (List A) → Option (List B)
used_up [] = Some []
used_up ([] ∷ lanes) = used_up lanes
used_up ((x ∷ xs) ∷ lanes) = None

-- for each number the next of that lane, with the number; None where a number names no lane that has one, or a lane is not used up
abbrev pub weave : {A : Type 0} → List (List A) → List ℕ → Option (List (ℕ × A))
weave lanes [] = used_up lanes
weave lanes (i ∷ order) = option_and_then (λ r. option_map (λ rest. (i, r.0) ∷ rest) (weave r.1 order)) (next_of i lanes)

-- the order takes each lane's calls once, in the lane's order, and all of them
abbrev pub IsLegal : {A : Type 0} → List (List A) → List ℕ → Type 0
IsLegal lanes order = IsSome (weave lanes order)
