-- Entries and offers as numbers.
use Rattle.std.proofs.Common.{◌≡◌, ◌∙◌, ℕ, zero, suc, ◌+◌, ◌<◌, List, [], ◌∷◌, length, get_or, replicate, Bool, false, Option, None, Some, refl, sym, ap, subst}
use Rattle.std.specs.Prelude.{slice_set}
use Rattle.std.specs.Option.{option_map}
use Rattle.std.specs.declared.cmp.Reverse.{Reverse}
use Rattle.std.proofs.lemmas.List.{map-set, length-map, get_or_read}
use Rattle.std.specs.List.Sorted.{IsPermutation}
use Rattle.std.proofs.lemmas.List.Sorted.{IsPermutation-map}
use Rattle.std.proofs.Math.ListN.{get_or-map}
use Rattle.lama_model.specs.declared.reach.Reach.{Reach}
use Rattle.lama_model.specs.Distances.{further, cost_of, reach_at}
use Rattle.lama_model.proofs.RouteLemmas.{cost-eq}
use Rattle.lama_paths.specs.declared.search.Offer.{Offer}
use Rattle.lama_paths.specs.declared.search.Step.{Step}
use Rattle.lama_paths.specs.Search.{tell, told, bid, bids, offer, IsBetween}
use Rattle.lama_paths.proofs.Found.{started}

module _ {S : Type 0} (value : S → ℕ) where
  pub told-set : (xs : List (Option (Step S))) (v : ℕ) (x : Option (Step S)) → told value (slice_set xs v x) ≡ slice_set (told value xs) v (option_map (tell value) x)
  told-set xs v x = map-set (option_map (tell value)) xs v x

  pub told-none : (n : ℕ) → told value (replicate n None) ≡ replicate n None
  told-none zero = refl
  told-none (suc n) = ap (λ l. None ∷ l) (told-none n)

  pub length-told : (xs : List (Option (Step S))) → length (told value xs) ≡ length xs
  length-told xs = length-map xs (option_map (tell value))

  pub length-bids : (xs : List (Reverse (Offer S))) → length (bids value xs) ≡ length xs
  length-bids xs = length-map xs (bid value)

  -- what is told of a vertex whose entry was read
  pub told-at : (xs : List (Option (Step S))) (v : ℕ) (read o : Option (Step S)) → v < length xs → read ≡ get_or xs v read → read ≡ o → reach_at (told value xs) v ≡ option_map (tell value) o
  told-at xs v read o lt is e = get_or-map (option_map (tell value)) xs v None ∙ ap (option_map (tell value)) (sym (get_or_read xs v read lt is None) ∙ e)

  -- an edge more, with its weight added
  pub comes : (from : Step S) (u w : ℕ) (sum : S) → value sum ≡ value from.sum + w → cost_of (tell value (record { sum = sum; hops = from.hops + 1; parent = u })) ≡ further (cost_of (tell value from)) w
  comes from u w sum e = cost-eq (cost_of (tell value (record { sum = sum; hops = from.hops + 1; parent = u }))) (further (cost_of (tell value from)) w) e refl

-- only the source is reached, and waits
pub started-told : {S : Type 0} (value : S → ℕ) (rows : List (List (ℕ × ℕ))) (s count : ℕ) (zero_sum zero_offer : S) (entries : List (Option (Step S))) (settled : List Bool) (offers : List (Reverse (Offer S))) →
    length rows ≡ count → s < count → value zero_sum ≡ 0 → value zero_offer ≡ 0 → entries ≡ replicate count None → settled ≡ replicate count false →
    IsPermutation (record { 0 = record { sum = zero_offer; hops = 0; vertex = s } } ∷ []) offers →
    IsBetween rows s (told value (slice_set entries s (Some (record { sum = zero_sum; hops = 0; parent = s })))) settled (bids value offers)
started-told value rows s count zero_sum zero_offer entries settled offers many lt none none_offer new new_settled p =
    let q = IsPermutation-map (bid value) (record { 0 = record { sum = zero_offer; hops = 0; vertex = s } } ∷ []) offers p in
    let r = subst (λ (n : ℕ). IsPermutation (offer (record { sum = n; hops = 0 }) s ∷ []) (bids value offers)) none_offer q in
    let begun = started rows s count (bids value offers) many lt r in
    let e : told value (slice_set entries s (Some (record { sum = zero_sum; hops = 0; parent = s }))) ≡ slice_set (replicate count None) s (Some (record { sum = 0; hops = 0; parent = s })) =
    told-set value entries s (Some (record { sum = zero_sum; hops = 0; parent = s })) ∙ (λ i. slice_set ((ap (told value) new ∙ told-none value count) i) s (Some (record { sum = none i; hops = 0; parent = s }))) in
    subst (λ (l : List (Option Reach)). IsBetween rows s l settled (bids value offers)) (sym e) (subst (λ (l : List Bool). IsBetween rows s (slice_set (replicate count None) s (Some (record { sum = 0; hops = 0; parent = s }))) l (bids value offers)) (sym new_settled) begun)
