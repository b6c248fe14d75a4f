use Rattle.std.proofs.Common.{◌≡◌, ℕ, ◌+◌, ◌<◌, ◌≤◌, List, length, take, get_or, subst, sym}
use Rattle.std.proofs.lemmas.List.Folds.{length-flat_map-take}
use Rattle.lama_edges.specs.declared.records.Fragment.{Fragment}
use Rattle.lama_edges.specs.Table.{fragment_slots, table_slots}

-- the slots before a fragment and its own are no more than the table's
pub slots_up_to : (fragments : List Fragment) (i : ℕ) (fragment : Fragment) →
    i < length fragments →
    fragment ≡ get_or fragments i fragment →
    length (table_slots (take i fragments)) + length (fragment_slots fragment) ≤ length (table_slots fragments)
slots_up_to fragments i fragment within is =
    let P : Fragment → Type 0 =
    λ f. length (table_slots (take i fragments)) + length (fragment_slots f) ≤ length (table_slots fragments) in
    subst P (sym is) (length-flat_map-take fragment_slots fragments i fragment within)
