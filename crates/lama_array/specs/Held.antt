-- What an edit holds for each page.
use Rattle.std.specs.Prelude.{List, Bool, true, false}
use Rattle.std.specs.Arc.{arc_value}
use Rattle.lama_array.specs.declared.held.Held.{Held}
use Rattle.lama_array.specs.declared.held.Held.TheVariants.{Shared, Own}

-- the page's records
abbrev pub records_of : {A : Type 0} → Held A → List A
records_of (Shared page) = arc_value page
records_of (Own page) = page

-- whether the page is the edit's own
abbrev pub is_own : {A : Type 0} → Held A → Bool
is_own (Shared page) = false
is_own (Own page) = true
