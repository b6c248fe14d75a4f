-- What a contract sees of an edit.
use Rattle.std.specs.Prelude.{ℕ, List, Bool, false, get_or}
use base.Stored.{Coded, coded×, coded_list, coded_bool, coded_via}

-- the list under change, and of each of its pages whether it is the edit's own
pub record Draft (A : Type 0) : Type 0 where
  pub items : List A
  pub owned : List Bool

-- whether page k is the edit's own
abbrev pub owns : {A : Type 0} → Draft A → ℕ → Bool
owns draft k = get_or draft.owned k false

abbrev pub draft_code : {A : Type 0} → Coded A → Coded (Draft A)
draft_code a = coded_via (coded× (coded_list a) (coded_list coded_bool)) (λ d. (d.items, d.owned)) (λ a b e i. record { items = (e i).0; owned = (e i).1 })
