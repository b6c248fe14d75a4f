-- What a caller of a shared store knows of the one journal, from its own calls.
use Rattle.std.specs.Prelude.{◌≡◌, ℕ, ◌+◌, ◌≤◌, ◌==◌, All, List, [], ◌∷◌, ◌++◌, length, take, drop, filter}
use Rattle.lama_model.specs.declared.calls.Call.{Call}
use Rattle.lama_model.specs.declared.calls.Entry.{Entry}

-- a caller's number, how many calls the journal had at the start, the journal that the caller has seen, and its own calls
pub record Pass : Type 0 where
  pub caller : ℕ
  pub start : ℕ
  pub seen : List Entry
  pub own : List Entry

-- the calls of that caller from the start length on
abbrev pub calls_by : ℕ → ℕ → List Entry → List Entry
calls_by caller start journal = filter (λ e. e.caller == caller) (drop start journal)

-- the journal begins with what was seen
abbrev pub BeginsWith : List Entry → List Entry → Type 0
BeginsWith journal seen = (more : List Entry) × (journal ≡ seen ++ more)

-- the entry was made by one of so many callers
abbrev pub IsByOneOf : ℕ → Entry → Type 0
IsByOneOf callers e = (1 ≤ e.caller) × (e.caller ≤ callers)

-- the caller has seen the journal so far, and has made no call since
pub record SeesMore (v w : Pass) : Type 0 where
  pub caller : w.caller ≡ v.caller
  pub start : w.start ≡ v.start
  pub seen : BeginsWith w.seen v.seen
  pub own : w.own ≡ v.own

-- the caller's call stands at that place of the journal, behind all that the caller had seen, and it has seen no later one; its own calls are all that the journal has of it, and no one but the callers has made any
pub record StepsTo (callers : ℕ) (v : Pass) (call : Call) (place : ℕ) (w : Pass) : Type 0 where
  pub caller : w.caller ≡ v.caller
  pub start : w.start ≡ v.start
  pub before : BeginsWith (take place w.seen) v.seen
  pub last : w.seen ≡ take place w.seen ++ record { caller = v.caller; call = call } ∷ []
  pub len : length w.seen ≡ place + 1
  pub own : w.own ≡ v.own ++ record { caller = v.caller; call = call } ∷ []
  pub mine : w.own ≡ calls_by w.caller w.start w.seen
  pub named : All (IsByOneOf callers) (drop w.start w.seen)
