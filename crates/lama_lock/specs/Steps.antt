-- What each step at the table of a hall tells the one who makes it.
use Rattle.std.specs.Prelude.{◌≡◌, ◌≢◌, ℕ, ◌+◌, ◌≤◌, false, All, List, [], ◌∷◌, ◌++◌, length, drop, Option, Some, None}
use Rattle.atomic_table.specs.Table.{Me}
use Rattle.lama_model.specs.Pass.{calls_by, BeginsWith, IsByOneOf}
use Rattle.lama_model.specs.declared.calls.Entry.{Entry}
use Rattle.lama_lock.specs.declared.view.Founding.{Founding}
use Rattle.lama_lock.specs.declared.view.Stage.TheVariants.{Idle, Empty, Holding}
use Rattle.lama_lock.specs.declared.view.Member.{Member}
use Rattle.lama_lock.specs.declared.view.View.{View}
use Rattle.lama_lock.specs.Views.{Known, pass, newcomer, starting, numbered}

module _ {B : Type 0} (journal : B → List Entry) (keeps : B → B → Type 0) where
  -- a seat of a view, with the slot out with it where there is a value
  abbrev pub Seated : Type 0
  Seated = Me (Option B) (View B)

  abbrev pub start_of : Founding B → ℕ
  start_of f = length (journal f.value)

  -- the value that was in the slot when a caller took the turn, and what the caller knows of it
  pub record IsTaken (k : Known B) (x : B) : Type 0 where
    pub first : 1 ≤ k.caller
    pub last : k.caller ≤ k.founding.callers
    pub fits : keeps k.founding.value x
    pub began : BeginsWith (journal x) (journal k.founding.value)
    pub seen : BeginsWith (journal x) k.seen
    pub own : k.own ≡ calls_by k.caller (start_of k.founding) (journal x)
    pub named : All (IsByOneOf k.founding.callers) (drop (start_of k.founding) (journal x))

  -- the caller has seen this journal
  abbrev pub having_seen : Known B → List Entry → Known B
  having_seen k log = record k { seen = log }

  -- and its own calls are all that this journal has of its number
  abbrev pub with_calls : Known B → List Entry → Known B
  with_calls k log = record k { seen = log; own = calls_by k.caller (start_of k.founding) log }

  -- the turn was another's, or the caller has it now, and the value
  abbrev pub Grabbed : Seated → ℕ → Seated → Known B → Type 0
  Grabbed m n w k = (n ≢ 0 → w ≡ m) × (n ≡ 0 → (x : B) × (w ≡ (pass Holding (having_seen k (journal x)), (0, Some x) ∷ [])) × IsTaken k x)

  -- grab
  abbrev pub grabbed : Seated → ℕ → Seated → Type 0
  grabbed m n w = (k : Known B) → m ≡ (pass Idle k, []) → Grabbed m n w k

  -- mark: the call that the value has served stands in the lists, at the place that was the journal's length
  abbrev pub marked : Seated → ℕ → Seated → Type 0
  marked m n w = (k : Known B) (x : B) → m ≡ (pass Holding k, (0, Some x) ∷ []) →
      (n ≡ length k.seen) × (w ≡ (pass Holding (with_calls k (journal x)), (0, Some x) ∷ []))

  -- let go: the turn is free, and the slot at home
  abbrev pub freed : Seated → ℕ → Seated → Type 0
  freed m n w = (k : Known B) (x : B) → m ≡ (pass Holding k, (0, Some x) ∷ []) → w ≡ (pass Idle k, [])

  -- the starting view takes the slot, which has no value yet
  abbrev pub opened : Seated → ℕ → Seated → Type 0
  opened m n w = (f : Founding B) → m ≡ (starting f Empty 0, []) → w ≡ (starting f Holding 0, (0, None) ∷ [])

  -- and lets go of the turn
  abbrev pub begun : Seated → ℕ → Seated → Type 0
  begun m n w = (f : Founding B) (x : B) → m ≡ (starting f Holding 0, (0, Some x) ∷ []) → w ≡ (starting f Idle 0, [])

  -- number: the starting view holds one number more
  abbrev pub drew : Seated → ℕ → Seated → Type 0
  drew m n w = (f : Founding B) (d : ℕ) → m ≡ (starting f Idle d, []) → w ≡ (numbered f (d + 1) (journal f.value), [])

  -- and with the last one it is a caller's
  abbrev pub drew_last : Seated → ℕ → Seated → Type 0
  drew_last m n w = (f : Founding B) (d : ℕ) → m ≡ (starting f Idle d, []) → w ≡ (pass Idle (newcomer f (d + 1) (journal f.value)), [])

  -- the value that the table was left with, and the lists of callers beside its journal
  pub record IsClosed (f : Founding B) (x : B) (ms : List Member) : Type 0 where
    pub fit : keeps f.value x
    pub began : BeginsWith (journal x) (journal f.value)
    pub named : All (IsByOneOf f.callers) (drop (start_of f) (journal x))
    pub each : All (λ m. BeginsWith (journal x) m.seen × (m.own ≡ calls_by m.caller (start_of f) (journal x))) ms

-- split: what the starting view is left with, and the view of the new caller
abbrev pub kept_back : {B : Type 0} → View B → View B
kept_back v = record v { members = [] }

abbrev pub handed_out : {B : Type 0} → View B → View B
handed_out v = record v { starting = false; drawn = 0 }

-- join: the callers of both
abbrev pub together : {B : Type 0} → View B → View B → View B
together v w = record v { members = w.members ++ v.members }
