-- What the views at the table of a hall are.
use Rattle.std.specs.Prelude.{ℕ, ◌≤◌, true, false, List, [], ◌∷◌, Some, None}
use Rattle.lama_model.specs.declared.calls.Entry.{Entry}
use Rattle.lama_lock.specs.declared.view.Founding.{Founding}
use Rattle.lama_lock.specs.declared.view.Stage.{Stage}
use Rattle.lama_lock.specs.declared.view.Stage.TheVariants.{Idle}
use Rattle.lama_lock.specs.declared.view.Member.{Member}
use Rattle.lama_lock.specs.declared.view.View.{View}

-- b has each setting that a has, and at least as much room
abbrev pub Keeps : {B S : Type 0} → (S → B → Type 0) → (B → ℕ) → B → B → Type 0
Keeps {B} {S} fits room a b = ((s : S) → fits s a → fits s b) × (room a ≤ room b)

-- what a pass knows: the founding of its hall, its number, the journal that it has seen, and its own calls
pub record Known (B : Type 0) : Type 0 where
  pub founding : Founding B
  pub caller : ℕ
  pub seen : List Entry
  pub own : List Entry

abbrev pub member : ℕ → List Entry → List Entry → Member
member c seen own = record { caller = c; seen = seen; own = own }

module _ {B : Type 0} where
  -- a view that has left the start, with these members
  abbrev pub left : Founding B → Stage → List Member → View B
  left f stage members = record { founding = Some f; stage = stage; starting = false; drawn = 0; members = members }

  abbrev pub member_of : Known B → Member
  member_of k = member k.caller k.seen k.own

  -- the view of a pass
  abbrev pub pass : Stage → Known B → View B
  pass stage k = left k.founding stage (member_of k ∷ [])

  -- a caller with that number which has made no call
  abbrev pub newcomer : Founding B → ℕ → List Entry → Known B
  newcomer f c seen = record { founding = f; caller = c; seen = seen; own = [] }

  -- the starting view, which has drawn so many numbers
  abbrev pub starting : Founding B → Stage → ℕ → View B
  starting f stage drawn = record { founding = Some f; stage = stage; starting = true; drawn = drawn; members = [] }

  -- and holds the last of them
  abbrev pub numbered : Founding B → ℕ → List Entry → View B
  numbered f drawn seen = record { founding = Some f; stage = Idle; starting = true; drawn = drawn; members = member drawn seen [] ∷ [] }

  -- a view that knows nothing
  abbrev pub spent : View B
  spent = record { founding = None; stage = Idle; starting = false; drawn = 0; members = [] }

-- of the first member
abbrev pub first_number : List Member → ℕ
first_number [] = 0
first_number (m ∷ ms) = m.caller

abbrev pub first_seen : List Member → List Entry
first_seen [] = []
first_seen (m ∷ ms) = m.seen

abbrev pub first_own : List Member → List Entry
first_own [] = []
first_own (m ∷ ms) = m.own
