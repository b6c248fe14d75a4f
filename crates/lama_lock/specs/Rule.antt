-- The rule of a hall: what its three words, its slot and all views say of one journal. Word 0 is the turn, word 1 the length of the journal, and word 2 how many numbers were drawn.
use Rattle.std.specs.Prelude.{◌≡◌, ◌≢◌, ℕ, ◌<◌, ◌≤◌, ◌⊎◌, true, All, List, [], ◌∷◌, length, drop, Option, Some, None}
use mathlib.Core.Option.{some, none}
use mathlib.Core.Option as maybe
use lib.ListN.{get_elem?}
use Rattle.atomic_table.specs.Table.{State}
use Rattle.lama_model.specs.Pass.{calls_by, BeginsWith, IsByOneOf}
use Rattle.lama_model.specs.declared.calls.Entry.{Entry}
use Rattle.lama_lock.specs.declared.view.Founding.{Founding}
use Rattle.lama_lock.specs.declared.view.Stage.{Stage}
use Rattle.lama_lock.specs.declared.view.Stage.TheVariants.{Idle, Empty, Holding}
use Rattle.lama_lock.specs.declared.view.Member.{Member}
use Rattle.lama_lock.specs.declared.view.View.{View}

-- a caller's list, of the view at place i: it has a number that was drawn, which no other view has; the journal begins with what it has seen; and its own calls are all that the journal has of its number from the start on
pub record IsMember (start : ℕ) (log : List Entry) (drawn : ℕ) (holder : ℕ → ℕ) (i : ℕ) (m : Member) : Type 0 where
  pub first : 1 ≤ m.caller
  pub last : m.caller ≤ drawn
  pub here : holder m.caller ≡ i
  pub seen : BeginsWith log m.seen
  pub own : m.own ≡ calls_by m.caller start log

-- what stands beside the views: the turn, whose it is, which view is the starting one, how many numbers were drawn, which view has a number, the slot, and the journal
pub record Board (B : Type 0) : Type 0 where
  pub turn : ℕ
  pub turner : ℕ
  pub starter : ℕ
  pub drawn : ℕ
  pub holder : ℕ → ℕ
  pub home : maybe.Option (Option B)
  pub log : List Entry

-- a caller that has the turn has seen the whole journal
abbrev pub KnowsAll : List Entry → List Member → Type 0
KnowsAll log members = All (λ m. m.seen ≡ log) members

module _ {B : Type 0} (journal : B → List Entry) (keeps : B → B → Type 0) (f : Founding B) (b : Board B) where
  -- the view at place i has the turn: no number was drawn yet and it is the starting one, whose journal is that of the start; or it is that of a caller
  abbrev pub HasTurn : ℕ → View B → Type 0
  HasTurn i v = (b.turn ≡ 1) × (b.turner ≡ i) × KnowsAll b.log v.members × ((v.starting ≡ true) × (b.drawn ≡ 0) × (b.log ≡ journal f.value) ⊎ (0 < length v.members))

  abbrev pub IsAt : ℕ → View B → Stage → Type 0
  IsAt i v Idle = b.turn ≡ 1 → b.turner ≢ i
  IsAt i v Empty = HasTurn i v × (b.home ≡ some None)
  IsAt i v Holding = HasTurn i v × (b.home ≡ none)

  pub record IsView (i : ℕ) (v : View B) : Type 0 where
    pub founding : (g : Founding B) → v.founding ≡ Some g → g ≡ f
    pub stage : IsAt i v v.stage
    pub starting : v.starting ≡ true → (b.starter ≡ i) × (v.drawn ≡ b.drawn) × (b.drawn < f.callers)
    pub members : All (IsMember (length (journal f.value)) b.log b.drawn b.holder i) v.members

  -- where no one has the turn, the slot has the value, whose journal it is
  abbrev pub IsFree : Type 0
  IsFree = (x : B) × (b.home ≡ some (Some x)) × (journal x ≡ b.log) × keeps f.value x

  -- the rule, for what stands beside the views
  pub record IsRight (s : State (Option B) (View B)) : Type 0 where
    pub words : s.words ≡ b.turn ∷ length b.log ∷ b.drawn ∷ []
    pub homes : s.homes ≡ b.home ∷ []
    pub turn : b.turn ≤ 1
    pub few : b.drawn ≤ f.callers
    pub callers : f.callers ≤ 16
    pub began : BeginsWith b.log (journal f.value)
    pub named : All (IsByOneOf b.drawn) (drop (length (journal f.value)) b.log)
    pub free : b.turn ≡ 0 → IsFree
    pub taken : b.turn ≡ 1 → (v : View B) × (get_elem? s.views b.turner ≡ some v)
    pub each : (i : ℕ) (v : View B) → get_elem? s.views i ≡ some v → IsView i v

abbrev pub Holds : {B : Type 0} → (B → List Entry) → (B → B → Type 0) → Founding B → State (Option B) (View B) → Type 0
Holds {B} journal keeps f s = (b : Board B) × IsRight journal keeps f b s
