-- What contracts see of a hall and of a pass.
use Rattle.std.specs.Prelude.{◌≡◌, ℕ, ◌≤◌, List, [], length, map, Contains, Option, Some, None}
use Rattle.atomic_table.specs.Seated.{TableId}
use Rattle.atomic_table.specs.Table.{Me}
use Rattle.lama_model.specs.Pass.{Pass}
use Rattle.lama_model.specs.declared.calls.Entry.{Entry}
use Rattle.lama_lock.specs.declared.view.Founding.{Founding}
use Rattle.lama_lock.specs.declared.view.Stage.TheVariants.{Idle}
use Rattle.lama_lock.specs.declared.view.Member.{Member}
use Rattle.lama_lock.specs.declared.view.View.{View}
use Rattle.lama_lock.specs.Views.{Known, pass, member, first_number, first_seen, first_own}

-- a hall: which one it is, the value with which it began, and how many callers it has
pub record Hall (B : Type 0) : Type 0 where
  pub id : TableId
  pub start : B
  pub callers : ℕ

-- a caller of a hall: the hall's id, the value with which it began, how many callers it has, and what the caller knows
pub record Caller (B : Type 0) : Type 0 where
  pub hall : TableId
  pub founding : Option (Founding B)
  pub known : Pass

module _ {B : Type 0} (journal : B → List Entry) where
  abbrev pub start_in : Option (Founding B) → ℕ
  start_in None = 0
  start_in (Some f) = length (journal f.value)

  -- what a view shows of its caller
  abbrev pub shown : View B → Pass
  shown v = record { caller = first_number v.members; start = start_in v.founding; seen = first_seen v.members; own = first_own v.members }

  -- what a caller knows of the calls
  abbrev pub known_of : Known B → Pass
  known_of k = record { caller = k.caller; start = length (journal k.founding.value); seen = k.seen; own = k.own }

  -- the seat is that of a caller with this number, who has not the turn
  abbrev pub IsIdle : ℕ → Me (Option B) (View B) → Type 0
  IsIdle c me = (k : Known B) × (k.caller ≡ c) × (me ≡ (pass Idle k, []))

  -- a caller of the hall with this number, before it made a call
  abbrev pub first_pass : Hall B → ℕ → Caller B
  first_pass h c = record {
    hall = h.id;
    founding = Some record { value = h.start; callers = h.callers };
    known = record { caller = c; start = length (journal h.start); seen = journal h.start; own = [] };
  }

-- the pass is one of this hall
pub record IsPassOf {B : Type 0} (h : Hall B) (p : Caller B) : Type 0 where
  pub hall : p.hall ≡ h.id
  pub founding : p.founding ≡ Some record { value = h.start; callers = h.callers }

-- the callers' numbers, in the order of the passes
abbrev pub numbers : {B : Type 0} → List (Caller B) → List ℕ
numbers passes = map (λ p. p.known.caller) passes

-- each number of the hall is that of a pass
abbrev pub AreAll : {B : Type 0} → Hall B → List (Caller B) → Type 0
AreAll h passes = (c : ℕ) → 1 ≤ c → c ≤ h.callers → Contains (numbers passes) c

-- the caller's lists as the others see them
abbrev pub member_in : {B : Type 0} → Caller B → Member
member_in p = member p.known.caller p.known.seen p.known.own
