-- What the book gives to each ask of a lane.
use Rattle.std.specs.Prelude.{◌≡◌, ◌≢◌, ℕ, ◌+◌, ◌≤◌, List, length, MatchOption}
use Rattle.std.specs.Arc.{arc_value}
use Rattle.lama_model.specs.Bounds.{checkpoint_pages}
use Rattle.lama_model.specs.Change.{Change, change_between}
use Rattle.lama_model.specs.Opening.{Opening}
use Rattle.lama_model.specs.Journal.{Standing, standing, newest_of, graph_of, reply}
use Rattle.lama_model.specs.declared.calls.Call.{Call}
use Rattle.lama_model.specs.declared.calls.Call.TheVariants as call
use Rattle.lama_model.specs.declared.calls.Entry.{Entry}
use Rattle.lama_model.specs.declared.answers.Reply.TheVariants.{Snapshot}
use Rattle.lama_book.specs.Book.{Book}
use Rattle.lama_book.specs.Relation.{IsSnapshotOf}
use Rattle.lama_book.specs.declared.fault.CallFault.{CallFault}
use Rattle.lama_book.specs.declared.fault.CallFault.TheVariants.{JournalFull, NoMemory}
use Rattle.lama_engine.specs.declared.asks.Ask.{Ask}
use Rattle.lama_engine.specs.declared.asks.Ask.TheVariants.{Write, Checkpoint, Look, LookAt, Retire}
use Rattle.lama_engine.specs.declared.asks.Given.{Given}
use Rattle.lama_engine.specs.declared.asks.Given.TheVariants.{Replied, Newest, Found}

-- the call that an ask names
abbrev pub call_of : Ask → Call
call_of (Write w) = call.Write w
call_of Checkpoint = call.Checkpoint
call_of Look = call.Look
call_of (LookAt k) = call.LookAt k
call_of (Retire k) = call.Retire k

-- how long the journal may grow before a write or a retirement wants memory
abbrev pub room_of : Book → ℕ
room_of b = length b.journal + b.spare

-- after the journal the ask is given this: the reply of the model, and with a look the snapshot of the reply's number
abbrev pub Gives : Opening → List Entry → Ask → Given → Type 0
Gives o journal (Write w) (Replied r) = r ≡ reply o journal (call.Write w)
Gives o journal (Write w) (Newest a) = ⊥
Gives o journal (Write w) (Found l) = ⊥
Gives o journal Checkpoint (Replied r) = r ≡ reply o journal call.Checkpoint
Gives o journal Checkpoint (Newest a) = ⊥
Gives o journal Checkpoint (Found l) = ⊥
Gives o journal Look (Replied r) = ⊥
Gives o journal Look (Newest a) = IsSnapshotOf o (standing o journal) (newest_of o (standing o journal)) (arc_value a)
Gives o journal Look (Found l) = ⊥
Gives o journal (LookAt k) (Replied r) = ⊥
Gives o journal (LookAt k) (Newest a) = ⊥
Gives o journal (LookAt k) (Found l) = (l.reply ≡ reply o journal (call.LookAt k))
    × MatchOption l.snapshot ((n : ℕ) → l.reply ≢ Snapshot n) (λ a. (l.reply ≡ Snapshot k) × IsSnapshotOf o (standing o journal) k (arc_value a))
Gives o journal (Retire k) (Replied r) = r ≡ reply o journal (call.Retire k)
Gives o journal (Retire k) (Newest a) = ⊥
Gives o journal (Retire k) (Found l) = ⊥

-- a write and a retirement want no memory while there is room
abbrev pub WantsMemory : ℕ → ℕ → Ask → Type 0
WantsMemory calls room (Write w) = room ≤ calls
WantsMemory calls room Checkpoint = Unit {0}
WantsMemory calls room Look = Unit {0}
WantsMemory calls room (LookAt k) = Unit {0}
WantsMemory calls room (Retire k) = room ≤ calls

-- when an ask comes to a fault
abbrev pub Fails : Opening → List Entry → ℕ → Ask → CallFault → Type 0
Fails o journal room ask JournalFull = length journal ≡ 4194304
Fails o journal room ask NoMemory = WantsMemory (length journal) room ask

-- the change of a checkpoint made now
abbrev pub next_change_of : Opening → Standing → Change
next_change_of o s = change_between (graph_of o s (newest_of o s)) s.pending (newest_of o s + 1)

-- a checkpoint makes no more pages than its change asks for, and no other call makes any
abbrev pub pages_of : Opening → List Entry → Ask → ℕ
pages_of o journal (Write w) = 0
pages_of o journal Checkpoint = checkpoint_pages (next_change_of o (standing o journal))
pages_of o journal Look = 0
pages_of o journal (LookAt k) = 0
pages_of o journal (Retire k) = 0
