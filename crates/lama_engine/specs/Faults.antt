-- With less room an ask may come to the same faults.
use Rattle.std.specs.Prelude.{ℕ, ◌≤◌, List, length}
use Rattle.std.proofs.Math.Nat.{le_trans}
use Rattle.lama_model.specs.Opening.{Opening}
use Rattle.lama_model.specs.declared.calls.Entry.{Entry}
use Rattle.lama_book.specs.declared.fault.CallFault.{CallFault}
use Rattle.lama_book.specs.declared.fault.CallFault.TheVariants.{JournalFull, NoMemory}
use Rattle.lama_engine.specs.declared.asks.Ask.{Ask}
use Rattle.lama_engine.specs.declared.asks.Ask.TheVariants.{Write, Checkpoint, Look, LookAt, Retire}
use Rattle.lama_engine.specs.Asks.{WantsMemory, Fails}

wants-below : (calls room less : ℕ) (ask : Ask) → less ≤ room → WantsMemory calls room ask → WantsMemory calls less ask
wants-below calls room less (Write w) low h = le_trans low h
wants-below calls room less Checkpoint low h = tt
wants-below calls room less Look low h = tt
wants-below calls room less (LookAt k) low h = tt
wants-below calls room less (Retire k) low h = le_trans low h

-- with less room an ask may come to the same faults
pub fails-below : (o : Opening) (journal : List Entry) (room less : ℕ) (ask : Ask) (fault : CallFault) → less ≤ room → Fails o journal room ask fault → Fails o journal less ask fault
fails-below o journal room less ask JournalFull low h = h
fails-below o journal room less ask NoMemory low h = wants-below (length journal) room less ask low h
