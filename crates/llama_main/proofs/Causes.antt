-- Which answer a status comes from, and counts of faults that rose.
use Rattle.std.proofs.Common.{◌≡◌, ℕ, ◌^◌, ◌<◌, ◌≤◌, refl, sym, ◌∙◌, arith, Result, Ok, Err, ◌⊎◌, inl, inr}
use Rattle.lama_base.specs.Faults.{Rose}
use Rattle.llama_main.specs.declared.stop.Stop.{Stop}
use Rattle.llama_main.specs.declared.stop.Stop.TheVariants.{BadLine, TooManyLines, ReadFault, WriteFault, NoMemory}
use Rattle.llama_main.specs.declared.status.Status.{Status}
use Rattle.llama_main.specs.declared.status.Status.TheVariants as statuses
use Rattle.llama_main.specs.Run.{status_of}

-- a count that rose has risen ever after
pub Rose-later : (a b c : ℕ) → Rose a b → b ≤ c → (b < 2 ^ 64 → c < 2 ^ 64) → Rose a c
Rose-later a b c (inl h) later bounded = inl (omega arith)
Rose-later a b c (inr h) later bounded = let below : b < 2 ^ 64 = omega arith in let c_below : c < 2 ^ 64 = bounded below in inr (omega arith)

-- and since ever before
pub Rose-sooner : (a b c : ℕ) → a ≤ b → Rose b c → Rose a c
Rose-sooner a b c before (inl h) = inl (omega arith)
Rose-sooner a b c before (inr h) = inr h

pub unread_answer : (answer : Result (Unit {0}) Stop) → status_of answer ≡ statuses.ReadFault → answer ≡ Err ReadFault
unread_answer (Ok done) h = cc
unread_answer (Err (BadLine n)) h = cc
unread_answer (Err TooManyLines) h = cc
unread_answer (Err ReadFault) h = refl
unread_answer (Err WriteFault) h = cc
unread_answer (Err NoMemory) h = cc

pub unwritten_answer : (answer : Result (Unit {0}) Stop) → status_of answer ≡ statuses.WriteFault → answer ≡ Err WriteFault
unwritten_answer (Ok done) h = cc
unwritten_answer (Err (BadLine n)) h = cc
unwritten_answer (Err TooManyLines) h = cc
unwritten_answer (Err ReadFault) h = cc
unwritten_answer (Err WriteFault) h = refl
unwritten_answer (Err NoMemory) h = cc

-- a run that ends by a fault of the source had an answer that says so
pub unread_run : (answer : Result (Unit {0}) Stop) (status result : Status) → (result ≡ status) ⊎ ((result ≡ statuses.WriteFault) ⊎ (result ≡ statuses.NoMemory)) → status ≡ status_of answer → result ≡ statuses.ReadFault → answer ≡ Err ReadFault
unread_run answer status result (inl same) is h = unread_answer answer (sym is ∙ (sym same ∙ h))
unread_run answer status result (inr (inl h')) is h = cc
unread_run answer status result (inr (inr h')) is h = cc

-- a run that ends by a fault of the sink had one before, or at its end
pub unwritten_run : (answer : Result (Unit {0}) Stop) (status result : Status) (a b c : ℕ) → status ≡ status_of answer → ((result ≡ status) ⊎ Rose b c) → (answer ≡ Err WriteFault → Rose a b) → a ≤ b → b ≤ c → (b < 2 ^ 64 → c < 2 ^ 64) → result ≡ statuses.WriteFault → Rose a c
unwritten_run answer status result a b c is (inl same) cause before later bounded h = Rose-later a b c (cause (unwritten_answer answer (sym is ∙ (sym same ∙ h)))) later bounded
unwritten_run answer status result a b c is (inr rose) cause before later bounded h = Rose-sooner a b c before rose
