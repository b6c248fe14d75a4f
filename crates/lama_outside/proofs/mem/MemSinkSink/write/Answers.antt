use Rattle.std.proofs.Common.{◌≡◌, ◌∙◌, ℕ, Bool, false, IsTrue, Result, Err, IfErr, sym, ap}
use Rattle.std.proofs.lemmas.Result.{IfErr-at_err}
use Rattle.lama_base.specs.declared.outside.SinkFault.{SinkFault}
use Rattle.lama_base.specs.declared.outside.SinkFault.TheVariants.{Failed, NoMemory}
use Rattle.lama_outside.specs.Memory.{fails}
use Rattle.lama_outside.proofs.mem.MemSinkSink.write.Goals as goal

-- a sink that lacks memory has not failed outside
only_memory : (P : Type 0) (r : Result ℕ SinkFault) → IfErr r (λ fault. (fault ≡ NoMemory) × P) → r ≡ Err Failed → ⊥
only_memory P r h e = let both = IfErr-at_err (λ fault. (fault ≡ NoMemory) × P) e h in let same = both.0 in cc

-- a test that is false does not hold
not_true : (b : Bool) → b ≡ false → IsTrue b → ⊥
not_true b e h = cc

pub returns-clause-fails : goal.returns-clause-fails
returns-clause-fails c = (λ failed. absurd (only_memory _ _ c.write.ensures.refused failed), λ h. absurd (not_true _ (ap fails (sym c.self.view_is) ∙ sym c.next_fails.ensures.value ∙ c.if-next_fails.false) h))
