use Rattle.std.proofs.Common.{◌≡◌}
use Rattle.lama_script.proofs.Leading.{AreDigits}
use Rattle.lama_script.proofs.grammar.leading_number.Given as goal

abbrev pub invariant-loop-next : goal.invariant-loop-next
invariant-loop-next l = record { count : l.len ≡ l.next-index; are : AreDigits l.text l.next-index l.value }
