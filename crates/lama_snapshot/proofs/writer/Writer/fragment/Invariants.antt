use Rattle.std.proofs.Common.{◌≡◌, ◌+◌, ◌*◌, ◌/◌, length, take, map}
use Rattle.lama_edges.specs.declared.records.Slot.TheVariants.{Edge}
use Rattle.lama_snapshot.specs.Written.{Wrote}
use Rattle.lama_snapshot.proofs.writer.Writer.fragment.Given as goal

abbrev pub invariant-loop-target : goal.invariant-loop-target
invariant-loop-target g l = record {
  wrote : Wrote l.initial.self l.self (map (λ p. Edge p.0) (take l.target-index l.edges)) (map (λ p. p.1) (take l.target-index l.edges));
  count : length l.self.slots ≡ length l.initial.self.slots + l.target-index;
  made : l.pages + 2 * ((length l.initial.self.slots + 255) / 256) ≡ l.initial.pages + 2 * ((length l.self.slots + 255) / 256);
}
