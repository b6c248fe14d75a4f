use Rattle.std.proofs.Common.{◌≡◌, ◌-◌, ℕ, length, drop}
use Rattle.std.specs.Ordering.{nat_cmp}
use Rattle.std.specs.BTreeMap.{get}
use Rattle.lama_delta.specs.RowWrites.{fate_of, left_of}
use Rattle.lama_delta.specs.Sieve.{IsSieve}
use Rattle.lama_delta.proofs.row_writes.later_of.Given as goal

abbrev pub invariant-loop-i : goal.invariant-loop-i
invariant-loop-i l = record {
  fates : (v : ℕ) → get nat_cmp l.later.fates v ≡ fate_of (drop (length l.writes - l.i) l.writes) v;
  sieve : IsSieve l.later.marks.items (get nat_cmp l.later.fates);
  added : l.later.added.items ≡ left_of (drop (length l.writes - l.i) l.writes);
}
