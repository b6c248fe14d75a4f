use Rattle.std.proofs.Common.{length, ◌-◌, ◌≡◌, ◌<◌, ◌≤◌}
use Rattle.std.specs.List.{AllWithin}
use Rattle.lama_delta.specs.declared.edge_writes.EdgeWrite.{EdgeWrite}
use Rattle.lama_delta.proofs.grouping.group_end.Given as goal

abbrev pub invariant-loop-end : goal.invariant-loop-end
invariant-loop-end l = record {
  after : l.start < l.end;
  within : l.end ≤ length l.writes;
  same : AllWithin (λ (e : EdgeWrite). e.source ≡ l.source) l.writes l.start l.end;
}

abbrev pub decreases-loop-end : goal.decreases-loop-end
decreases-loop-end l = length l.writes - l.end
