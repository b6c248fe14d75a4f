use Rattle.std.proofs.Common.{◌≡◌, length, map, ◌-◌}
use Rattle.std.specs.Prelude.{IfSome, is_some}
use Rattle.lama_bfs.specs.Flat.{IsFlat}
use Rattle.lama_bfs.specs.Frontier.{IsRound}
use Rattle.lama_bfs.proofs.breadth_first.levels.Given as goal

abbrev pub invariant-loop-alloc : goal.invariant-loop-alloc
invariant-loop-alloc g l = record {
  round : IsRound (g.R.Rows.rows l.rows) l.source l.level l.levels.items l.search.next;
  seen : l.search.seen.items ≡ map is_some l.levels.items;
  flat : IfSome l.flat (λ f. IsFlat (g.R.Rows.rows l.rows) f.starts.items f.targets.items);
}

abbrev pub decreases-loop-alloc : goal.decreases-loop-alloc
decreases-loop-alloc g l = length (g.R.Rows.rows l.rows) - l.level
