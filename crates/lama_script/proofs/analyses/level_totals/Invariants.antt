use Rattle.std.proofs.Common.{◌≡◌, ◌+◌, ◌*◌, ◌≤◌, drop, length}
use Rattle.std.specs.Prelude.{fold, max, sum}
use Rattle.lama_model.specs.Lines.{found_levels, greatest}
use Rattle.lama_script.proofs.analyses.level_totals.Given as goal

abbrev pub invariant-loop-level : goal.invariant-loop-level
invariant-loop-level l = record {
  reached : l.reached + length (found_levels (drop l.level-index l.levels)) ≡ length (found_levels l.levels);
  greatest : fold max l.greatest (found_levels (drop l.level-index l.levels)) ≡ greatest (found_levels l.levels);
  total : l.total + sum (found_levels (drop l.level-index l.levels)) ≡ sum (found_levels l.levels);
  few : l.reached ≤ l.level-index;
  small : l.total ≤ l.level-index * 4294967295;
}
