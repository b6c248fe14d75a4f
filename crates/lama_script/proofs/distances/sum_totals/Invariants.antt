use Rattle.std.proofs.Common.{◌≡◌, ◌+◌, ◌*◌, ◌^◌, ◌≤◌, drop, length}
use Rattle.std.specs.Prelude.{fold, max, sum}
use Rattle.lama_model.specs.Lines.{found_sums, greatest}
use Rattle.lama_script.proofs.distances.sum_totals.Given as goal

abbrev pub invariant-loop-entry : goal.invariant-loop-entry
invariant-loop-entry l = record {
  reached : l.reached + length (found_sums (drop l.entry-index l.reach)) ≡ length (found_sums l.reach);
  greatest : fold max l.greatest (found_sums (drop l.entry-index l.reach)) ≡ greatest (found_sums l.reach);
  total : l.total + sum (found_sums (drop l.entry-index l.reach)) ≡ sum (found_sums l.reach);
  few : l.reached ≤ l.entry-index;
  small : l.total ≤ l.entry-index * 2 ^ 86;
}
