use Rattle.std.proofs.Common.{◌≡◌, ◌<◌, ℕ, true}
use Rattle.std.specs.Prelude.{◌||◌}
use Rattle.lama_paths.specs.Marks.{is_set}
use Rattle.lama_paths.specs.Certificate.{row_holds, leads_below}
use Rattle.lama_paths.proofs.certificate.rows_hold.Given as goal

abbrev pub invariant-loop-u : goal.invariant-loop-u
invariant-loop-u g l = record {
  holds : (k : ℕ) → k < l.u → row_holds (g.R.Rows.rows l.rows) l.reach k ≡ true;
  marks : (v : ℕ) → is_set l.words v ≡ (is_set l.fn.words v || leads_below (g.R.Rows.rows l.rows) l.reach v l.u);
}
