use Rattle.std.proofs.Common.{◌≡◌, ℕ, length}
use Rattle.std.specs.Prelude.{◌||◌}
use Rattle.std.specs.List.{list_all, list_any}
use Rattle.lama_model.specs.Row.{row_at}
use Rattle.lama_paths.specs.Marks.{is_set}
use Rattle.lama_paths.specs.Certificate.{holds_at, leads_at}
use Rattle.lama_paths.proofs.certificate.row_holds.Given as goal

abbrev pub invariant-loop-target : goal.invariant-loop-target
invariant-loop-target g l = record {
  place : g.R.Rows.is_place l.rows l.at;
  holds : list_all (holds_at l.reach l.from) (g.R.Rows.suffix l.rows l.at) ≡ list_all (holds_at l.reach l.from) (row_at (g.R.Rows.rows l.rows) l.u);
  marks : (v : ℕ) → (is_set l.words v || list_any (leads_at l.reach l.u l.from v) (g.R.Rows.suffix l.rows l.at))
      ≡ (is_set l.fn.words v || list_any (leads_at l.reach l.u l.from v) (row_at (g.R.Rows.rows l.rows) l.u));
}

abbrev pub decreases-loop-target : goal.decreases-loop-target
decreases-loop-target g l = length (g.R.Rows.suffix l.rows l.at)
