use Rattle.std.proofs.Common.{◌∙◌, length, ap, sym, subst}
use Rattle.lama_model.specs.Row.{AreTargetsBelow}
use Rattle.lama_snapshot.specs.Shown.{shown, columns_of}
use Rattle.lama_snapshot.specs.Snap.{Snap}
use Rattle.lama_snapshot.proofs.ChainLemmas.{length-rows_from}
use Rattle.lama_snapshot.proofs.snapshot.SnapshotRows.count.Goals as goal

pub returns-clause-count : goal.returns-clause-count
returns-clause-count c = c.len.ensures ∙ (sym (length-rows_from (shown c.self.inside).layout (columns_of c.self.inside) c.self.inside.vertices) ∙ ap (λ (s : Snap). length s.rows) c.self.view_is)

pub returns-clause-targets : goal.returns-clause-targets
returns-clause-targets c = subst (λ k. AreTargetsBelow k c.args.self.now.rows) (sym c.len.ensures) (subst (λ (s : Snap). AreTargetsBelow (length c.self.inside.vertices) s.rows) c.self.view_is c.self.invariant.snap.targets)
