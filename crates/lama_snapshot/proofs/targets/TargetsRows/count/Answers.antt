use Rattle.std.proofs.Common.{subst}
use Rattle.lama_model.specs.Row.{AreTargetsBelow}
use Rattle.lama_snapshot.specs.Snap.{Snap}
use Rattle.lama_snapshot.specs.Targets.{all_targets}
use Rattle.lama_snapshot.proofs.TargetRows.{below-targets}
use Rattle.lama_snapshot.proofs.targets.TargetsRows.count.Goals as goal

pub returns-clause-targets : goal.returns-clause-targets
returns-clause-targets c = subst (λ (s : Snap). AreTargetsBelow c.count.result (all_targets s.rows)) c.self.view_is (below-targets c.count.result c.self.inside.snapshot.now.rows c.count.ensures.targets)
