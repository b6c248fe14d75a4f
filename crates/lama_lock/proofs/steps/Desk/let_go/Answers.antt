use Rattle.std.proofs.Common.{rules}
use Rattle.lama_lock.proofs.Releases.{frees}
use Rattle.lama_lock.proofs.steps.Desk.let_go.Goals as goal

pub store-requires : goal.store-requires
store-requires g c = let t = c.requires.marked in
    (search rules, search rules, frees _ _ _ _ c.args.self.now.sized.1 _ _ t.0 t.1 t.2 t.3 t.4)
