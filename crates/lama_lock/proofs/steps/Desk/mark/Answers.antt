use Rattle.std.proofs.Common.{rules}
use Rattle.lama_lock.proofs.Marks.{marks}
use Rattle.lama_lock.proofs.steps.Desk.mark.Goals as goal

pub fetch_add-requires : goal.fetch_add-requires
fetch_add-requires g c = let t = c.requires.served in
    (search rules, search rules, marks _ _ _ _ c.args.self.now.sized.1 _ _ t.0 t.1 t.2 t.3 t.4 t.5)
