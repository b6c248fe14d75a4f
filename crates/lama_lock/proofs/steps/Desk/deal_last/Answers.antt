use Rattle.std.proofs.Common.{rules}
use Rattle.lama_lock.proofs.Starts.{draws-last}
use Rattle.lama_lock.proofs.steps.Desk.deal_last.Goals as goal

pub fetch_add-requires : goal.fetch_add-requires
fetch_add-requires g c = let t = c.requires.last in
    (search rules, search rules, draws-last _ _ _ _ c.args.self.now.sized.1 _ _ t.0 t.1 t.2)
