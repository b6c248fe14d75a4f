use Rattle.std.proofs.Common.{rules, ap}
use Rattle.lama_lock.proofs.Ends.{joins}
use Rattle.lama_lock.proofs.steps.Desk.join.Goals as goal

pub join_seat-requires : goal.join_seat-requires
join_seat-requires g c = let t = c.requires.both in
    (search rules, search rules, ap (λ m. m.1) t.4, search rules, joins _ _ _ _ _ _ _ t.0 t.1 t.2 (ap (λ m. m.0) t.3) (ap (λ m. m.0) t.4))
