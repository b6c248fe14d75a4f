use Rattle.std.proofs.Common.{rules, ne_eqb, eq-eqb}
use native.Mathlib.Decide.{ℕ_discrete}
use mathlib.Core.Logic.{dite}
use Rattle.lama_lock.proofs.Moves.{grabs}
use Rattle.lama_lock.proofs.steps.Desk.grab.Goals as goal

pub swap-requires : goal.swap-requires
swap-requires g c = let t = c.requires.idle in
    (search rules, search rules, grabs _ _ _ _ c.args.self.now.sized.1 _ _ t.0 t.1)

pub returns-clause-told : goal.returns-clause-told
returns-clause-told g c = let t = c.requires.idle in dite (ℕ_discrete c.swap.result 0)
    (λ here. rw (eq-eqb c.swap.result 0 here) (λ k is. (c.swap.ensures.2 k is).1 here))
    (λ not-here. rw (ne_eqb c.swap.result 0 not-here) ((c.swap.ensures.2 t.0 t.1).0 not-here))
