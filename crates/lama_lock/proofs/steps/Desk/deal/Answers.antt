use Rattle.std.proofs.Common.{rules, ap, ◌∙◌, []}
use Rattle.lama_lock.specs.Steps.{kept_back, handed_out}
use Rattle.lama_lock.proofs.Starts.{draws}
use Rattle.lama_lock.proofs.Ends.{splits}
use Rattle.lama_lock.proofs.steps.Desk.deal.Goals as goal

pub fetch_add-requires : goal.fetch_add-requires
fetch_add-requires g c = let t = c.requires.more in
    (search rules, search rules, draws _ _ _ _ c.args.self.now.sized.1 _ _ t.0 t.1 t.2 t.3)

pub split_seat-requires : goal.split_seat-requires
split_seat-requires g c = let t = c.requires.more in let e = c.fetch_add.ensures.2 t.0 t.1 t.2 in
    (search rules, search rules, splits _ _ _ _ _ t.0 _ _ (ap (λ m. m.0) e))

pub returns-clause-told : goal.returns-clause-told
returns-clause-told g c = λ f d is. let e = c.fetch_add.ensures.2 f d is in
    (c.split_seat.ensures.2 ∙ ap (λ m. (kept_back m.0, m.1)) e, c.split_seat.ensures.4 ∙ ap (λ m. (handed_out m.0, [])) e)
