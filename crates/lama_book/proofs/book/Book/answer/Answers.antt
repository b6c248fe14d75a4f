use Rattle.std.proofs.Common.{refl, sym, ap, ◌∙◌}
use Rattle.lama_model.specs.Journal.{reply_at, reply_to_write, with_ends}
use Rattle.lama_model.specs.declared.calls.Write.TheVariants.{Add, Remove, Weigh}
use Rattle.lama_model.specs.declared.calls.Call.TheVariants.{Write as SeenWrite}
use Rattle.lama_book.specs.Book.{Book, brief, answers}
use Rattle.lama_book.proofs.book.Book.answer.Goals as goal

pub returns-in-Add : goal.returns-in-Add
unfolding reply_at reply_to_write
returns-in-Add c =
    let i = c.self.inside in
    let b = brief i.count i.added i.oldest in
    c.with_ends.ensures b refl
    ∙ (ap (λ r. with_ends b c.in-Add.u c.in-Add.v r) c.edge_room.ensures
    ∙ (ap (λ (x : Book). answers x (SeenWrite (Add c.in-Add.u c.in-Add.v c.in-Add.field-2))) c.self.view_is
    ∙ ap (λ w. answers c.args.self.now (SeenWrite w)) (sym c.in-Add.is)))

pub returns-in-Remove : goal.returns-in-Remove
unfolding reply_at reply_to_write
returns-in-Remove c =
    let i = c.self.inside in
    c.with_ends-in-Remove.ensures (brief i.count i.added i.oldest) refl
    ∙ (ap (λ (x : Book). answers x (SeenWrite (Remove c.in-Remove.u c.in-Remove.v))) c.self.view_is
    ∙ ap (λ w. answers c.args.self.now (SeenWrite w)) (sym c.in-Remove.is))

pub returns-in-Weigh : goal.returns-in-Weigh
unfolding reply_at reply_to_write
returns-in-Weigh c =
    let i = c.self.inside in
    c.with_ends-in-Weigh.ensures (brief i.count i.added i.oldest) refl
    ∙ (ap (λ (x : Book). answers x (SeenWrite (Weigh c.in-Weigh.u c.in-Weigh.v c.in-Weigh.field-2))) c.self.view_is
    ∙ ap (λ w. answers c.args.self.now (SeenWrite w)) (sym c.in-Weigh.is))
