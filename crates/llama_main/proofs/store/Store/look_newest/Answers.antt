use Rattle.std.proofs.Common.{◌∙◌, ap}
use Rattle.std.specs.Arc.{arc_value}
use Rattle.lama_model.specs.declared.calls.Call.TheVariants.{Look}
use Rattle.lama_model.specs.Opening.{empty_opening}
use Rattle.lama_model.specs.Journal.{reply_at}
use Rattle.lama_snapshot.specs.Snap.{Snap}
use Rattle.llama_main.specs.Store.{Held}
use Rattle.llama_main.proofs.Holding.{holds, look-reply, look-found}
use Rattle.llama_main.proofs.store.Store.look_newest.Goals as goal

pub returns-clause-reply : goal.returns-clause-reply
returns-clause-reply c =
    look-reply c.self.inside.book (arc_value c.in-Ok.snapshot) c.number.result c.self.invariant c.in-Ok.ensures.snapshot (c.number.ensures.is ∙ ap (λ (x : Snap). x.number) c.deref.ensures) ∙ ap (λ (h : Held). reply_at empty_opening h.standing Look) c.self.view_is

pub returns-clause-found : goal.returns-clause-found
returns-clause-found c = look-found c.self.inside.book c.look.new.self.journal (arc_value c.in-Ok.snapshot) c.number.result c.self.invariant c.in-Ok.ensures.entry c.in-Ok.ensures.snapshot (c.number.ensures.is ∙ ap (λ (x : Snap). x.number) c.deref.ensures)

pub returns-clause-after : goal.returns-clause-after
returns-clause-after c = holds c.self.inside.book.journal c.look.new.self.journal c.args.self.now Look c.in-Ok.ensures.entry c.self.view_is
