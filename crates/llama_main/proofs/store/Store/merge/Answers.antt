use Rattle.std.proofs.Common.{◌≡◌, ◌∙◌, [], ◌∷◌, ap, sym, subst}
use Rattle.std.specs.Arc.{arc_value}
use Rattle.lama_model.specs.Opening.{empty_opening}
use Rattle.lama_model.specs.Journal.{standing, reply_at}
use Rattle.lama_model.specs.declared.calls.Call.TheVariants.{Look, Install}
use Rattle.lama_snapshot.specs.BaseRows.{Numbered}
use Rattle.lama_snapshot.specs.Snap.{Snap}
use Rattle.lama_book.specs.Relation.{IsMergedOf}
use Rattle.lama_book.proofs.Installing.{may-install, merged-longer, merged-newest}
use Rattle.llama_main.specs.Store.{held_by, called}
use Rattle.llama_main.specs.Expected.{newest_held}
use Rattle.llama_main.proofs.Holding.{holds}
use Rattle.lama_book.proofs.Checkpointing.{newest-of}
use Rattle.llama_main.proofs.store.Store.merge.Goals as goal

pub install-requires : goal.install-requires
install-requires g c =
    let old = c.self.inside.book in
    let m = arc_value c.in_ok-merged-2.merged in
    let is = c.in_ok-merged-2.ensures.ok in
    let last = c.deref.ensures ∙ c.in-Ok.ensures.snapshot in
    let merged = merged-newest empty_opening old m c.self.invariant (ap (λ (x : Numbered). x.number) is ∙ (c.in_ok-merged.ensures.number ∙ ap (λ (x : Snap). x.number) last)) (ap (λ (x : Numbered). x.rows) is ∙ (c.in_ok-merged.ensures.rows ∙ ap (λ (x : Snap). x.rows) last)) in
    let longer = subst (λ l. IsMergedOf empty_opening (standing empty_opening l) m) (sym c.in-Ok.ensures.entry) (merged-longer empty_opening old.journal (record { caller = 0; call = Look } ∷ []) m merged) in
    may-install empty_opening c.look.new.self m (c.in-Ok.ensures.book empty_opening c.self.invariant) longer

pub returns-clause-reply : goal.returns-clause-reply
returns-clause-reply g c =
    let old = c.self.inside.book in
    let now = c.args.self.now in
    let held : held_by c.look.new.self.journal ≡ called now Look = holds old.journal c.look.new.self.journal now Look c.in-Ok.ensures.entry c.self.view_is in
    let number : (arc_value c.in_ok-merged-2.merged).number ≡ newest_held now =
    ap (λ (x : Numbered). x.number) c.in_ok-merged-2.ensures.ok
    ∙ (c.in_ok-merged.ensures.number ∙ (ap (λ (x : Snap). x.number) (c.deref.ensures ∙ c.in-Ok.ensures.snapshot)
    ∙ ((newest-of empty_opening old c.self.invariant).number ∙ ap newest_held c.self.view_is))) in
    c.in-Ok-install.ensures.reply empty_opening (c.in-Ok.ensures.book empty_opening c.self.invariant)
    ∙ (λ j. reply_at empty_opening (held j).standing (Install (number j)))

pub returns-clause-after : goal.returns-clause-after
returns-clause-after g c =
    let old = c.self.inside.book in
    let now = c.args.self.now in
    let held : held_by c.look.new.self.journal ≡ called now Look = holds old.journal c.look.new.self.journal now Look c.in-Ok.ensures.entry c.self.view_is in
    let number : (arc_value c.in_ok-merged-2.merged).number ≡ newest_held now =
    ap (λ (x : Numbered). x.number) c.in_ok-merged-2.ensures.ok
    ∙ (c.in_ok-merged.ensures.number ∙ (ap (λ (x : Snap). x.number) (c.deref.ensures ∙ c.in-Ok.ensures.snapshot)
    ∙ ((newest-of empty_opening old c.self.invariant).number ∙ ap newest_held c.self.view_is))) in
    holds c.look.new.self.journal c.install.new.self.journal (called now Look) (Install (arc_value c.in_ok-merged-2.merged).number) c.in-Ok-install.ensures.entry held
    ∙ ap (λ n. called (called now Look) (Install n)) number
