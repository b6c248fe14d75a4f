use Rattle.std.proofs.Common.{subst}
use Rattle.std.specs.Prelude.{IfSome}
use Rattle.std.specs.Arc.{arc_value}
use Rattle.lama_model.specs.Opening.{empty_opening}
use Rattle.lama_model.specs.Journal.{standing}
use Rattle.lama_book.specs.Relation.{IsMergedOf}
use Rattle.lama_book.proofs.tests.installed_late.Goals as goal

pub install-reply-requires-clause-merged : goal.install-reply-requires-clause-merged
install-reply-requires-clause-merged g c =
    let found = subst (λ o. IfSome o (λ m. IsMergedOf empty_opening (standing empty_opening c.newest_merged.new.book.journal) (arc_value m))) c.in-Some.is c.in_ok-merged.ensures.new in
    c.takes_all-2.ensures.merged (arc_value c.in-Some.merged) found
