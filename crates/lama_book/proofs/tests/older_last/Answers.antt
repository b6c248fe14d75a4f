use Rattle.std.proofs.Common.{subst}
use Rattle.std.specs.Prelude.{IfSome}
use Rattle.std.specs.Arc.{arc_value}
use Rattle.lama_model.specs.Opening.{empty_opening}
use Rattle.lama_model.specs.Journal.{standing}
use Rattle.lama_book.specs.Relation.{IsMergedOf}
use Rattle.lama_book.proofs.tests.older_last.Goals as goal

pub install-two-requires-clause-merged : goal.install-two-requires-clause-merged
install-two-requires-clause-merged g c =
    let m = arc_value c.in-Some.second in
    let found = subst (λ o. IfSome o (λ m. IsMergedOf empty_opening (standing empty_opening c.newest_merged.new.book.journal) (arc_value m))) c.in-Some.is c.in_ok-second.ensures.new in
    c.install-one.ensures.merged m (c.newest_merged-2.ensures.old m (c.takes_all-2.ensures.merged m found))
