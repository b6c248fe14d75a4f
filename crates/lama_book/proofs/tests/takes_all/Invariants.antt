use Rattle.lama_model.specs.Opening.{empty_opening}
use Rattle.lama_model.specs.Journal.{standing}
use Rattle.lama_snapshot.specs.BaseRows.{Numbered}
use Rattle.lama_book.specs.Relation.{IsBookOf, IsMergedOf}
use Rattle.lama_book.proofs.tests.takes_all.Given as goal

abbrev pub invariant-loop-next : goal.invariant-loop-next
invariant-loop-next g l = record {
  book : IsBookOf empty_opening l.book;
  merged : (m : Numbered) → IsMergedOf empty_opening (standing empty_opening l.fn.book.journal) m → IsMergedOf empty_opening (standing empty_opening l.book.journal) m;
}
