use Rattle.std.proofs.Common.{heap_items}
use Rattle.std.specs.BinaryHeap.{IsHeap}
use Rattle.lama_paths.specs.Search.{told, bids, IsBetween, work}
use Rattle.lama_paths.proofs.Settling.{heap_cmp}
use Rattle.lama_paths.proofs.search.search_by.Given as goal

abbrev pub invariant-loop-nearest : goal.invariant-loop-nearest
invariant-loop-nearest g l = record {
  heap : IsHeap (heap_cmp g.S.Ord.cmp) (heap_items l.search.offers);
  between : IsBetween (g.R.Rows.rows l.rows) l.source (told g.S.Sum.value l.search.reach.items) l.search.settled.items (bids g.S.Sum.value (heap_items l.search.offers));
}

abbrev pub decreases-loop-nearest : goal.decreases-loop-nearest
decreases-loop-nearest g l = work (g.R.Rows.rows l.rows) l.search.settled.items (bids g.S.Sum.value (heap_items l.search.offers))
