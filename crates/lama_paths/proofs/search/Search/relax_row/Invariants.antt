use Rattle.std.proofs.Common.{◌≡◌, ◌+◌, ◌<◌, ◌≤◌, ℕ, length, heap_items}
use Rattle.std.specs.Prelude.{All}
use Rattle.std.specs.BinaryHeap.{IsHeap}
use Rattle.lama_model.specs.Row.{row_at}
use Rattle.lama_paths.specs.Search.{tell, told, bids, IsAt}
use Rattle.lama_paths.proofs.Settling.{heap_cmp}
use Rattle.lama_paths.proofs.search.Search.relax_row.Given as goal

abbrev pub invariant-loop-v : goal.invariant-loop-v
invariant-loop-v g l = record {
  place : g.R.Rows.is_place l.rows l.at;
  below : All (λ p. p.0 < length (g.R.Rows.rows l.rows)) (g.R.Rows.suffix l.rows l.at);
  heap : IsHeap (heap_cmp g.S.Ord.cmp) (heap_items l.self.offers);
  same : l.self.settled.items ≡ l.fn.self.settled.items;
  len : length l.self.reach.items ≡ length l.fn.self.reach.items;
  few : length (bids g.S.Sum.value (heap_items l.self.offers)) + length (g.R.Rows.suffix l.rows l.at) ≤ length (bids g.S.Sum.value (heap_items l.fn.self.offers)) + length (row_at (g.R.Rows.rows l.rows) l.u);
  at : (s : ℕ) → IsAt (g.R.Rows.rows l.rows) s l.u (tell g.S.Sum.value l.from) (row_at (g.R.Rows.rows l.rows) l.u) (told g.S.Sum.value l.fn.self.reach.items) l.fn.self.settled.items (bids g.S.Sum.value (heap_items l.fn.self.offers))
      → IsAt (g.R.Rows.rows l.rows) s l.u (tell g.S.Sum.value l.from) (g.R.Rows.suffix l.rows l.at) (told g.S.Sum.value l.self.reach.items) l.self.settled.items (bids g.S.Sum.value (heap_items l.self.offers));
}

abbrev pub decreases-loop-v : goal.decreases-loop-v
decreases-loop-v g l = length (g.R.Rows.suffix l.rows l.at)
