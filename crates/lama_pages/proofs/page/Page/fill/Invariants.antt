use Rattle.std.proofs.Common.{◌≡◌, replicate}
use Rattle.lama_pages.proofs.page.Page.fill.Given as goal

abbrev pub invariant-loop-at : goal.invariant-loop-at
invariant-loop-at g l = (l.block.written ≡ replicate l.at l.initial.x) × (l.block.alloc ≡ l.initial.block.alloc)
