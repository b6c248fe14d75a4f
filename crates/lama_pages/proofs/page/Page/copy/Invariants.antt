use Rattle.std.proofs.Common.{◌≡◌, take}
use Rattle.lama_pages.proofs.page.Page.copy.Given as goal

abbrev pub invariant-loop-i : goal.invariant-loop-i
invariant-loop-i g l = (l.block.written ≡ take l.i l.self-inside.block.written) × (l.block.alloc ≡ l.initial.block.alloc)
