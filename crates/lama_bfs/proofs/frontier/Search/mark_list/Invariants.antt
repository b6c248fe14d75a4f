use Rattle.std.proofs.Common.{◌≡◌, drop}
use Rattle.lama_bfs.specs.Frontier.{see_all}
use Rattle.lama_bfs.proofs.frontier.Search.mark_list.Given as goal

abbrev pub invariant-loop-v : goal.invariant-loop-v
invariant-loop-v l = see_all (drop l.v-index l.vs) (l.self.seen.items, l.self.next) ≡ see_all l.vs (l.initial.self.seen.items, l.initial.self.next)
