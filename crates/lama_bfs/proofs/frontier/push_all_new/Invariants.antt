use Rattle.std.proofs.Common.{◌≡◌, ◌++◌, drop}
use Rattle.std.specs.Prelude.{filter}
use Rattle.lama_bfs.specs.Frontier.{is_unseen}
use Rattle.lama_bfs.proofs.frontier.push_all_new.Given as goal

abbrev pub invariant-loop-v : goal.invariant-loop-v
invariant-loop-v l = l.found ++ filter (is_unseen l.seen) (drop l.v-index l.vs) ≡ l.initial.found ++ filter (is_unseen l.seen) l.vs
