use Rattle.std.proofs.Common.{◌≡◌, drop}
use Rattle.lama_bfs.specs.Frontier.{give}
use Rattle.lama_bfs.proofs.frontier.give_levels.Given as goal

abbrev pub invariant-loop-v : goal.invariant-loop-v
invariant-loop-v l = give l.level (drop l.v-index l.vs) l.levels.items ≡ give l.level l.vs l.initial.levels.items
