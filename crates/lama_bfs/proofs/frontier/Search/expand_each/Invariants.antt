use Rattle.std.proofs.Common.{◌≡◌, drop}
use Rattle.lama_bfs.specs.Frontier.{targets_of, see_all}
use Rattle.lama_bfs.proofs.frontier.Search.expand_each.Given as goal

abbrev pub invariant-loop-u : goal.invariant-loop-u
invariant-loop-u g l = see_all (targets_of (g.R.Rows.rows l.rows) (drop l.u-index l.us)) (l.self.seen.items, l.self.next)
    ≡ see_all (targets_of (g.R.Rows.rows l.rows) l.us) (l.initial.self.seen.items, l.initial.self.next)
