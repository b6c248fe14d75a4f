use Rattle.std.proofs.Common.{◌≡◌, None, false, replicate, rules, heap_items}
use Rattle.lama_paths.proofs.Told.{started-told}
use Rattle.lama_paths.proofs.search.Search.start.Goals as goal

pub returns-clause-between : goal.returns-clause-between
returns-clause-between g c = λ rows many.
    let reach : c.in_ok-reach.reach.items ≡ replicate c.args.count None = search rules in
    let settled : c.in_ok-settled.settled.items ≡ replicate c.args.count false = search rules in
    let p = (c.in_ok-push.ensures {u = tt}).permutation in
    started-told g.S.Sum.value rows c.args.source c.args.count c.zero.result c.zero-2.result c.in_ok-reach.reach.items c.in_ok-settled.settled.items (heap_items c.push.new.self) many c.requires.within c.zero.ensures c.zero-2.ensures reach settled
    (rw c.new-offers.ensures.items at p)
