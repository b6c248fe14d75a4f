use Rattle.std.proofs.Common.{◌≡◌, ◌-◌, ◌<◌, ◌++◌, [], ◌∙◌, ap, arith, get_or, length, map, replicate, set, sym, take}
use Rattle.std.proofs.lemmas.List.{get_or-map, map-set}
use Rattle.lama_array.specs.Held.{is_own, records_of}
use Rattle.lama_array.proofs.grow.fill_tail.Goals as goal

pub returns-clause-records : goal.returns-clause-records
returns-clause-records g c =
    let items = c.args.held.now.items in
    let at : c.args.at < length items = omega (arith, c.args.held.now.ok.0) in
    let old : records_of c.index_mut-tail.result.now ≡ get_or (map records_of items) c.args.at [] = ap records_of c.index_mut-tail.ensures.value ∙ sym (get_or-map records_of items c.args.at c.index_mut-tail.result.now [] at) in
    map-set records_of items c.args.at c.fill_from.new.self
    ∙ ap (λ p. set (map records_of items) c.args.at p) (c.fill_from.ensures.records
    ∙ ap (λ p. take c.args.from p ++ replicate (256 - c.args.from) c.args.x) (c.in_ok-own.ensures.records ∙ old))

pub returns-clause-owned : goal.returns-clause-owned
returns-clause-owned g c =
    map-set is_own c.args.held.now.items c.args.at c.fill_from.new.self
    ∙ ap (λ b. set (map is_own c.args.held.now.items) c.args.at b) c.fill_from.ensures.own
