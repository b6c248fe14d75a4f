use Rattle.std.proofs.Common.{◌/◌, ◌%◌, ◌<◌, ◌∙◌, true, false, ap, arith, length, map, set}
use Rattle.std.proofs.lemmas.List.{get_or-map, get_or-set_same, length-set, map-set}
use Rattle.lama_array.specs.Held.{is_own, records_of}
use Rattle.lama_array.proofs.Paged.{in_table, length-kept, write-at, write-paged}
use Rattle.lama_array.proofs.edit.Edit.set.Goals as goal

pub invariant_of-self-2 : goal.invariant_of-self-2
invariant_of-self-2 g c =
    let within : c.args.i < c.self.inside.len = omega (arith, c.requires, length-kept _ _ c.self.invariant, ap (λ d. length d.items) c.self.view_is) in
    write-paged records_of _ _ c.args.i c.self.invariant within _ _ c.args.x c.index_mut-held.ensures.value
    (c.set.ensures.records ∙ ap (λ p. set p (c.args.i % 256) c.args.x) c.in_ok-own.ensures.records)

pub returns-clause-items : goal.returns-clause-items
returns-clause-items g c =
    let within : c.args.i < c.self.inside.len = omega (arith, c.requires, length-kept _ _ c.self.invariant, ap (λ d. length d.items) c.self.view_is) in
    write-at records_of _ _ c.args.i c.self.invariant within _ _ c.args.x c.index_mut-held.ensures.value
    (c.set.ensures.records ∙ ap (λ p. set p (c.args.i % 256) c.args.x) c.in_ok-own.ensures.records)
    ∙ ap (λ d. set d.items c.args.i c.args.x) c.self.view_is

pub returns-clause-owned : goal.returns-clause-owned
returns-clause-owned g c =
    map-set is_own c.self.inside.held.items (c.args.i / 256) c.set.new.self
    ∙ ap (λ b. set (map is_own c.self.inside.held.items) (c.args.i / 256) b) c.set.ensures.own
    ∙ ap (λ d. set d.owned (c.args.i / 256) true) c.self.view_is

pub returns-clause-now_owned : goal.returns-clause-now_owned
returns-clause-now_owned g c =
    let items = c.self.inside.held.items in
    let within : c.args.i < c.self.inside.len = omega (arith, c.requires, length-kept _ _ c.self.invariant, ap (λ d. length d.items) c.self.view_is) in
    let at : c.args.i / 256 < length items = in_table records_of items _ c.args.i c.self.invariant within in
    let after : c.args.i / 256 < length (set items (c.args.i / 256) c.set.new.self) = omega (arith, at, length-set items (c.args.i / 256) c.set.new.self) in
    get_or-map is_own (set items (c.args.i / 256) c.set.new.self) (c.args.i / 256) c.set.new.self false after
    ∙ ap is_own (get_or-set_same items (c.args.i / 256) c.set.new.self c.set.new.self at)
    ∙ c.set.ensures.own
