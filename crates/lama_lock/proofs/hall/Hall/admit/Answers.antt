use Rattle.std.specs.List.{range_with_len}
use Rattle.std.proofs.Common.{◌≡◌, ◌+◌, ◌-◌, ◌≤◌, ℕ, [], length, sym, ap, ◌∙◌, arith, map, All, subst}
use Rattle.std.proofs.lemmas.List.FromFn.{length-map-range_with_len}
use Rattle.lama_lock.specs.declared.view.Stage.TheVariants.{Idle}
use Rattle.lama_lock.specs.Views.{starting, newcomer}
use Rattle.lama_lock.specs.Hall.{Hall, IsPassOf, AreAll, first_pass}
use Rattle.lama_lock.proofs.Gathering.{first-as, first-ours, first-all, dealt-more}
use Rattle.lama_lock.proofs.hall.Hall.admit.Goals as goal
use Rattle.lama_lock.proofs.hall.Hall.admit.Goals.{After-push_reserved-2}

pub begin-requires-clause-first : goal.begin-requires-clause-first
begin-requires-clause-first g c = ((record { value = c.args.self.now.start; callers = c.args.self.now.callers }), sym c.requires.value, c.requires.first)

pub loop-caller-init : goal.loop-caller-init
loop-caller-init g c = (c.begin.ensures.here ∙ c.requires.here, omega arith, c.begin.ensures.told (record { value = c.args.self.now.start; callers = c.args.self.now.callers }) c.requires.first, c.requires.none, c.requires.room)

pub deal-dealt-requires-clause-more : goal.deal-dealt-requires-clause-more
deal-dealt-requires-clause-more g c = ((record { value = c.args.self.now.start; callers = c.args.self.now.callers }), c.loop-caller.caller - 1, c.loop-caller.invariant.2, omega (arith, c.loop-caller.invariant.1, c.loop-caller-test.true, c.requires.callers))

pub invariant_of-push_reserved : goal.invariant_of-push_reserved
invariant_of-push_reserved g c =
    let i = c.loop-caller.invariant in
    (newcomer (record { value = c.args.self.now.start; callers = c.args.self.now.callers }) (c.loop-caller.caller - 1 + 1) (g.B.Kept.journal c.args.self.now.start), omega (arith, i.1), (c.deal-dealt.ensures.told (record { value = c.args.self.now.start; callers = c.args.self.now.callers }) (c.loop-caller.caller - 1) i.2).1)

pub push_reserved-requires : goal.push_reserved-requires
push_reserved-requires g c = let i = c.loop-caller.invariant in
    omega (arith, ap length i.3, length-map-range_with_len (first_pass g.B.Kept.journal c.args.self.now) 1 (c.loop-caller.caller - 1), i.4, i.1, c.loop-caller-test.true)

pub loop-caller-preserved : goal.loop-caller-preserved
loop-caller-preserved g c =
    let i = c.loop-caller.invariant in let t = c.deal-dealt.ensures.told (record { value = c.args.self.now.start; callers = c.args.self.now.callers }) (c.loop-caller.caller - 1) i.2 in (
      c.deal-dealt.ensures.here.0 ∙ i.0,
      omega arith,
      t.0 ∙ ap (λ (n : ℕ). (starting (record { value = c.args.self.now.start; callers = c.args.self.now.callers }) Idle n, [])) (omega (arith, i.1)),
      dealt-more (first_pass g.B.Kept.journal c.args.self.now) (c.loop-caller.caller - 1) (c.loop-caller.caller - 1 + 1) _ c.loop-caller.passes.items _ _ c.push_reserved.ensures.items i.3
          (first-as g.B.Kept.journal _ _ c.args.self.now (c.loop-caller.caller - 1 + 1) (c.deal-dealt.ensures.here.1 ∙ i.0) t.1) (omega arith) (omega (arith, i.1)),
      omega (arith, c.push_reserved.ensures.capacity, i.4),
    )

pub invariant_of-push_reserved-2 : goal.invariant_of-push_reserved-2
invariant_of-push_reserved-2 g c =
    let i = c.loop-caller.invariant in
    let some : 1 ≤ c.args.callers = omega (arith, c.requires.callers, ap (λ (h : Hall g.row.B.Denot). h.callers) c.self.view_is, c.self.invariant.0) in
    (newcomer (record { value = c.args.self.now.start; callers = c.args.self.now.callers }) (c.loop-caller.caller - 1 + 1) (g.B.Kept.journal c.args.self.now.start), omega (arith, i.1, some, c.loop-caller.auto.caller-end some, c.loop-caller-test.false), c.deal_last.ensures.told (record { value = c.args.self.now.start; callers = c.args.self.now.callers }) (c.loop-caller.caller - 1) i.2)

pub push_reserved-requires-2 : goal.push_reserved-requires-2
push_reserved-requires-2 g c = let i = c.loop-caller.invariant in
    let some : 1 ≤ c.args.callers = omega (arith, c.requires.callers, ap (λ (h : Hall g.row.B.Denot). h.callers) c.self.view_is, c.self.invariant.0) in
    omega (arith, ap length i.3, length-map-range_with_len (first_pass g.B.Kept.journal c.args.self.now) 1 (c.loop-caller.caller - 1), i.4, i.1, some, c.loop-caller.auto.caller-end some)

dealt : (g : _) (c : After-push_reserved-2 g) → c.push_reserved-2.new.self.items ≡ map (first_pass g.B.Kept.journal c.args.self.now) (range_with_len 1 c.args.callers)
dealt g c =
    let i = c.loop-caller.invariant in
    let some : 1 ≤ c.args.callers = omega (arith, c.requires.callers, ap (λ (h : Hall g.row.B.Denot). h.callers) c.self.view_is, c.self.invariant.0) in
    dealt-more (first_pass g.B.Kept.journal c.args.self.now) (c.loop-caller.caller - 1) (c.loop-caller.caller - 1 + 1) _ c.loop-caller.passes.items _ _ c.push_reserved-2.ensures.items i.3
    (first-as g.B.Kept.journal _ _ c.args.self.now (c.loop-caller.caller - 1 + 1) (c.deal_last.ensures.here ∙ i.0) (c.deal_last.ensures.told (record { value = c.args.self.now.start; callers = c.args.self.now.callers }) (c.loop-caller.caller - 1) i.2))
    (omega arith) (omega (arith, i.1, some, c.loop-caller.auto.caller-end some, c.loop-caller-test.false))

pub returns-clause-passes : goal.returns-clause-passes
returns-clause-passes g c = dealt g c

pub returns-clause-ours : goal.returns-clause-ours
returns-clause-ours g c = subst (λ l. All (IsPassOf c.args.self.now) l) (sym (dealt g c)) (first-ours g.B.Kept.journal c.args.self.now (range_with_len 1 c.args.callers))

pub returns-clause-all : goal.returns-clause-all
returns-clause-all g c = subst (λ l. AreAll c.args.self.now l) (sym (dealt g c)) (first-all g.B.Kept.journal c.args.self.now c.args.callers (sym c.requires.callers))
