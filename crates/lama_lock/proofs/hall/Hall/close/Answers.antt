use Rattle.std.proofs.Common.{◌≡◌, ℕ, List, map, length, Contains, ap, sym, ◌∙◌, subst, arith}
use Rattle.std.proofs.lemmas.List.{length-map}
use Rattle.std.proofs.lemmas.List.Elements.{All-weaker}
use Rattle.lama_model.specs.Pass.{BeginsWith, calls_by}
use Rattle.lama_lock.specs.declared.view.Stage.TheVariants.{Idle}
use Rattle.lama_lock.specs.declared.view.Member.{Member}
use Rattle.lama_lock.specs.Views.{Keeps, left}
use Rattle.lama_lock.specs.Steps.{IsClosed}
use Rattle.lama_lock.specs.Hall.{Hall, member_in}
use Rattle.lama_lock.proofs.Gathering.{all-of-map, numbers-same}
use Rattle.lama_lock.proofs.hall.Hall.close.Goals as goal
use Rattle.lama_lock.proofs.hall.Hall.close.Goals.{After-close}

pub gather-seat-requires-clause-some : goal.gather-seat-requires-clause-some
gather-seat-requires-clause-some g c =
    let few : c.self.inside.desk.table.shared.key.callers ≡ c.args.self.callers = ap (λ (h : Hall g.row.B.Denot). h.callers) c.self.view_is in
    let t = c.requires.all 1 (omega arith) (omega (arith, few, c.self.invariant.0)) in
    omega (arith, t.1, length-map c.args.passes.items (λ p. p.known.caller))

pub close-requires-clause-all : goal.close-requires-clause-all
close-requires-clause-all g c =
    let few : c.self.inside.desk.table.shared.key.callers ≡ c.args.self.callers = ap (λ (h : Hall g.row.B.Denot). h.callers) c.self.view_is in (
      map member_in c.args.passes.items,
      ap (λ m. m.0) c.gather-seat.ensures.all ∙ ap (λ (h : Hall g.row.B.Denot). left (record { value = h.start; callers = h.callers }) Idle (map member_in c.args.passes.items)) (sym c.self.view_is),
      λ n low high. subst (λ (l : List ℕ). Contains l n) (sym (numbers-same c.args.passes.items)) (c.requires.all n low (omega (arith, high, few))),
    )

closed : (g : _) (c : goal.After-close g) → IsClosed g.B.Kept.journal (Keeps g.B.Kept.fits g.B.Kept.room) (record { value = c.args.self.start; callers = c.args.self.callers }) c.close.result (map member_in c.args.passes.items)
closed g c = subst (λ (h : Hall g.row.B.Denot). IsClosed g.B.Kept.journal (Keeps g.B.Kept.fits g.B.Kept.room) (record { value = h.start; callers = h.callers }) c.close.result (map member_in c.args.passes.items)) c.self.view_is
    (c.close.ensures (map member_in c.args.passes.items)
    (ap (λ m. m.0) c.gather-seat.ensures.all ∙ ap (λ (h : Hall g.row.B.Denot). left (record { value = h.start; callers = h.callers }) Idle (map member_in c.args.passes.items)) (sym c.self.view_is)))

pub returns-clause-setting : goal.returns-clause-setting
returns-clause-setting g c = (closed g c).fit.0

pub returns-clause-began : goal.returns-clause-began
returns-clause-began g c = (closed g c).began

pub returns-clause-seen : goal.returns-clause-seen
returns-clause-seen g c = all-of-map member_in (λ m. BeginsWith (g.B.Kept.journal c.close.result) m.seen) c.args.passes.items
    (All-weaker (λ (m : Member). BeginsWith (g.B.Kept.journal c.close.result) m.seen × (m.own ≡ calls_by m.caller (length (g.B.Kept.journal c.args.self.start)) (g.B.Kept.journal c.close.result))) (λ m. BeginsWith (g.B.Kept.journal c.close.result) m.seen) (λ m t. t.0) (map member_in c.args.passes.items) (closed g c).each)

pub returns-clause-named : goal.returns-clause-named
returns-clause-named g c = (closed g c).named

pub returns-clause-own : goal.returns-clause-own
returns-clause-own g c = all-of-map member_in (λ m. m.own ≡ calls_by m.caller (length (g.B.Kept.journal c.args.self.start)) (g.B.Kept.journal c.close.result)) c.args.passes.items
    (All-weaker (λ (m : Member). BeginsWith (g.B.Kept.journal c.close.result) m.seen × (m.own ≡ calls_by m.caller (length (g.B.Kept.journal c.args.self.start)) (g.B.Kept.journal c.close.result))) (λ m. m.own ≡ calls_by m.caller (length (g.B.Kept.journal c.args.self.start)) (g.B.Kept.journal c.close.result)) (λ m t. t.1) (map member_in c.args.passes.items) (closed g c).each)
