use Rattle.std.proofs.Common.{All, ◌∙◌, subst, append-nil, [], ◌∷◌, map}
use Rattle.lama_lock.specs.declared.view.Founding.{Founding}
use Rattle.lama_lock.specs.Hall.{IsPassOf, member_in}
use Rattle.lama_lock.proofs.Gathering.{split-last, gathered, known-in}
use Rattle.lama_lock.proofs.hall.Hall.gather.Goals as goal

pub loop-pass-init : goal.loop-pass-init
loop-pass-init g c =
    let t = split-last (IsPassOf c.args.self.now) c.pop.new.self.items c.in-Some.first (subst (λ l. All (IsPassOf c.args.self.now) l) c.in-Some.ensures.items c.requires.ours) in (
      c.into_seat-seat.ensures.here ∙ t.1.hall,
      t.0,
      (member_in c.in-Some.first ∷ [], c.into_seat-seat.ensures.known _ t.1.founding, gathered member_in c.args.passes.items c.pop.new.self.items c.in-Some.first [] _ c.in-Some.ensures.items (append-nil (map member_in c.args.passes.items))),
    )

pub join-requires-clause-both : goal.join-requires-clause-both
join-requires-clause-both g c =
    let f : Founding g.row.B.Denot = record { value = c.args.self.now.start; callers = c.args.self.now.callers } in
    let t = split-last (IsPassOf c.args.self.now) c.pop-in-loop-pass.new.self.items c.in-Some-pop.pass (subst (λ l. All (IsPassOf c.args.self.now) l) c.in-Some-pop.ensures.items c.loop-pass.invariant.1) in
    let l = c.loop-pass.invariant.2 in
    (f, l.0, known-in f c.in-Some-pop.pass, l.1, c.into_seat-other.ensures.known f t.1.founding)

pub loop-pass-preserved : goal.loop-pass-preserved
loop-pass-preserved g c =
    let f : Founding g.row.B.Denot = record { value = c.args.self.now.start; callers = c.args.self.now.callers } in
    let t = split-last (IsPassOf c.args.self.now) c.pop-in-loop-pass.new.self.items c.in-Some-pop.pass (subst (λ l. All (IsPassOf c.args.self.now) l) c.in-Some-pop.ensures.items c.loop-pass.invariant.1) in
    let l = c.loop-pass.invariant.2 in (
      c.join.ensures.here ∙ c.loop-pass.invariant.0,
      t.0,
      (
        member_in c.in-Some-pop.pass ∷ l.0,
        c.join.ensures.told f l.0 (known-in f c.in-Some-pop.pass) l.1 (c.into_seat-other.ensures.known f t.1.founding),
        gathered member_in c.loop-pass.passes.items c.pop-in-loop-pass.new.self.items c.in-Some-pop.pass l.0 _ c.in-Some-pop.ensures.items l.2,
      ),
    )
