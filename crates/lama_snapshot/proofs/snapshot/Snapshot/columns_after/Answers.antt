use Rattle.std.proofs.Common.{◌∙◌, List, length, ap, subst, arith, ℕ}
use Rattle.lama_delta.specs.Seen.{seen_rows}
use Rattle.lama_snapshot.specs.Found.{AreHidden, AreSet}
use Rattle.lama_snapshot.proofs.Known.{length-killed, length-set_slots}
use Rattle.lama_snapshot.proofs.snapshot.Snapshot.columns_after.Goals as goal

pub hide_killed-requires : goal.hide_killed-requires
hide_killed-requires g c = (seen_rows c.args.rows.now, c.requires, c.deref.ensures.value ∙ c.in_ok-found.ensures.killed)

pub weigh_set-requires : goal.weigh_set-requires
weigh_set-requires g c = (seen_rows c.args.rows.now, c.requires, c.deref-2.ensures.value ∙ c.in_ok-found.ensures.set)

pub returns-clause-marks : goal.returns-clause-marks
returns-clause-marks g c = subst (λ (xs : List (ℕ × ℕ)). AreHidden xs c.args.number c.args.self.now.columns.marks c.in_ok-hidden.hidden.items) (c.deref.ensures.value ∙ c.in_ok-found.ensures.killed) c.in_ok-hidden.ensures.marks

pub returns-clause-weights : goal.returns-clause-weights
returns-clause-weights g c = subst (λ (xs : List (ℕ × (ℕ × ℕ))). AreSet xs c.args.self.now.columns.weights c.in_ok-weights.weights.items) (c.deref-2.ensures.value ∙ c.in_ok-found.ensures.set) c.in_ok-weights.ensures.weights

pub returns-in_err-hidden-clause-made : goal.returns-in_err-hidden-clause-made
returns-in_err-hidden-clause-made g c =
    let made = c.hide_killed.ensures.made in
    let a = ap length (c.deref.ensures.value ∙ c.in_ok-found.ensures.killed) in
    let b = length-killed c.args.self.now (seen_rows c.args.rows.now) in
    omega (arith, made, a, b)

pub returns-in_err-weights-clause-made : goal.returns-in_err-weights-clause-made
returns-in_err-weights-clause-made g c =
    let made = c.hide_killed.ensures.made in
    let a = ap length (c.deref.ensures.value ∙ c.in_ok-found.ensures.killed) in
    let b = length-killed c.args.self.now (seen_rows c.args.rows.now) in
    let made' = c.weigh_set.ensures.made in
    let a' = ap length (c.deref-2.ensures.value ∙ c.in_ok-found.ensures.set) in
    let b' = length-set_slots c.args.self.now (seen_rows c.args.rows.now) in
    omega (arith, made, a, b, made', a', b')

pub returns-clause-made : goal.returns-clause-made
returns-clause-made g c =
    let made = c.hide_killed.ensures.made in
    let a = ap length (c.deref.ensures.value ∙ c.in_ok-found.ensures.killed) in
    let b = length-killed c.args.self.now (seen_rows c.args.rows.now) in
    let made' = c.weigh_set.ensures.made in
    let a' = ap length (c.deref-2.ensures.value ∙ c.in_ok-found.ensures.set) in
    let b' = length-set_slots c.args.self.now (seen_rows c.args.rows.now) in
    omega (arith, made, a, b, made', a', b')
