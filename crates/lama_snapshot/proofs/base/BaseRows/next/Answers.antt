use Rattle.std.proofs.Common.{◌≡◌, ◌∙◌, ℕ, ◌+◌, ◌-◌, ◌^◌, ◌<◌, length, ap, subst, sym, arith, Some, get_or, [], ◌∷◌}
use Rattle.std.specs.Prelude.{IsSome, unwrap_or, slice_get}
use Rattle.std.proofs.lemmas.Option.{slice_get_within, get_or_from_slice_get}
use Rattle.lama_edges.specs.declared.records.Slot.TheVariants.{Edge}
use Rattle.lama_snapshot.specs.Fragments.{row_from}
use Rattle.lama_snapshot.specs.BaseRows.{base_slots, base_weights, base_suffix}
use Rattle.lama_snapshot.proofs.RowFrom.{row_from-step, base-length}
use Rattle.lama_snapshot.proofs.base.BaseRows.next.Goals as goal

pub target-target-requires : goal.target-target-requires
target-target-requires c =
    let inv = c.self.invariant in
    let rows = ap (λ b. b.rows) c.self.view_is in
    let slots = inv.slots_are ∙ ap base_slots rows in
    let left : 0 < c.args.at.left = omega arith in
    let step = row_from-step (base_slots c.args.self.now.rows) (base_weights c.args.self.now.rows) (λ s. Some []) c.args.at.offset c.args.at.left left c.requires in
    record { target = step.target; slot_is = ap (λ xs. slice_get xs c.args.at.offset) slots ∙ step.slot_is }

pub overflow_add-rest : goal.overflow_add-rest
overflow_add-rest c =
    let within = slice_get_within c.self.inside.edges c.args.at.offset (Edge c.target-target.result) c.target-target.ensures in
    let l = ap length c.self.invariant.slots_are in
    let few = base-length _ c.self.invariant.few c.self.invariant.vertices in
    let below : c.args.at.offset + 1 < 2 ^ 32 = omega (arith, within, l, few) in
    record { fits = below }

pub weight-requires : goal.weight-requires
weight-requires c =
    let inv = c.self.invariant in
    let rows = ap (λ b. b.rows) c.self.view_is in
    let some : IsSome (row_from c.self.inside.edges c.self.inside.weights (λ s. Some []) c.args.at.offset c.args.at.left) =
    subst IsSome (ap (λ xs. row_from xs (base_weights c.args.self.now.rows) (λ s. Some []) c.args.at.offset c.args.at.left) (sym (inv.slots_are ∙ ap base_slots rows))
    ∙ ap (λ xs. row_from c.self.inside.edges xs (λ s. Some []) c.args.at.offset c.args.at.left) (sym (inv.weights_are ∙ ap base_weights rows))) c.requires in
    let left : 0 < c.args.at.left = omega arith in
    let step = row_from-step c.self.inside.edges c.self.inside.weights (λ s. Some []) c.args.at.offset c.args.at.left left some in
    slice_get_within c.self.inside.weights c.args.at.offset step.weight step.weight_is

pub returns : goal.returns
returns c =
    let inv = c.self.invariant in
    let rows = ap (λ b. b.rows) c.self.view_is in
    let slots = inv.slots_are ∙ ap base_slots rows in
    let weights = inv.weights_are ∙ ap base_weights rows in
    let left : 0 < c.args.at.left = omega arith in
    let step = row_from-step (base_slots c.args.self.now.rows) (base_weights c.args.self.now.rows) (λ s. Some []) c.args.at.offset c.args.at.left left c.requires in
    let same : Some (Edge step.target) ≡ Some (Edge c.target-target.result) = sym step.slot_is ∙ (ap (λ xs. slice_get xs c.args.at.offset) (sym slots) ∙ c.target-target.ensures) in
    let target : step.target ≡ c.target-target.result = cc in
    let weight : step.weight ≡ c.weight.result = sym (get_or_from_slice_get (base_weights c.args.self.now.rows) c.args.at.offset step.weight 0 step.weight_is) ∙ (ap (λ xs. get_or xs c.args.at.offset 0) (sym weights) ∙ sym c.weight.ensures) in
    let whole = ap (λ r. unwrap_or r []) step.reads in
    let is : (step.target, step.weight) ≡ (c.target-target.result, c.weight.result) = cc in
    (step.some, whole ∙ ap (λ (p : ℕ × ℕ). p ∷ unwrap_or (base_suffix c.args.self.now.rows (c.args.at.offset + 1) (c.args.at.left - 1)) []) is)
