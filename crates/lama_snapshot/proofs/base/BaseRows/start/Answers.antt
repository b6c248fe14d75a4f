use Rattle.std.proofs.Common.{◌≡◌, ◌∙◌, length, take, ap, subst, sym, refl, Some, []}
use Rattle.std.specs.Prelude.{IsSome, unwrap_or}
use Rattle.lama_model.specs.Row.{row_at}
use Rattle.lama_snapshot.specs.BaseRows.{base_slots, base_suffix}
use Rattle.lama_snapshot.proofs.RowFrom.{base_suffix-at}
use Rattle.lama_snapshot.proofs.base.BaseRows.start.Goals as goal

pub returns : goal.returns
returns c =
    let all = c.args.self.now.rows in
    let v = c.args.v in
    let f = c.fragment.ensures in
    let is : base_suffix all c.fragment.result.offset c.fragment.result.left ≡ Some (row_at all v) =
    ap (λ o. base_suffix all o c.fragment.result.left) f.offset ∙ (ap (base_suffix all (length (base_slots (take v all)))) f.left ∙ base_suffix-at all v c.requires) in
    record { place = subst IsSome (sym is) refl; whole = ap (λ r. unwrap_or r []) is }
