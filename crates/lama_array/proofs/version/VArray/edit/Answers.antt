use Rattle.std.proofs.Common.{◌≡◌, ◌+◌, ◌/◌, ◌∙◌, false, ap, arith, length, replicate}
use Rattle.std.specs.Arc.{arc_value}
use Rattle.std.proofs.lemmas.List.{length-map}
use Rattle.lama_array.proofs.Paged.{length-kept}
use Rattle.lama_array.proofs.version.VArray.edit.Goals as goal

pub returns-clause-owned : goal.returns-clause-owned
returns-clause-owned g c =
    let count : c.loop-page.page-index ≡ (length c.args.self.now + 255) / 256 =
    omega (
      arith,
      c.loop-page-test.false,
      c.loop-page.auto.page-index-end,
      ap length c.deref-page-items.ensures.value,
      ap length c.entries-table.ensures,
      length-map c.entries-table.result.now.items arc_value,
      c.self.invariant.covered,
      c.self.invariant.tight,
      length-kept _ _ c.self.invariant,
      ap length c.self.view_is,
    ) in
    c.loop-page.invariant.owned ∙ ap (λ k. replicate k false) count
