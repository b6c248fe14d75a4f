use Rattle.std.proofs.Common.{◌≡◌, ◌∙◌, ℕ, ap, sym, None}
use Rattle.std.specs.Map.{lookup}
use Rattle.std.specs.Ordering.{nat_cmp}
use Rattle.std.specs.BTreeMap.{get, is_at}
use Rattle.lama_model.specs.Row.{row_at}
use Rattle.lama_delta.proofs.RowLemmas.{none-gone, none-set, nil-of}
use Rattle.lama_delta.proofs.row_writes.old_edges.Goals as goal

pub returns-then-is_empty-clause-killed : goal.returns-then-is_empty-clause-killed
returns-then-is_empty-clause-killed g c =
    let none : (v : ℕ) → get nat_cmp c.args.fates.now v ≡ None = λ v. ap (λ es. lookup (is_at (nat_cmp v)) es) (nil-of c.args.fates.now.entries (c.is_empty.ensures.0 c.if-is_empty.true)) in
    c.new.ensures.items ∙ sym (none-gone 0 (get nat_cmp c.args.fates.now) none (row_at (g.R.Rows.rows c.args.rows.now) c.args.source))

pub returns-then-is_empty-clause-set : goal.returns-then-is_empty-clause-set
returns-then-is_empty-clause-set g c =
    let none : (v : ℕ) → get nat_cmp c.args.fates.now v ≡ None = λ v. ap (λ es. lookup (is_at (nat_cmp v)) es) (nil-of c.args.fates.now.entries (c.is_empty.ensures.0 c.if-is_empty.true)) in
    c.new-2.ensures.items ∙ sym (none-set 0 (get nat_cmp c.args.fates.now) none (row_at (g.R.Rows.rows c.args.rows.now) c.args.source))
