use Rattle.std.proofs.Common.{◌≡◌, ◌∙◌, ◌<◌, ℕ, List, length, ap, sym, subst}
use Rattle.std.specs.Prelude.{All}
use Rattle.lama_model.specs.Row.{row_at}
use Rattle.lama_delta.specs.Seen.{seen_row}
use Rattle.lama_snapshot.proofs.snapshot.Snapshot.find_row.Goals as goal

pub find_killed-requires : goal.find_killed-requires
find_killed-requires c =
    let len : length (row_at c.args.self.now.rows c.args.row.now.source) ≡ length c.deref.result.now = sym (ap length c.deref.ensures.value ∙ c.in_ok-cells.ensures.len) in
    subst (λ ks. All (λ k. k < length c.deref.result.now) ks) (sym c.deref-2.ensures.value) (subst (λ n. All (λ k. k < n) (seen_row c.args.row.now).killed) len c.requires.killed)

pub find_set-requires : goal.find_set-requires
find_set-requires c =
    let len : length (row_at c.args.self.now.rows c.args.row.now.source) ≡ length c.deref-3.result.now = sym (ap length c.deref-3.ensures.value ∙ c.in_ok-cells.ensures.len) in
    subst (λ (ps : List (ℕ × ℕ)). All (λ (p : ℕ × ℕ). p.0 < length c.deref-3.result.now) ps) (sym c.deref-4.ensures.value) (subst (λ n. All (λ (p : ℕ × ℕ). p.0 < n) (seen_row c.args.row.now).set) len c.requires.set)
