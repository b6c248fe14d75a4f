use Rattle.std.proofs.Common.{◌≡◌, ◌<◌, ℕ, true, subst, length, arith}
use Rattle.lama_model.specs.Distances.{reach_at}
use Rattle.lama_paths.specs.Certificate.{is_within}
use Rattle.lama_paths.proofs.Certified.{certified-from, tests-from}
use Rattle.lama_paths.proofs.certificate.check.Goals as goal

pub returns : goal.returns
returns g c =
    let rows = g.R.Rows.rows c.args.rows.now in
    let reach = c.args.reach.now in
    let len : length reach ≡ length rows = (let count = c.count-count.ensures.count in let same = c.if-reach-count.false in omega (arith, count, same)) in
    let source = c.costs_nothing.ensures.0 c.if-not-costs_nothing.false in
    let within = subst (λ (n : ℕ). (v : ℕ) → v < length reach → is_within n (reach_at reach v) ≡ true) c.count-count.ensures.count (c.are_within.ensures.0 c.if-not-are_within.false) in (
      λ t. certified-from rows c.args.source reach len source within (c.are_settled.ensures.0 t),
      λ h. c.are_settled.ensures.1 (tests-from rows c.args.source reach h),
    )
