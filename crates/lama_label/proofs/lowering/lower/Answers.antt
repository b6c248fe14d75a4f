use Rattle.std.proofs.Common.{arith, length, subst, sym}
use Rattle.std.specs.List.{flat_map, range_with_len}
use Rattle.std.proofs.lemmas.List.FromFn.{length-range_with_len, get_or-range_with_len}
use Rattle.lama_label.specs.Lowering.{AreLow, AreSettled, IsLowered}
use Rattle.lama_label.proofs.Lowered.{lowered-own, low-own}
use Rattle.lama_label.proofs.lowering.lower.Goals as goal

pub returns-clause-low : goal.returns-clause-low
returns-clause-low g c = λ h low are.
    let ls = c.lower_ends.new.labels in
    let before = c.in_ok-lower_ends.ensures.low h low are in
    let n = before.len in
    subst (AreLow h) (sym c.shorten.ensures) (low-own h (range_with_len 0 (length ls)) ls before (λ k d lt.
    let size = length-range_with_len 0 (length ls) in
    let is = get_or-range_with_len 0 (length ls) k d (omega (arith, lt, size)) in
    omega (arith, is, lt, size, n)))

pub returns-clause-lowered : goal.returns-clause-lowered
returns-clause-lowered g c =
    let ls = c.args.labels.now in
    subst (λ l. IsLowered ls l (AreSettled (flat_map (λ piece. piece.items) c.args.edges.now) ls)) (sym c.shorten.ensures)
    (lowered-own ls c.lower_ends.new.labels (range_with_len 0 (length c.lower_ends.new.labels)) c.in_ok-lower_ends.ensures.lowered)
