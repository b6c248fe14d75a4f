use Rattle.std.proofs.Common.{◌≡◌, ◌∙◌, ap, arith, length, map, subst, sym}
use Rattle.std.specs.Prelude.{All}
use Rattle.std.specs.List.{flat_map}
use Rattle.lama_label.specs.Lowering.{offered, take_all, AreLow, AreEdgesOf, AreSettled, IsLowered}
use Rattle.lama_label.proofs.Lowered.{kept-edges, low-edges, low-all}
use Rattle.lama_label.proofs.Rounds.{copied, copies-long, offered-are, all-are, low-in-pieces, lowered-in-pieces}
use Rattle.lama_label.proofs.lowering.lower_ends.Goals as goal

pub returns-then-edges-eq1-clause-low : goal.returns-then-edges-eq1-clause-low
returns-then-edges-eq1-clause-low g c = λ h low are.
    subst (AreLow h) (sym c.take_lists.ensures) (low-edges h (flat_map (λ piece. piece.items) c.args.edges.now) c.args.labels.now low are)

pub returns-then-edges-eq1-clause-lowered : goal.returns-then-edges-eq1-clause-lowered
returns-then-edges-eq1-clause-lowered g c =
    let ls = c.args.labels.now in
    let es = flat_map (λ piece. piece.items) c.args.edges.now in
    subst (λ l. IsLowered ls l (AreSettled es ls)) (sym c.take_lists.ensures) (kept-edges es ls)

pub take_copies-requires : goal.take_copies-requires
take_copies-requires g c = λ k d lt.
    let long = subst (All (λ copy. length copy.items ≡ length c.args.labels.now)) (sym c.deref.ensures.value) (copies-long (λ copy. copy.items) (λ piece. piece.items) c.args.labels.now c.in_ok-copies.copies.items c.args.edges.now c.in_ok-copies.ensures) in
    let here = long k d lt in
    let small = c.requires.small in
    omega (arith, here, small)

pub returns-clause-low : goal.returns-clause-low
returns-clause-low g c = λ h low are.
    let ls = c.args.labels.now in
    let ess = map (λ piece. piece.items) c.args.edges.now in
    let said = ap (flat_map (λ copy. offered 0 copy.items)) c.deref.ensures.value ∙ offered-are (λ copy. copy.items) (λ piece. piece.items) ls c.in_ok-copies.copies.items c.args.edges.now c.in_ok-copies.ensures in
    let is = c.take_copies.ensures ∙ ap (λ ps. take_all ps ls) said in
    subst (AreLow h) (sym is) (low-all h (copied ls ess) ls low (low-in-pieces ls h low ess (subst (AreEdgesOf h) (all-are (λ piece. piece.items) c.args.edges.now) are)))

pub returns-clause-lowered : goal.returns-clause-lowered
returns-clause-lowered g c =
    let ls = c.args.labels.now in
    let ess = map (λ piece. piece.items) c.args.edges.now in
    let said = ap (flat_map (λ copy. offered 0 copy.items)) c.deref.ensures.value ∙ offered-are (λ copy. copy.items) (λ piece. piece.items) ls c.in_ok-copies.copies.items c.args.edges.now c.in_ok-copies.ensures in
    let is = c.take_copies.ensures ∙ ap (λ ps. take_all ps ls) said in
    subst (λ l. IsLowered ls l (AreSettled (flat_map (λ piece. piece.items) c.args.edges.now) ls)) (sym is)
    (subst (λ all. IsLowered ls (take_all (copied ls ess) ls) (AreSettled all ls)) (sym (all-are (λ piece. piece.items) c.args.edges.now)) (lowered-in-pieces ls ess))
