use Rattle.std.proofs.Common.{◌≡◌, ◌∙◌, ℕ, ◌+◌, ◌<◌, ◌≤◌, List, Option, None, Some, length, sym, ap, subst, refl, arith, heap_items}
use Rattle.std.proofs.lemmas.List.Sorted.{length_permutation}
use Rattle.lama_model.specs.declared.reach.Reach.{Reach}
use Rattle.lama_model.specs.Distances.{IsNoMore, cost_of, reach_at}
use Rattle.lama_model.proofs.RouteLemmas.{no_more-both}
use Rattle.lama_model.proofs.CertificateLaw.{some-one}
use Rattle.lama_paths.specs.declared.search.Step.{Step}
use Rattle.lama_paths.specs.Search.{tell, told, bids, IsAt}
use Rattle.lama_paths.proofs.Searching.{kept, offered-made, reparented, no_more-same}
use Rattle.lama_paths.proofs.Told.{told-set, length-told, told-at, comes}
use Rattle.lama_paths.proofs.search.Search.relax.Goals as goal

-- an edge more, with the sum as it was added
abbrev found_by : {S : Type 0} → Step S → ℕ → S → Step S
found_by from u sum = record { sum = sum; hops = from.hops + 1; parent = u }

-- an entry of the told list is within it
inside-told : {S : Type 0} (value : S → ℕ) (xs : List (Option (Step S))) (v : ℕ) → v < length xs → v < length (told value xs)
inside-told value xs v lt = let e = length-told value xs in omega (arith, lt, e)

pub returns-in_ok-offer-in-None-index-clause-at : goal.returns-in_ok-offer-in-None-index-clause-at
returns-in_ok-offer-in-None-index-clause-at g c = λ rows s edges h.
    let value = g.S.Sum.value in
    let steps = c.args.self.now.reach.items in
    let reach : List (Option Reach) = told value steps in
    let step = found_by c.args.from.now c.args.u c.in-Some.sum in
    let found : Reach = tell value step in
    let none : reach_at reach c.args.v ≡ None = told-at value steps c.args.v c.index.result.now None c.requires.inside c.index.ensures c.in-None-index.is in
    let narrow = c.ranges.weight.fits in
    let better : (r : Reach) → reach_at reach c.args.v ≡ Some r → IsNoMore (cost_of found) (cost_of r) × (cost_of found ≡ cost_of r → c.args.u ≤ r.parent) = λ r is. absurd (let e : None ≡ Some r = sym none ∙ is in cc) in
    let kept = c.in_ok-offer-in-None-index.ensures {u = tt} in
    offered-made rows s c.args.u (tell value c.args.from.now) c.args.v c.args.weight edges reach (told value c.offer.new.self.reach.items) c.args.self.now.settled.items c.offer.new.self.settled.items (bids value (heap_items c.args.self.now.offers)) (bids value (heap_items c.offer.new.self.offers)) found h
    (inside-told value steps c.args.v c.requires.inside) (omega (arith, narrow)) (comes value c.args.from.now c.args.u c.args.weight c.in-Some.sum c.in-Some.ensures) refl better (ap (told value) kept.reach ∙ told-set value steps c.args.v (Some step)) kept.same kept.offers

pub returns-in_ok-offer-in-None-index-clause-few : goal.returns-in_ok-offer-in-None-index-clause-few
returns-in_ok-offer-in-None-index-clause-few g c =
    let many = length_permutation _ _ (c.in_ok-offer-in-None-index.ensures {u = tt}).offers in omega (arith, many)

pub returns-then-costs_less-clause-at : goal.returns-then-costs_less-clause-at
returns-then-costs_less-clause-at g c = λ rows s edges h.
    let value = g.S.Sum.value in
    let steps = c.args.self.now.reach.items in
    let reach : List (Option Reach) = told value steps in
    let step = found_by c.args.from.now c.args.u c.in-Some.sum in
    let found : Reach = tell value step in
    let known : Reach = tell value c.in-Some-index.known in
    let some : reach_at reach c.args.v ≡ Some known = told-at value steps c.args.v c.index.result.now (Some c.in-Some-index.known) c.requires.inside c.index.ensures c.in-Some-index.is in
    let narrow = c.ranges.weight.fits in
    let less = c.if-costs_less.ensures.less in
    let better : (r : Reach) → reach_at reach c.args.v ≡ Some r → IsNoMore (cost_of found) (cost_of r) × (cost_of found ≡ cost_of r → c.args.u ≤ r.parent) =
    λ r is.
    let same = some-one known r (sym some ∙ is) in
    (subst (λ (x : Reach). IsNoMore (cost_of found) (cost_of x)) same less.0, λ e. absurd (less.1 (subst (λ (x : Reach). IsNoMore (cost_of x) (cost_of found)) (sym same) (no_more-same (cost_of r) (cost_of found) (sym e))))) in
    let kept = c.in_ok-offer-in-Some-index.ensures {u = tt} in
    offered-made rows s c.args.u (tell value c.args.from.now) c.args.v c.args.weight edges reach (told value c.offer-then-costs_less.new.self.reach.items) c.args.self.now.settled.items c.offer-then-costs_less.new.self.settled.items (bids value (heap_items c.args.self.now.offers)) (bids value (heap_items c.offer-then-costs_less.new.self.offers)) found h
    (inside-told value steps c.args.v c.requires.inside) (omega (arith, narrow)) (comes value c.args.from.now c.args.u c.args.weight c.in-Some.sum c.in-Some.ensures) refl better (ap (told value) kept.reach ∙ told-set value steps c.args.v (Some step)) kept.same kept.offers

pub returns-then-costs_less-clause-few : goal.returns-then-costs_less-clause-few
returns-then-costs_less-clause-few g c =
    let many = length_permutation _ _ (c.in_ok-offer-in-Some-index.ensures {u = tt}).offers in omega (arith, many)

pub returns-then-costs_less-2-clause-at : goal.returns-then-costs_less-2-clause-at
returns-then-costs_less-2-clause-at g c = λ rows s edges h.
    let value = g.S.Sum.value in
    let steps = c.args.self.now.reach.items in
    let reach : List (Option Reach) = told value steps in
    let found : Reach = tell value (found_by c.args.from.now c.args.u c.in-Some.sum) in
    let known : Reach = tell value c.in-Some-index.known in
    let some : reach_at reach c.args.v ≡ Some known = told-at value steps c.args.v c.index.result.now (Some c.in-Some-index.known) c.requires.inside c.index.ensures c.in-Some-index.is in
    let costs = comes value c.args.from.now c.args.u c.args.weight c.in-Some.sum c.in-Some.ensures in
    let less = c.if-costs_less-2.ensures.less in
    kept rows s c.args.u (tell value c.args.from.now) c.args.v c.args.weight edges reach c.args.self.now.settled.items (bids value (heap_items c.args.self.now.offers)) h known some
    (subst (IsNoMore (cost_of known)) costs less.0) (λ e. absurd (less.1 (no_more-same (cost_of found) (cost_of known) (costs ∙ e))))

pub returns-then-known-u-clause-at : goal.returns-then-known-u-clause-at
returns-then-known-u-clause-at g c = λ rows s edges h.
    let value = g.S.Sum.value in
    let steps = c.args.self.now.reach.items in
    let reach : List (Option Reach) = told value steps in
    let known : Reach = tell value c.in-Some-index.known in
    let some : reach_at reach c.args.v ≡ Some known = told-at value steps c.args.v c.index.result.now (Some c.in-Some-index.known) c.requires.inside c.index.ensures c.in-Some-index.is in
    let costs = comes value c.args.from.now c.args.u c.args.weight c.in-Some.sum c.in-Some.ensures in
    kept rows s c.args.u (tell value c.args.from.now) c.args.v c.args.weight edges reach c.args.self.now.settled.items (bids value (heap_items c.args.self.now.offers)) h known some
    (subst (IsNoMore (cost_of known)) costs c.if-costs_less.ensures.not_less) (λ e. c.if-known-u.true)

pub returns-else-known-u-clause-at : goal.returns-else-known-u-clause-at
returns-else-known-u-clause-at g c = λ rows s edges h.
    let value = g.S.Sum.value in
    let steps = c.args.self.now.reach.items in
    let reach : List (Option Reach) = told value steps in
    let step = found_by c.args.from.now c.args.u c.in-Some.sum in
    let found : Reach = tell value step in
    let known : Reach = tell value c.in-Some-index.known in
    let some : reach_at reach c.args.v ≡ Some known = told-at value steps c.args.v c.index.result.now (Some c.in-Some-index.known) c.requires.inside c.index.ensures c.in-Some-index.is in
    let narrow = c.ranges.weight.fits in
    let same : cost_of found ≡ cost_of known = no_more-both (cost_of found) (cost_of known) c.if-costs_less-2.ensures.not_less c.if-costs_less.ensures.not_less in
    let better : (r : Reach) → reach_at reach c.args.v ≡ Some r → IsNoMore (cost_of found) (cost_of r) × (cost_of found ≡ cost_of r → c.args.u ≤ r.parent) =
    λ r is.
    let one = some-one known r (sym some ∙ is) in
    (subst (λ (x : Reach). IsNoMore (cost_of found) (cost_of x)) one (no_more-same (cost_of found) (cost_of known) same), λ e. let lt = c.if-known-u.false in let p = ap (λ (x : Reach). x.parent) one in omega (arith, lt, p)) in
    let made = reparented rows s c.args.u (tell value c.args.from.now) c.args.v c.args.weight edges reach c.args.self.now.settled.items (bids value (heap_items c.args.self.now.offers)) h found (inside-told value steps c.args.v c.requires.inside) (omega (arith, narrow))
    (comes value c.args.from.now c.args.u c.args.weight c.in-Some.sum c.in-Some.ensures) refl better known some same in
    subst (λ (l : List (Option Reach)). IsAt rows s c.args.u (tell value c.args.from.now) edges l c.args.self.now.settled.items (bids value (heap_items c.args.self.now.offers))) (sym (told-set value steps c.args.v (Some step))) made
