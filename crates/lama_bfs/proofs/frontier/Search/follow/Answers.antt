use Rattle.std.proofs.Common.{rules, ◌≡◌, ◌∙◌, ◌+◌, ◌<◌, [], ◌∷◌, ◌++◌, List, ap, arith, length, slice_index, subst, sym, ℕ, true}
use Rattle.std.proofs.lemmas.Bool.Decides.{nat_tests}
use Rattle.std.proofs.lemmas.List.{length-map}
use Rattle.std.specs.Prelude.{is_some}
use Rattle.lama_bfs.specs.Frontier.{is_new, is_unseen, IsRound}
use Rattle.lama_bfs.proofs.Rounds.{next-of-one, level-below, one-is}
use Rattle.lama_bfs.proofs.Seen.{seen-one, unseen-new}
use Rattle.lama_bfs.proofs.frontier.Search.follow.Goals as goal

pub loop-v-init : goal.loop-v-init
loop-v-init g c =
    let rows = g.R.Rows.rows c.args.rows.now in
    let next = c.args.self.now.next in
    let one : length next ≡ 1 = grind (arith, nat_tests, c.len.ensures, c.if-len-ne1.false) in
    let front : next ≡ slice_index c.as_slice.result.now 0 ∷ [] = one-is next one ∙ ap (λ (l : List ℕ). slice_index l 0 ∷ []) (sym c.as_slice.ensures) in
    record {
      round = subst (λ (front : List ℕ). IsRound rows c.args.source c.args.from c.args.levels.now.items front) front c.requires.round;
      seen = c.requires.seen;
      on = omega arith;
    }

pub overflow_add-level : goal.overflow_add-level
overflow_add-level g c =
    let rows = g.R.Rows.rows c.args.rows.now in
    let l = c.loop-v in
    let below = level-below rows c.args.source l.level l.levels.items (l.u ∷ []) l.invariant.round (omega arith) in
    omega (arith, below, c.requires.vertices)

pub loop-v-smaller : goal.loop-v-smaller
loop-v-smaller g c =
    let rows = g.R.Rows.rows c.args.rows.now in
    let l = c.loop-v in
    let below = level-below rows c.args.source l.level l.levels.items (l.u ∷ []) l.invariant.round (omega arith) in
    omega (arith, below)

pub loop-v-preserved : goal.loop-v-preserved
loop-v-preserved g c =
    let rows = g.R.Rows.rows c.args.rows.now in
    let l = c.loop-v in
    let v = c.in-Some.v in
    let found = l.levels.items in
    let seen = l.self.seen.items in
    let h = c.in-Some.ensures in
    let new : is_new found v ≡ true =
    sym (unseen-new found v) ∙ (ap (λ seen. is_unseen seen v) (sym (c.deref.ensures.value ∙ l.invariant.seen)) ∙ h.2) in
    let size = ap length (c.deref.ensures.value ∙ l.invariant.seen) ∙ length-map found is_some in
    let within = h.1 in
    let lt : v < length found = omega (arith, size, within) in
    record {
      round = next-of-one rows c.args.source l.level found l.u v l.invariant.round c.requires.targets h.0 lt new;
      seen = seen-one found seen v (l.level + 1) l.invariant.seen;
      on = search rules;
    }

pub returns-clause-round : goal.returns-clause-round
returns-clause-round g c =
    let rows = g.R.Rows.rows c.args.rows.now in
    let l = c.loop-v in
    subst (λ (front : List ℕ). IsRound rows c.args.source l.level l.levels.items front) (sym (c.in_ok-put.ensures ∙ ap (λ (vs : List ℕ). vs ++ l.u ∷ []) c.clear.ensures))
    l.invariant.round
