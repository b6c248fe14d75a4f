use Rattle.std.proofs.Common.{◌≡◌, ◌∙◌, ◌+◌, ◌-◌, ◌∷◌, ◌++◌, ap, append_assoc, arith, drop, map, sym, take}
use Rattle.std.specs.Prelude.{filter}
use Rattle.std.specs.List.{flat_map}
use Rattle.std.proofs.lemmas.List.{drop-drop, take-append-drop}
use Rattle.lama_bfs.specs.Frontier.{is_unseen, targets_of, new_targets}
use Rattle.lama_bfs.proofs.Marks.{new-joins}
use Rattle.lama_bfs.proofs.frontier.new_targets.Goals as goal

pub loop-start-preserved : goal.loop-start-preserved
loop-start-preserved g c =
    let rows = g.R.Rows.rows c.args.rows.now in
    let levels = c.args.seen.now in
    let us = c.args.us.now in
    let i = c.loop-start.start in
    let n = c.min-len.result in
    let before = c.loop-start.found in
    let some = c.loop-start-test.true in
    let len = c.min-len.ensures in
    let part = take (i + n - i) (drop i us) in
    let rest = drop (i + n) us in
    let size : i + n - i ≡ n = omega arith in
    let cut : drop i us ≡ part ++ rest = sym (ap (λ k. take k (drop i us) ++ rest) size ∙ (ap (λ l. take n (drop i us) ++ l) (sym (drop-drop n i us)) ∙ take-append-drop n (drop i us))) in
    let found = ap (flat_map (λ first. first.0 ∷ map (λ p. p.0) (g.R.Rows.suffix c.args.rows.now first.1))) c.deref.ensures.value
    ∙ (c.in_ok-look_up.ensures.targets ∙ ap (λ l. flat_map (λ first. first.0 ∷ map (λ p. p.0) (g.R.Rows.suffix c.args.rows.now first.1)) l ++ targets_of rows part) c.clear.ensures.items) in
    record {
      within = omega (arith, some, len);
      left =
          ap (λ l. l ++ new_targets rows levels rest) (c.in_ok-push_firsts.ensures ∙ ap (λ ts. before ++ filter (is_unseen levels) ts) found)
          ∙ (append_assoc before (new_targets rows levels part) (new_targets rows levels rest)
          ∙ (sym (ap (λ l. before ++ l) (ap (new_targets rows levels) cut ∙ new-joins rows levels part rest))
          ∙ c.loop-start.invariant.left));
    }
