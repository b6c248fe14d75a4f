use Rattle.std.proofs.Common.{◌≡◌, ◌∙◌, ◌+◌, ◌-◌, ◌++◌, ap, append_assoc, arith, drop, sym, take}
use Rattle.std.proofs.lemmas.List.{drop-drop, take-append-drop}
use Rattle.lama_bfs.specs.Frontier.{new_targets}
use Rattle.lama_bfs.proofs.Marks.{new-joins}
use Rattle.lama_bfs.proofs.frontier.new_flat_targets.Goals as goal

pub loop-start-preserved : goal.loop-start-preserved
loop-start-preserved g c =
    let rows = g.R.Rows.rows c.args.rows.now in
    let seen = c.args.seen.now in
    let us = c.args.us.now in
    let i = c.loop-start.start in
    let n = c.min-len.result in
    let before = c.loop-start.found in
    let some = c.loop-start-test.true in
    let len = c.min-len.ensures in
    let part = take (i + n - i) (drop i us) in
    let rest = drop (i + n) us in
    let size : i + n - i ≡ n = omega arith in
    let cut : drop i us ≡ part ++ rest = sym (ap (λ k. take k (drop i us) ++ rest) size ∙ (ap (λ l. take n (drop i us) ++ l) (sym (drop-drop n i us)) ∙ take-append-drop n (drop i us))) in
    record {
      within = omega (arith, some, len);
      left =
          ap (λ l. l ++ new_targets rows seen rest) c.in_ok-push_rows.ensures
          ∙ (append_assoc before (new_targets rows seen part) (new_targets rows seen rest)
          ∙ (sym (ap (λ l. before ++ l) (ap (new_targets rows seen) cut ∙ new-joins rows seen part rest))
          ∙ c.loop-start.invariant.left));
    }
