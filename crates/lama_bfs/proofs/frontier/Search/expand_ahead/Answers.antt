use Rattle.std.proofs.Common.{◌≡◌, ◌∙◌, ◌+◌, ◌-◌, ◌∷◌, ◌++◌, ap, arith, drop, map, sym, take}
use Rattle.std.specs.List.{flat_map}
use Rattle.std.proofs.lemmas.List.{drop-drop, take-append-drop}
use Rattle.lama_bfs.specs.Frontier.{targets_of, see_all}
use Rattle.lama_bfs.proofs.Marks.{targets-join}
use Rattle.lama_bfs.proofs.Seen.{Seen, see-append}
use Rattle.lama_bfs.proofs.frontier.Search.expand_ahead.Goals as goal

pub loop-start-preserved : goal.loop-start-preserved
loop-start-preserved g c =
    let rows = g.R.Rows.rows c.args.rows.now in
    let us = c.args.us.now in
    let i = c.loop-start.start in
    let n = c.min-len.result in
    let s : Seen = (c.loop-start.self.seen.items, c.loop-start.self.next) in
    let some = c.loop-start-test.true in
    let len = c.min-len.ensures in
    let part = take (i + n - i) (drop i us) in
    let rest = drop (i + n) us in
    let size : i + n - i ≡ n = omega arith in
    let cut : drop i us ≡ part ++ rest = sym (ap (λ k. take k (drop i us) ++ rest) size ∙ (ap (λ l. take n (drop i us) ++ l) (sym (drop-drop n i us)) ∙ take-append-drop n (drop i us))) in
    let found = ap (flat_map (λ first. first.0 ∷ map (λ p. p.0) (g.R.Rows.suffix c.args.rows.now first.1))) c.deref.ensures.value
    ∙ (c.in_ok-look_up.ensures.targets ∙ ap (λ l. flat_map (λ first. first.0 ∷ map (λ p. p.0) (g.R.Rows.suffix c.args.rows.now first.1)) l ++ targets_of rows part) c.clear.ensures.items) in
    record {
      within = omega (arith, some, len);
      left =
          ap (see_all (targets_of rows rest)) (c.in_ok-mark_firsts.ensures ∙ ap (λ ts. see_all ts s) found)
          ∙ (sym (see-append (targets_of rows part) (targets_of rows rest) s)
          ∙ (sym (ap (λ l. see_all l s) (ap (targets_of rows) cut ∙ targets-join rows part rest))
          ∙ c.loop-start.invariant.left));
    }
