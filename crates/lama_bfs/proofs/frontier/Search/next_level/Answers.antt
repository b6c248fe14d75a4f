use Rattle.std.proofs.Common.{◌≡◌, ◌∙◌, List, ℕ, [], ap, map, subst, sym, length}
use Rattle.std.specs.Prelude.{is_some}
use Rattle.lama_model.specs.Row.{AreTargetsBelow}
use Rattle.lama_bfs.specs.Frontier.{targets_of, see_all, give, AreMarked}
use Rattle.lama_bfs.proofs.Rounds.{from-all}
use Rattle.lama_bfs.proofs.Seen.{found, marked, seen-again}
use Rattle.lama_bfs.proofs.frontier.Search.next_level.Goals as goal

pub returns-clause-seen : goal.returns-clause-seen
returns-clause-seen g c =
    let rows = g.R.Rows.rows c.args.rows.now in
    let before = c.args.levels.now.items in
    let next = c.from_frontier.new.self.next in
    let seen = c.from_frontier.new.self.seen.items in
    let us = c.as_slice.result.now in
    let is : (seen, next) ≡ see_all (targets_of rows us) (found before, []) = c.in_ok-from_frontier.ensures ∙ (λ j. see_all (targets_of rows us) (c.requires.seen j, c.clear.ensures j)) in
    seen-again c.args.level (targets_of rows us) before seen next is ∙ ap (map is_some) (sym (c.give_levels.ensures ∙ ap (λ vs. give c.args.level vs before) c.as_slice-2.ensures))

pub returns-clause-levels : goal.returns-clause-levels
returns-clause-levels g c =
    let rows = g.R.Rows.rows c.args.rows.now in
    let level = c.args.level in
    let before = c.args.levels.now.items in
    let next = c.from_frontier.new.self.next in
    let seen = c.from_frontier.new.self.seen.items in
    let us = c.as_slice.result.now in
    let is : (seen, next) ≡ see_all (targets_of rows us) (found before, []) = c.in_ok-from_frontier.ensures ∙ (λ j. see_all (targets_of rows us) (c.requires.seen j, c.clear.ensures j)) in
    let given = c.give_levels.ensures ∙ ap (λ vs. give level vs before) c.as_slice-2.ensures in
    let same : us ≡ c.args.self.now.next = c.as_slice.ensures ∙ c.swap.ensures.x_after in
    let targets : AreTargetsBelow (length rows) rows = subst (λ n. AreTargetsBelow n rows) c.count-count.ensures.count c.count-count.ensures.targets in
    subst (λ (us : List ℕ). AreMarked level (targets_of rows us) before c.give_levels.new.levels.items next) same
    (subst (λ l. AreMarked level (targets_of rows us) before l next) (sym given)
    (from-all level rows us before (give level next before) next targets c.requires.whole (marked level (targets_of rows us) before seen next is)))
