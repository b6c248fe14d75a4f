use Rattle.std.proofs.Common.{rules, ◌≡◌, ◌∙◌, ◌+◌, List, [], ◌∷◌, ◌++◌, ap, arith, length, slice_set, subst, sym, ℕ, Some}
use Rattle.std.proofs.lemmas.Bool.Decides.{nat_tests}
use Rattle.lama_bfs.specs.Frontier.{IsRound}
use Rattle.lama_bfs.proofs.Rounds.{first-round, next-round, level-below, last-round, empty-is}
use Rattle.lama_bfs.proofs.Seen.{seen-first}
use Rattle.lama_bfs.proofs.breadth_first.levels.Goals as goal

pub loop-alloc-init : goal.loop-alloc-init
loop-alloc-init g c =
    let rows = g.R.Rows.rows c.args.rows.now in
    let n = c.count-count.result in
    let s = c.args.source in
    let found = slice_set c.in_ok-levels.levels.items s (Some 0) in
    record {
      round = subst (λ (front : List ℕ). IsRound rows s 0 found front) (sym (c.in_ok-put.ensures ∙ ap (λ l. l ++ s ∷ []) c.new-next.ensures))
          (first-round rows s found (search rules) c.requires.source);
      seen = seen-first n s c.in_ok-seen.seen.items c.in_ok-levels.levels.items (search rules) (search rules);
      flat = tt;
    }

pub overflow_add-level : goal.overflow_add-level
overflow_add-level g c =
    let rows = g.R.Rows.rows c.args.rows.now in
    let s = c.args.source in
    let n = c.in_ok-level.field-0 in
    let h = c.in_ok-level.ensures in
    let found = c.follow.new.levels.items in
    let front = c.follow.new.self.next in
    let below = level-below rows s n found front h.round h.some in
    omega (arith, below, c.requires.vertices)

pub loop-alloc-smaller : goal.loop-alloc-smaller
loop-alloc-smaller g c =
    let rows = g.R.Rows.rows c.args.rows.now in
    let s = c.args.source in
    let n = c.in_ok-level.field-0 in
    let h = c.in_ok-level.ensures in
    let found = c.follow.new.levels.items in
    let front = c.follow.new.self.next in
    let below = level-below rows s n found front h.round h.some in
    let on = h.on in
    omega (arith, below, on)

pub loop-alloc-preserved : goal.loop-alloc-preserved
loop-alloc-preserved g c =
    let rows = g.R.Rows.rows c.args.rows.now in
    let s = c.args.source in
    let n = c.in_ok-level.field-0 in
    let found = c.follow.new.levels.items in
    let front = c.follow.new.self.next in
    let found' = c.next_level.new.levels.items in
    let front' = c.next_level.new.self.next in
    record {
      seen = c.in_ok-next_level.ensures.seen;
      flat = c.in_ok-next_level.ensures.flat;
      round = next-round rows s n found front c.in_ok-level.ensures.round found' front' c.in_ok-next_level.ensures.levels;
    }

pub returns : goal.returns
returns g c =
    let rows = g.R.Rows.rows c.args.rows.now in
    let s = c.args.source in
    let l = c.loop-alloc in
    let none : length l.search.next ≡ 0 = grind (arith, nat_tests, c.len.ensures, c.loop-alloc-test.false) in
    let round = subst (λ (front : List ℕ). IsRound rows s l.level l.levels.items front) (empty-is l.search.next none) l.invariant.round in
    last-round rows s l.level l.levels.items round
