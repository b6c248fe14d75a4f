use Rattle.std.proofs.Common.{◌+◌, ◌<◌, ◌≤◌, ℕ, List, length, ap, subst, arith, rules, heap_items}
use Rattle.std.specs.Prelude.{All}
use Rattle.std.proofs.lemmas.List.Elements.{All-head, All-tail}
use Rattle.lama_model.specs.Row.{row_at}
use Rattle.lama_paths.specs.Search.{tell, told, bids, IsAt}
use Rattle.lama_paths.proofs.Settling.{few-settled, finished}
use Rattle.lama_paths.proofs.Told.{length-told}
use Rattle.lama_paths.proofs.search.Search.relax_row.Goals as goal

pub relax-requires-clause-inside : goal.relax-requires-clause-inside
relax-requires-clause-inside g c =
    let rows = g.R.Rows.rows c.args.rows.now in
    let i = c.loop-v.invariant in
    let inside : c.in-Some.v < length rows = All-head (λ (p : ℕ × ℕ). p.0 < length rows) (c.in-Some.v, c.in-Some.weight) (g.R.Rows.suffix c.args.rows.now c.in-Some.rest) (subst (All (λ (p : ℕ × ℕ). p.0 < length rows)) c.in-Some.ensures.1 i.below) in
    let size = c.requires.at.1.search.len in
    let told_len = length-told g.S.Sum.value c.args.self.now.reach.items in
    let len = i.len in
    omega (arith, inside, size, told_len, len)

pub relax-requires-clause-short : goal.relax-requires-clause-short
relax-requires-clause-short g c =
    let h = c.requires.at.1 in
    let short = h.search.shorter c.args.u (tell g.S.Sum.value c.args.from.now) h.done h.reached in
    let few = few-settled c.args.self.now.settled.items in
    let size = h.search.size in
    let vertices = c.requires.vertices in
    omega (arith, short, few, size, vertices)

pub loop-v-preserved : goal.loop-v-preserved
loop-v-preserved g c =
    let value = g.S.Sum.value in
    let rows = g.R.Rows.rows c.args.rows.now in
    let cut = c.in-Some.ensures.1 in
    let i = c.loop-v.invariant in
    let kept = c.in_ok-relax.ensures {u = tt} in
    let below : All (λ (p : ℕ × ℕ). p.0 < length rows) (g.R.Rows.suffix c.args.rows.now c.in-Some.rest) = All-tail (λ (p : ℕ × ℕ). p.0 < length rows) (c.in-Some.v, c.in-Some.weight) (g.R.Rows.suffix c.args.rows.now c.in-Some.rest) (subst (All (λ (p : ℕ × ℕ). p.0 < length rows)) cut i.below) in
    let more = ap length cut in
    let few : length (bids value (heap_items c.relax.new.self.offers)) + length (g.R.Rows.suffix c.args.rows.now c.in-Some.rest) ≤ length (bids value (heap_items c.args.self.now.offers)) + length (row_at rows c.args.u) = (let a = i.few in let b = kept.few in omega (arith, more, a, b)) in
    let at : (s : ℕ) → IsAt rows s c.args.u (tell value c.args.from.now) (row_at rows c.args.u) (told value c.args.self.now.reach.items) c.args.self.now.settled.items (bids value (heap_items c.args.self.now.offers))
    → IsAt rows s c.args.u (tell value c.args.from.now) (g.R.Rows.suffix c.args.rows.now c.in-Some.rest) (told value c.relax.new.self.reach.items) c.relax.new.self.settled.items (bids value (heap_items c.relax.new.self.offers)) =
    λ s h. kept.at rows s (g.R.Rows.suffix c.args.rows.now c.in-Some.rest) (subst (λ (edges : List (ℕ × ℕ)). IsAt rows s c.args.u (tell value c.args.from.now) edges (told value c.loop-v.self.reach.items) c.loop-v.self.settled.items (bids value (heap_items c.loop-v.self.offers))) cut (i.at s h)) in
    record {
      place = search rules;
      below = search rules;
      heap = search rules;
      same = search rules;
      len = search rules;
      few = search rules;
      at = subst (λ (l : List (ℕ × ℕ)). (s : ℕ) → IsAt rows s c.args.u (tell value c.args.from.now) (row_at rows c.args.u) (told value c.args.self.now.reach.items) c.args.self.now.settled.items (bids value (heap_items c.args.self.now.offers))
          → IsAt rows s c.args.u (tell value c.args.from.now) l (told value c.relax.new.self.reach.items) c.relax.new.self.settled.items (bids value (heap_items c.relax.new.self.offers))) (search rules) at;
    }

pub returns-clause-between : goal.returns-clause-between
returns-clause-between g c = λ s h.
    let value = g.S.Sum.value in
    let rows = g.R.Rows.rows c.args.rows.now in
    finished rows s c.args.u (told value c.loop-v.self.reach.items) c.loop-v.self.settled.items (bids value (heap_items c.loop-v.self.offers)) (tell value c.args.from.now)
    (subst (λ (edges : List (ℕ × ℕ)). IsAt rows s c.args.u (tell value c.args.from.now) edges (told value c.loop-v.self.reach.items) c.loop-v.self.settled.items (bids value (heap_items c.loop-v.self.offers))) c.in_default.ensures (c.loop-v.invariant.at s h))
