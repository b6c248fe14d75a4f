use Rattle.std.proofs.Common.{◌∙◌, ℕ, ◌+◌, ◌<◌, ◌≤◌, ap, arith, drop, length, map, subst, sym}
use Rattle.std.specs.Prelude.{All}
use Rattle.lama_rank.specs.Rounds.{handed, edges_of_block}
use Rattle.lama_rank.proofs.ByBlock.{part-edges, all-left, all-right, handed-append}
use Rattle.lama_rank.proofs.round.add_parts.Goals as goal

pub add_shares-requires-clause-ends : goal.add_shares-requires-clause-ends
add_shares-requires-clause-ends c =
    let ps = c.args.parts.now in
    let i = c.loop-part.part-index in
    let k = c.args.k in
    let part = c.part-item.result in
    let lt = c.loop-part-test.true in
    let edges = c.deref.result.now in
    let rest = edges_of_block (map (λ part. map (λ list. list.items) part.items) (drop (i + 1) ps)) k in
    let whole = part-edges (λ part. part.items) (λ list. list.items) ps i k part c.index.result.now edges lt c.part-item.is (c.requires.lists i part lt) c.index.ensures c.deref.ensures.value in
    subst (λ (n : ℕ). All (λ (e : ℕ × ℕ). (e.0 < length c.args.shares.now) × (c.args.start ≤ e.1) × (e.1 < c.args.start + n)) edges) (sym c.loop-part.invariant.len)
    (all-left (λ (e : ℕ × ℕ). (e.0 < length c.args.shares.now) × (c.args.start ≤ e.1) × (e.1 < c.args.start + length c.args.sums.now)) edges rest
    (subst (All (λ (e : ℕ × ℕ). (e.0 < length c.args.shares.now) × (c.args.start ≤ e.1) × (e.1 < c.args.start + length c.args.sums.now))) whole c.loop-part.invariant.ends))

pub add_shares-requires-clause-fits : goal.add_shares-requires-clause-fits
add_shares-requires-clause-fits c = λ j below.
    let ps = c.args.parts.now in
    let i = c.loop-part.part-index in
    let k = c.args.k in
    let part = c.part-item.result in
    let lt = c.loop-part-test.true in
    let shares = c.args.shares.now in
    let v = c.args.start + j in
    let edges = c.deref.result.now in
    let rest = edges_of_block (map (λ part. map (λ list. list.items) part.items) (drop (i + 1) ps)) k in
    let whole = part-edges (λ part. part.items) (λ list. list.items) ps i k part c.index.result.now edges lt c.part-item.is (c.requires.lists i part lt) c.index.ensures c.deref.ensures.value in
    let split = ap (λ es. handed shares es v) whole ∙ handed-append shares v edges rest in
    let same = c.loop-part.invariant.each j below in
    let size = c.loop-part.invariant.len in
    let fits = c.requires.fits j (omega (arith, below, size)) in
    omega (arith, same, split, fits)

pub loop-part-preserved : goal.loop-part-preserved
loop-part-preserved c =
    let ps = c.args.parts.now in
    let i = c.loop-part.part-index in
    let k = c.args.k in
    let part = c.part-item.result in
    let lt = c.loop-part-test.true in
    let shares = c.args.shares.now in
    let edges = c.deref.result.now in
    let rest = edges_of_block (map (λ part. map (λ list. list.items) part.items) (drop (i + 1) ps)) k in
    let whole = part-edges (λ part. part.items) (λ list. list.items) ps i k part c.index.result.now edges lt c.part-item.is (c.requires.lists i part lt) c.index.ensures c.deref.ensures.value in
    record {
      len = c.add_shares.auto.sums ∙ c.loop-part.invariant.len;
      ends = all-right (λ (e : ℕ × ℕ). (e.0 < length shares) × (c.args.start ≤ e.1) × (e.1 < c.args.start + length c.args.sums.now)) edges rest
          (subst (All (λ (e : ℕ × ℕ). (e.0 < length shares) × (c.args.start ≤ e.1) × (e.1 < c.args.start + length c.args.sums.now))) whole c.loop-part.invariant.ends);
      each = λ j below.
          let v = c.args.start + j in
          let split = ap (λ es. handed shares es v) whole ∙ handed-append shares v edges rest in
          let size = c.add_shares.auto.sums in
          let same = c.loop-part.invariant.each j (omega (arith, below, size)) in
          let more = c.add_shares.ensures.each j below in
          omega (arith, same, split, more);
    }
