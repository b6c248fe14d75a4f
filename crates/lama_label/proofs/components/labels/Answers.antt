use Rattle.std.proofs.Common.{◌≡◌, ◌∙◌, ◌++◌, ap, arith, drop, length, subst, sym, take, true≢false}
use Rattle.std.specs.Prelude.{sum}
use Rattle.std.specs.List.{flat_map, range_with_len}
use Rattle.std.proofs.lemmas.Bool.Decides.{nat_tests}
use Rattle.std.proofs.lemmas.List.FromFn.{length-range_with_len}
use Rattle.lama_model.specs.Row.{graph_of_rows, AreTargetsBelow}
use Rattle.lama_model.specs.Row.{edges_from}
use Rattle.lama_label.specs.Lowering.{AreLow, AreEdgesOf, AreSettled, IsLowered}
use Rattle.lama_label.proofs.Settled.{first-low, edges-of, settled-labels}
use Rattle.lama_label.proofs.Ranges.{written-whole}
use Rattle.lama_label.proofs.components.labels.Goals as goal

pub total-sum-requires : goal.total-sum-requires
total-sum-requires g c =
    let size = ap length (c.deref.ensures.value ∙ c.in_ok-labels.ensures) ∙ length-range_with_len 0 c.count-count.result in
    omega (arith, size, c.count-count.ensures.count, c.requires.vertices)

pub loop-changed-init : goal.loop-changed-init
loop-changed-init g c =
    let rows = g.R.Rows.rows c.args.rows.now in
    record {
      low = first-low (graph_of_rows rows) c.in_ok-labels.labels.items (c.in_ok-labels.ensures ∙ ap (range_with_len 0) c.count-count.ensures.count);
      total = c.total-sum.ensures ∙ ap sum c.deref.ensures.value;
      settled = λ e. absurd (true≢false e);
    }

pub loop-changed-preserved : goal.loop-changed-preserved
loop-changed-preserved g c =
    let rows = g.R.Rows.rows c.args.rows.now in
    let targets : AreTargetsBelow (length rows) rows = subst (λ n. AreTargetsBelow n rows) c.count-count.ensures.count c.count-count.ensures.targets in
    let l = c.loop-changed in
    let ls = l.labels.items in
    let ls' = c.lower.new.labels in
    let es = edges_from rows (range_with_len 0 (length rows)) in
    let all : flat_map (λ piece. piece.items) c.deref-in-loop-changed.result.now ≡ es = ap (flat_map (λ piece. piece.items)) c.deref-in-loop-changed.ensures.value ∙ c.in_ok-edges.ensures.edges in
    let mine : c.deref_mut.result.now ≡ ls = c.deref_mut.ensures.value in
    let low : AreLow (graph_of_rows rows) ls' = c.in_ok-lower.ensures.low (graph_of_rows rows) (subst (AreLow (graph_of_rows rows)) (sym mine) l.invariant.low) (subst (AreEdgesOf (graph_of_rows rows)) (sym all) (edges-of rows targets)) in
    let size : l.labels.len ≡ length ls = omega (arith, l.labels.ok.0) in
    let here : take l.labels.len (ls' ++ drop (length ls') ls) ≡ ls' = written-whole l.labels.len ls' ls (low.len ∙ sym l.invariant.low.len) size in
    let lowered : IsLowered ls ls' (AreSettled es ls) = subst (λ k. IsLowered k ls' (AreSettled es k)) mine (subst (λ es. IsLowered c.deref_mut.result.now ls' (AreSettled es c.deref_mut.result.now)) all c.in_ok-lower.ensures.lowered) in
    let now_is : c.total-now.result ≡ sum ls' = c.total-now.ensures ∙ ap sum (c.deref-in-loop-changed-2.ensures.value ∙ here) in
    record {
      low = subst (AreLow (graph_of_rows rows)) (sym here) low;
      total = now_is ∙ ap sum (sym here);
      settled = λ e.
          let less = lowered.less in
          let was = l.invariant.total in
          let eq : sum ls' ≡ sum ls = grind (arith, nat_tests, e, less, now_is, was) in
          let s = lowered.same eq in
          subst (AreSettled es) (sym (here ∙ s.0)) s.1;
    }

pub returns : goal.returns
returns g c =
    let rows = g.R.Rows.rows c.args.rows.now in
    let targets : AreTargetsBelow (length rows) rows = subst (λ n. AreTargetsBelow n rows) c.count-count.ensures.count c.count-count.ensures.targets in
    settled-labels rows targets c.loop-changed.labels.items c.loop-changed.invariant.low (c.loop-changed.invariant.settled c.loop-changed-test.false)
