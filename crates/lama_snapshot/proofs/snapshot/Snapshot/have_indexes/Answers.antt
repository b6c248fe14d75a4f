use Rattle.std.proofs.Common.{◌≡◌, ◌∙◌, ◌+◌, ◌<◌, ◌++◌, ◌∷◌, [], ℕ, map, refl, length, get_or, take, ap, sym, subst, arith}
use Rattle.std.specs.Prelude.{All, IsTrue}
use Rattle.std.proofs.lemmas.Bool.{false≢true}
use Rattle.std.proofs.lemmas.List.{length-map, take_more, take_all}
use Rattle.std.proofs.lemmas.List.Elements.{All-push}
use Rattle.std.specs.List.Sorted.{IsStrictlyIncreasing}
use Rattle.lama_model.specs.Change.{RowChange}
use Rattle.lama_model.specs.Fits.{HasIndexes}
use Rattle.lama_delta.specs.Seen.{seen_row, seen_rows}
use Rattle.lama_snapshot.proofs.ChainLemmas.{get-map}
use Rattle.lama_snapshot.proofs.snapshot.Snapshot.have_indexes.Goals as goal

pub has_indexes-requires-clause-killed : goal.has_indexes-requires-clause-killed
has_indexes-requires-clause-killed c =
    let r = seen_row c.row-item.result in
    let rows = seen_rows c.args.rows.now in
    let lt : c.loop-row.row-index < length rows = let n = length-map c.args.rows.now seen_row in let t = c.loop-row-test.true in omega (arith, n, t) in
    let is : get_or rows c.loop-row.row-index r ≡ r = get-map seen_row c.args.rows.now c.loop-row.row-index c.row-item.result r c.loop-row-test.true ∙ ap seen_row (sym c.row-item.is) in
    subst (λ (x : RowChange). IsStrictlyIncreasing x.killed) is (c.requires c.loop-row.row-index r lt).0

pub has_indexes-requires-clause-set : goal.has_indexes-requires-clause-set
has_indexes-requires-clause-set c =
    let r = seen_row c.row-item.result in
    let rows = seen_rows c.args.rows.now in
    let lt : c.loop-row.row-index < length rows = let n = length-map c.args.rows.now seen_row in let t = c.loop-row-test.true in omega (arith, n, t) in
    let is : get_or rows c.loop-row.row-index r ≡ r = get-map seen_row c.args.rows.now c.loop-row.row-index c.row-item.result r c.loop-row-test.true ∙ ap seen_row (sym c.row-item.is) in
    subst (λ (x : RowChange). IsStrictlyIncreasing (map (λ (p : ℕ × ℕ). p.0) x.set)) is (c.requires c.loop-row.row-index r lt).1

pub returns-then-not-has_indexes : goal.returns-then-not-has_indexes
returns-then-not-has_indexes c =
    let r = seen_row c.row-item.result in
    let rows = seen_rows c.args.rows.now in
    let lt : c.loop-row.row-index < length rows = let n = length-map c.args.rows.now seen_row in let t = c.loop-row-test.true in omega (arith, n, t) in
    let is : get_or rows c.loop-row.row-index r ≡ r = get-map seen_row c.args.rows.now c.loop-row.row-index c.row-item.result r c.loop-row-test.true ∙ ap seen_row (sym c.row-item.is) in
    (λ t. absurd (false≢true t), λ h. subst IsTrue c.if-not-has_indexes.true (c.has_indexes.ensures.1 (subst (HasIndexes c.args.self.now.rows) is (h c.loop-row.row-index r lt))))

pub loop-row-preserved : goal.loop-row-preserved
loop-row-preserved c =
    let r = seen_row c.row-item.result in
    let rows = seen_rows c.args.rows.now in
    let lt : c.loop-row.row-index < length rows = let n = length-map c.args.rows.now seen_row in let t = c.loop-row-test.true in omega (arith, n, t) in
    let is : get_or rows c.loop-row.row-index r ≡ r = get-map seen_row c.args.rows.now c.loop-row.row-index c.row-item.result r c.loop-row-test.true ∙ ap seen_row (sym c.row-item.is) in
    let more : take c.loop-row.row-index rows ++ r ∷ [] ≡ take (c.loop-row.row-index + 1) rows = sym (take_more rows c.loop-row.row-index r lt ∙ ap (λ x. take c.loop-row.row-index rows ++ x ∷ []) is) in
    subst (All (HasIndexes c.args.self.now.rows)) more (All-push (HasIndexes c.args.self.now.rows) (take c.loop-row.row-index rows) r c.loop-row.invariant (c.has_indexes.ensures.0 c.if-not-has_indexes.false))

pub returns : goal.returns
returns c =
    let rows = seen_rows c.args.rows.now in
    let n = length-map c.args.rows.now seen_row in
    let t = c.loop-row-test.false in
    let all : take c.loop-row.row-index rows ≡ rows = take_all c.loop-row.row-index rows (omega (arith, n, t)) in
    (λ h. subst (All (HasIndexes c.args.self.now.rows)) all c.loop-row.invariant, λ h. refl)
