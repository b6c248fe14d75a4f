use Rattle.std.proofs.Common.{◌≡◌, ◌∙◌, ℕ, ◌+◌, ◌<◌, List, [], ◌∷◌, ◌++◌, length, get_or, set, take, map, cond, true, false, Some, None, Option, refl, sym, ap, subst, arith}
use Rattle.std.specs.Ordering.{nat_cmp}
use Rattle.std.specs.BTreeMap.{get}
use Rattle.std.specs.Arc.{arc_value}
use Rattle.std.specs.Option.{unwrap_or}
use Rattle.std.specs.Prelude.{slice_index, ◌==◌, ◌&&◌, ◌%◌, if◌then◌else◌}
use Rattle.std.proofs.lemmas.Bool.Decides.{nat_tests}
use Rattle.std.proofs.lemmas.List.{take_more, map_push}
use Rattle.std.proofs.lemmas.Result.{IfOk-weaker}
use Rattle.lama_marks.specs.Places.{is_place, AreMarked, AreWritten}
use Rattle.lama_marks.specs.Narrow.{wide_at, value_at, values_from, weights_in, weight_word, worded, is_wide, wide_after, mark_of, marks_in, mark_word}
use Rattle.lama_marks.proofs.Placed.{marked-push, written-push, one-more}
use Rattle.lama_marks.proofs.Columns.{length-values, value-read, marks-none, marked-values, written-values, wide_after-push, none-wide, weights-kept, weights-pushed, refused, place-more}
use Rattle.lama_marks.proofs.weights.with_wide.Goals as goal

pub returns-then-all_fit : goal.returns-then-all_fit
returns-then-all_fit c =
    IfOk-weaker c.share.result (λ new. wide_at (λ a. get nat_cmp (arc_value a)) new.values ≡ wide_at (λ a. get nat_cmp (arc_value a)) c.args.wide.now.values)
    (λ new. (i : ℕ) → wide_at (λ a. get nat_cmp (arc_value a)) new.values i ≡ wide_after i c.args.places.now (wide_at (λ a. get nat_cmp (arc_value a)) c.args.wide.now.values i))
    (λ new same i. ap (λ f. f i) same ∙ sym (none-wide i c.args.places.now (wide_at (λ a. get nat_cmp (arc_value a)) c.args.wide.now.values i) (c.all_fit.ensures c.if-all_fit.true)))
    c.share.ensures

pub loop-place-preserved : goal.loop-place-preserved
loop-place-preserved c i =
    let places = c.args.places.now in
    let k = c.loop-place.place-index in
    let place = get_or places k (0, 0) in
    c.in_ok-put_wide.ensures.ok i
    ∙ ap (λ o. cond ((place.0 == i) && is_wide place.1) (Some place.1) o) (c.loop-place.invariant i)
    ∙ sym (wide_after-push i (take k places) place (get nat_cmp c.in_ok-all.all i))
    ∙ ap (λ ps. wide_after i ps (get nat_cmp c.in_ok-all.all i)) (sym (take_more places k (0, 0) c.loop-place-test.true))
