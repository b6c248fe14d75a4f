use Rattle.std.proofs.Common.{◌≡◌, ◌∙◌, ℕ, ◌+◌, ◌-◌, ◌<◌, List, [], ◌∷◌, ◌++◌, length, get_or, set, take, map, cond, true, false, Some, None, Option, refl, sym, ap, subst, arith}
use Rattle.std.specs.Ordering.{nat_cmp}
use Rattle.std.specs.BTreeMap.{get}
use Rattle.std.specs.Arc.{arc_value}
use Rattle.std.specs.Option.{unwrap_or}
use Rattle.std.specs.Prelude.{slice_index, ◌==◌, ◌&&◌, ◌%◌, if◌then◌else◌}
use Rattle.std.proofs.lemmas.Bool.Decides.{nat_tests}
use Rattle.std.proofs.lemmas.List.{take_more, map_push}
use Rattle.std.proofs.lemmas.Result.{IfOk-weaker}
use Rattle.lama_marks.specs.Places.{is_place, AreMarked, AreWritten}
use Rattle.lama_marks.specs.Narrow.{wide_at, value_at, values_from, weights_in, weight_word, worded, is_wide, wide_after, mark_of, marks_in, mark_word}
use Rattle.lama_marks.proofs.Placed.{marked-push, written-push, one-more}
use Rattle.lama_marks.proofs.Columns.{length-values, value-read, marks-none, marked-values, written-values, wide_after-push, none-wide, weights-kept, weights-pushed, refused, place-more}
use Rattle.lama_marks.proofs.hidden.with_wide.Goals as goal

pub returns-then-word-ne-WIDE : goal.returns-then-word-ne-WIDE
returns-then-word-ne-WIDE c =
    let fits : (c.args.word == 65535) ≡ false = grind (arith, nat_tests, c.if-word-ne-WIDE.true) in
    IfOk-weaker c.share.result (λ new. wide_at (λ a. get nat_cmp (arc_value a)) new.values ≡ wide_at (λ a. get nat_cmp (arc_value a)) c.args.wide.now.values)
    (λ new. (i : ℕ) → wide_at (λ a. get nat_cmp (arc_value a)) new.values i ≡ (if (c.args.word == 65535) && is_place i c.args.places.now then Some (c.args.number - 1) else wide_at (λ a. get nat_cmp (arc_value a)) c.args.wide.now.values i))
    (λ new same i. ap (λ f. f i) same ∙ sym (ap (λ b. cond (b && is_place i c.args.places.now) (Some (c.args.number - 1)) (wide_at (λ a. get nat_cmp (arc_value a)) c.args.wide.now.values i)) fits))
    c.share.ensures

pub loop-place-preserved : goal.loop-place-preserved
loop-place-preserved c i =
    let places = c.args.places.now in
    let k = c.loop-place.place-index in
    let place = get_or places k 0 in
    c.in_ok-put.ensures.ok i
    ∙ ap (λ v. cond (place == i) (Some v) (get nat_cmp c.loop-place.all i)) c.saturating_sub.ensures
    ∙ ap (λ v. cond (place == i) (Some (v - 1)) (get nat_cmp c.loop-place.all i)) c.from.ensures
    ∙ ap (λ o. cond (place == i) (Some (c.args.number - 1)) o) (c.loop-place.invariant i)
    ∙ place-more i (take k places) place (c.args.number - 1) (get nat_cmp c.in_ok-all.all i)
    ∙ ap (λ ps. cond (is_place i ps) (Some (c.args.number - 1)) (get nat_cmp c.in_ok-all.all i)) (sym (take_more places k 0 c.loop-place-test.true))
