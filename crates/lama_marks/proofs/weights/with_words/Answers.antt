use Rattle.std.proofs.Common.{◌≡◌, ◌∙◌, ℕ, ◌+◌, ◌<◌, List, [], ◌∷◌, ◌++◌, length, get_or, set, take, map, cond, true, false, Some, None, Option, refl, sym, ap, subst, arith}
use Rattle.std.specs.Ordering.{nat_cmp}
use Rattle.std.specs.BTreeMap.{get}
use Rattle.std.specs.Arc.{arc_value}
use Rattle.std.specs.Option.{unwrap_or}
use Rattle.std.specs.Prelude.{slice_index, ◌==◌, ◌&&◌, ◌%◌, if◌then◌else◌}
use Rattle.std.proofs.lemmas.Bool.Decides.{nat_tests}
use Rattle.std.proofs.lemmas.List.{take_more, map_push}
use Rattle.std.proofs.lemmas.Result.{IfOk-weaker}
use Rattle.lama_marks.specs.Places.{is_place, AreMarked, AreWritten}
use Rattle.lama_marks.specs.Narrow.{wide_at, value_at, values_from, weights_in, weight_word, worded, is_wide, wide_after, mark_of, marks_in, mark_word}
use Rattle.lama_marks.proofs.Placed.{marked-push, written-push, one-more}
use Rattle.lama_marks.proofs.Columns.{length-values, value-read, marks-none, marked-values, written-values, wide_after-push, none-wide, weights-kept, weights-pushed, refused, place-more}
use Rattle.lama_marks.proofs.weights.with_words.Goals as goal

pub loop-place-preserved : goal.loop-place-preserved
loop-place-preserved g c =
    let places = c.args.places.now in
    let i = c.loop-place.place-index in
    let place = get_or places i (0, 0) in
    let now = c.loop-place.edit.items in
    record {
      written = subst (λ ps. AreWritten ps c.in_ok-edit.edit.items c.set.new.self.items) (sym (ap (map worded) (take_more places i (0, 0) c.loop-place-test.true) ∙ map_push worded (take i places) place))
          (written-push (map worded (take i places)) (worded place) c.in_ok-edit.edit.items now c.set.new.self.items c.loop-place.invariant.written (subst (λ xs. place.0 < length xs) (sym c.in_ok-edit.ensures.items) (c.requires i (0, 0) c.loop-place-test.true)) (c.in_ok-set.ensures.items ∙ ap (λ w. set now place.0 w) c.word_of.ensures));
      made = one-more c.loop-place.pages c.set.new.pages c.args.pages.now i _ c.in_ok-set.ensures.made c.loop-place.invariant.made;
    }
