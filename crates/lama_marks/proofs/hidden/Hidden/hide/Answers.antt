use Rattle.std.proofs.Common.{◌≡◌, ◌∙◌, ℕ, ◌+◌, ◌-◌, ◌<◌, List, [], ◌∷◌, ◌++◌, length, get_or, set, take, map, cond, true, false, Some, None, Option, refl, sym, ap, subst, arith}
use Rattle.std.specs.Ordering.{nat_cmp}
use Rattle.std.specs.BTreeMap.{get}
use Rattle.std.specs.Arc.{arc_value}
use Rattle.std.specs.Option.{unwrap_or}
use Rattle.std.specs.Prelude.{slice_index, ◌==◌, ◌&&◌, ◌%◌, if◌then◌else◌}
use Rattle.std.proofs.lemmas.Bool.Decides.{nat_tests}
use Rattle.std.proofs.lemmas.List.{take_more, map_push}
use Rattle.std.proofs.lemmas.Result.{IfOk-weaker}
use Rattle.lama_marks.specs.Places.{is_place, AreMarked, AreWritten}
use Rattle.lama_marks.specs.Narrow.{wide_at, value_at, values_from, weights_in, weight_word, worded, is_wide, wide_after, mark_of, marks_beside, marks_in, mark_word}
use Rattle.lama_marks.proofs.Placed.{marked-push, written-push, one-more}
use Rattle.lama_marks.proofs.Columns.{length-values, value-read, marks-none, marked-values, written-values, wide_after-push, none-wide, weights-kept, weights-pushed, refused, place-more}
use Rattle.lama_marks.proofs.hidden.Hidden.hide.Goals as goal

pub with_word-requires : goal.with_word-requires
with_word-requires g c k d lt =
    let below = c.requires k d lt in
    omega (arith, below, length-values (mark_of c.self.inside.below) 65535 (marks_beside (wide_at (λ a. get nat_cmp (arc_value a)) c.self.inside.wide.values)) 0 c.self.inside.words, ap length c.self.view_is)

pub returns-clause-marks : goal.returns-clause-marks
returns-clause-marks g c =
    let below = c.self.inside.below in
    let wide = wide_at (λ a. get nat_cmp (arc_value a)) c.self.inside.wide.values in
    let wide' = wide_at (λ a. get nat_cmp (arc_value a)) c.in_ok-wide.wide.values in
    subst (λ old. AreMarked c.args.places.now c.args.number old (marks_in below wide' c.in_ok-words.words)) c.self.view_is
    (marked-values below wide wide' c.args.places.now c.args.number c.self.inside.words c.in_ok-words.words
    (subst (λ w. AreMarked c.args.places.now w c.self.inside.words c.in_ok-words.words) c.word_of-word.ensures c.in_ok-words.ensures.words)
    (subst (λ w. (i : ℕ) → wide' i ≡ (if (w == 65535) && is_place i c.args.places.now then Some (c.args.number - 1) else wide i)) c.word_of-word.ensures c.in_ok-wide.ensures))
