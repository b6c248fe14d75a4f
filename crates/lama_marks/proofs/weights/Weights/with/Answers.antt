use Rattle.std.proofs.Common.{◌≡◌, ◌∙◌, ℕ, ◌+◌, ◌<◌, List, [], ◌∷◌, ◌++◌, length, get_or, set, take, map, cond, true, false, Some, None, Option, refl, sym, ap, subst, arith}
use Rattle.std.specs.Ordering.{nat_cmp}
use Rattle.std.specs.BTreeMap.{get}
use Rattle.std.specs.Arc.{arc_value}
use Rattle.std.specs.Option.{unwrap_or}
use Rattle.std.specs.Prelude.{slice_index, ◌==◌, ◌&&◌, ◌%◌, if◌then◌else◌}
use Rattle.std.proofs.lemmas.Bool.Decides.{nat_tests}
use Rattle.std.proofs.lemmas.List.{take_more, map_push}
use Rattle.std.proofs.lemmas.Result.{IfOk-weaker}
use Rattle.lama_marks.specs.Places.{is_place, AreMarked, AreWritten}
use Rattle.lama_marks.specs.Narrow.{wide_at, value_at, values_from, weights_in, weight_word, worded, is_wide, wide_after, mark_of, marks_in, mark_word}
use Rattle.lama_marks.proofs.Placed.{marked-push, written-push, one-more}
use Rattle.lama_marks.proofs.Columns.{length-values, value-read, marks-none, marked-values, written-values, wide_after-push, none-wide, weights-kept, weights-pushed, refused, place-more}
use Rattle.lama_marks.proofs.weights.Weights.with.Goals as goal

pub with_words-requires : goal.with_words-requires
with_words-requires g c k d lt =
    let below = c.requires k d lt in
    omega (arith, below, length-values (λ w. w) 4294967295 (wide_at (λ a. get nat_cmp (arc_value a)) c.self.inside.wide.values) 0 c.self.inside.words, ap length c.self.view_is)

pub returns-clause-weights : goal.returns-clause-weights
returns-clause-weights g c =
    let wide = wide_at (λ a. get nat_cmp (arc_value a)) c.self.inside.wide.values in
    let wide' = wide_at (λ a. get nat_cmp (arc_value a)) c.in_ok-wide.wide.values in
    subst (λ old. AreWritten c.args.places.now old (weights_in wide' c.in_ok-words.words)) c.self.view_is
    (written-values wide wide' c.args.places.now c.self.inside.words c.in_ok-words.words c.in_ok-words.ensures.words c.in_ok-wide.ensures)
