use Rattle.std.proofs.Common.{◌≡◌, ◌∙◌, ℕ, ◌+◌, ◌<◌, List, [], ◌∷◌, ◌++◌, length, get_or, set, take, map, cond, true, false, Some, None, Option, refl, sym, ap, subst, arith}
use Rattle.std.specs.Ordering.{nat_cmp}
use Rattle.std.specs.BTreeMap.{get}
use Rattle.std.specs.Arc.{arc_value}
use Rattle.std.specs.Option.{unwrap_or}
use Rattle.std.specs.Prelude.{slice_index, ◌==◌, ◌&&◌, ◌%◌, if◌then◌else◌}
use Rattle.std.proofs.lemmas.Bool.Decides.{nat_tests}
use Rattle.std.proofs.lemmas.List.{take_more, map_push}
use Rattle.std.proofs.lemmas.Result.{IfOk-weaker}
use Rattle.lama_marks.specs.Places.{is_place, AreMarked, AreWritten}
use Rattle.lama_marks.specs.Narrow.{wide_at, value_at, values_from, weights_in, weight_word, worded, is_wide, wide_after, mark_of, marks_beside, marks_in, mark_word}
use Rattle.lama_marks.proofs.Placed.{marked-push, written-push, one-more}
use Rattle.lama_marks.proofs.Columns.{length-values, value-read, stands-by, marks-none, marked-values, written-values, wide_after-push, none-wide, weights-kept, weights-pushed, refused, place-more}
use Rattle.lama_marks.proofs.hidden.Hidden.stands.Goals as goal

pub get-requires : goal.get-requires
get-requires c = omega (arith, c.requires, length-values (mark_of c.self.inside.below) 65535 (marks_beside (wide_at (λ a. get nat_cmp (arc_value a)) c.self.inside.wide.values)) 0 c.self.inside.words, ap length c.self.view_is)

pub returns : goal.returns
returns c =
    let wide = wide_at (λ a. get nat_cmp (arc_value a)) c.self.inside.wide.values in
    let within : c.args.i < length c.self.inside.words = omega (arith, c.requires, length-values (mark_of c.self.inside.below) 65535 (marks_beside wide) 0 c.self.inside.words, ap length c.self.view_is) in
    let read : slice_index c.args.self.now c.args.i ≡ value_at (mark_of c.self.inside.below) 65535 (marks_beside wide c.args.i) c.get.result = ap (λ l. slice_index l c.args.i) (sym c.self.view_is) ∙ value-read (mark_of c.self.inside.below) 65535 (marks_beside wide) c.self.inside.words c.args.i c.get.result within c.get.ensures in
    stands-by c.self.inside.below c.get.result (unwrap_or (wide c.args.i) 0) ∙ ap (λ v. v == 0) (sym read)
