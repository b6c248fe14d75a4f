use Rattle.std.proofs.Common.{◌≡◌, ◌∙◌, ℕ, ◌+◌, ◌<◌, List, [], ◌∷◌, ◌++◌, length, get_or, set, take, map, cond, true, false, Some, None, Option, refl, sym, ap, subst, arith}
use Rattle.std.specs.Ordering.{nat_cmp}
use Rattle.std.specs.BTreeMap.{get}
use Rattle.std.specs.Arc.{arc_value}
use Rattle.std.specs.Option.{unwrap_or}
use Rattle.std.specs.Prelude.{slice_index, ◌==◌, ◌&&◌, ◌%◌, if◌then◌else◌}
use Rattle.std.proofs.lemmas.Bool.Decides.{nat_tests}
use Rattle.std.proofs.lemmas.List.{take_more, map_push}
use Rattle.std.proofs.lemmas.Result.{IfOk-weaker}
use Rattle.lama_marks.specs.Places.{is_place, AreMarked, AreWritten}
use Rattle.lama_marks.specs.Narrow.{wide_at, value_at, values_from, weights_in, weight_word, worded, is_wide, wide_after, mark_of, marks_in, mark_word}
use Rattle.lama_marks.proofs.Placed.{marked-push, written-push, one-more}
use Rattle.lama_marks.proofs.Columns.{length-values, value-read, marks-none, marked-values, written-values, wide_after-push, none-wide, weights-kept, weights-pushed, refused, place-more}
use Rattle.lama_marks.proofs.weights.Weights.weight.Goals as goal

pub get-word-requires : goal.get-word-requires
get-word-requires c = omega (arith, c.requires, length-values (λ w. w) 4294967295 (wide_at (λ a. get nat_cmp (arc_value a)) c.self.inside.wide.values) 0 c.self.inside.words, ap length c.self.view_is)

pub returns-then-word : goal.returns-then-word
returns-then-word c =
    let wide = wide_at (λ a. get nat_cmp (arc_value a)) c.self.inside.wide.values in
    let within : c.args.i < length c.self.inside.words = omega (arith, c.requires, length-values (λ w. w) 4294967295 wide 0 c.self.inside.words, ap length c.self.view_is) in
    let read : slice_index c.args.self.now c.args.i ≡ value_at (λ w. w) 4294967295 (wide c.args.i) c.get-word.result = ap (λ l. slice_index l c.args.i) (sym c.self.view_is) ∙ value-read (λ w. w) 4294967295 wide c.self.inside.words c.args.i c.get-word.result within c.get-word.ensures in
    c.get.ensures ∙ sym (read ∙ ap (λ w. value_at (λ w. w) 4294967295 (wide c.args.i) w) c.if-word.true)

pub returns : goal.returns
returns c =
    let wide = wide_at (λ a. get nat_cmp (arc_value a)) c.self.inside.wide.values in
    let within : c.args.i < length c.self.inside.words = omega (arith, c.requires, length-values (λ w. w) 4294967295 wide 0 c.self.inside.words, ap length c.self.view_is) in
    let read : slice_index c.args.self.now c.args.i ≡ value_at (λ w. w) 4294967295 (wide c.args.i) c.get-word.result = ap (λ l. slice_index l c.args.i) (sym c.self.view_is) ∙ value-read (λ w. w) 4294967295 wide c.self.inside.words c.args.i c.get-word.result within c.get-word.ensures in
    let not_wide : (c.get-word.result == 4294967295) ≡ false = grind (arith, nat_tests, c.if-word.false) in
    sym (read ∙ ap (λ b. cond b (unwrap_or (wide c.args.i) 0) c.get-word.result) not_wide ∙ sym c.from.ensures)
