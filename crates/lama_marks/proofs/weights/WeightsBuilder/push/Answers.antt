use Rattle.std.proofs.Common.{◌≡◌, ◌∙◌, ℕ, ◌+◌, ◌<◌, List, [], ◌∷◌, ◌++◌, length, get_or, set, take, map, cond, true, false, Some, None, Option, refl, sym, ap, subst, arith}
use Rattle.std.specs.Ordering.{nat_cmp}
use Rattle.std.specs.BTreeMap.{get}
use Rattle.std.specs.Arc.{arc_value}
use Rattle.std.specs.Option.{unwrap_or}
use Rattle.std.specs.Prelude.{slice_index, ◌==◌, ◌&&◌, ◌%◌, if◌then◌else◌}
use Rattle.std.proofs.lemmas.Bool.Decides.{nat_tests}
use Rattle.std.proofs.lemmas.List.{take_more, map_push}
use Rattle.std.proofs.lemmas.Result.{IfOk-weaker}
use Rattle.lama_marks.specs.Places.{is_place, AreMarked, AreWritten}
use Rattle.lama_marks.specs.Narrow.{wide_at, value_at, values_from, weights_in, weight_word, worded, is_wide, wide_after, mark_of, marks_in, mark_word}
use Rattle.lama_marks.proofs.Placed.{marked-push, written-push, one-more}
use Rattle.lama_marks.proofs.Columns.{length-values, value-read, marks-none, marked-values, written-values, wide_after-push, none-wide, values-same, weights-kept, weights-pushed, refused, place-more}
use Rattle.lama_marks.proofs.weights.WeightsBuilder.push.Goals as goal

pub returns-in_err-put_wide-clause-items : goal.returns-in_err-put_wide-clause-items
returns-in_err-put_wide-clause-items g c =
    let words = c.self.inside.words in
    values-same (λ w. w) 4294967295 (get nat_cmp c.put_wide.new.all) (get nat_cmp c.self.inside.wide) 0 words (λ i lt. c.in_err-put_wide.ensures.err i)
    ∙ c.self.view_is
    ∙ sym (refused c.from_residual.result (c.args.self.now ++ c.args.weight ∷ []) c.args.self.now c.from_residual.ensures.0)

pub push-requires : goal.push-requires
push-requires g c = omega (arith, c.requires, length-values (λ w. w) 4294967295 (get nat_cmp c.self.inside.wide) 0 c.self.inside.words, ap length c.self.view_is)

pub returns-in_err-push-clause-items : goal.returns-in_err-push-clause-items
returns-in_err-push-clause-items g c =
    let words = c.self.inside.words in
    let wide = get nat_cmp c.self.inside.wide in
    let wide' = get nat_cmp c.put_wide.new.all in
    ap (λ ws. weights_in wide' ws) c.in_err-push.ensures.items
    ∙ weights-kept wide wide' c.self.inside.len c.args.weight c.in_ok-put_wide.ensures.ok words c.self.invariant
    ∙ c.self.view_is
    ∙ sym (refused c.from_residual-in_err-push.result (c.args.self.now ++ c.args.weight ∷ []) c.args.self.now c.from_residual-in_err-push.ensures.0)

pub overflow_add-self : goal.overflow_add-self
overflow_add-self g c = omega (arith, c.requires, c.self.invariant, length-values (λ w. w) 4294967295 (get nat_cmp c.self.inside.wide) 0 c.self.inside.words, ap length c.self.view_is)

pub returns-clause-items : goal.returns-clause-items
returns-clause-items g c =
    let words = c.self.inside.words in
    let wide = get nat_cmp c.self.inside.wide in
    let wide' = get nat_cmp c.put_wide.new.all in
    ap (λ ws. weights_in wide' ws) c.in_ok-push.ensures.items
    ∙ ap (λ w. weights_in wide' (words ++ w ∷ [])) c.word_of.ensures
    ∙ weights-pushed wide wide' c.self.inside.len c.args.weight c.in_ok-put_wide.ensures.ok words c.self.invariant
    ∙ ap (λ s. s ++ c.args.weight ∷ []) c.self.view_is

pub returns-clause-made : goal.returns-clause-made
returns-clause-made g c =
    let size : length c.self.inside.words ≡ length c.args.self.now = sym (length-values (λ w. w) 4294967295 (get nat_cmp c.self.inside.wide) 0 c.self.inside.words) ∙ ap length c.self.view_is in
    c.in_ok-push.ensures.made ∙ ap (λ k. c.args.pages.now + (if k % 256 == 0 then 1 else 0)) size
