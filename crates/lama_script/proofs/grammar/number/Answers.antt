use Rattle.std.proofs.Common.{◌∙◌, sym, ap, drop, arith, get_or, length, ◌+◌, ◌*◌, ◌-◌}
use Rattle.std.proofs.lemmas.List.{drop_more}
use Rattle.std.proofs.lemmas.Bool.{eqb-true, eqb-false}
use Rattle.std.proofs.Math.ListN.{drop_of_length-le}
use Rattle.lama_script.proofs.Numbers.{number_from, number-empty, number-start, number_from-end, number_from-bad, number_from-step, number_from-over}
use Rattle.lama_script.proofs.grammar.number.Goals as goal

pub returns-then-is_empty : goal.returns-then-is_empty
returns-then-is_empty c = sym (number-empty c.args.word.now (eqb-true (length c.args.word.now) 0 (sym c.is_empty.ensures ∙ c.if-is_empty.true)))

pub loop-byte-init : goal.loop-byte-init
loop-byte-init c = record {
  within = omega arith;
  rest = number-start c.args.word.now (omega (arith, eqb-false (length c.args.word.now) 0 (sym c.is_empty.ensures ∙ c.if-is_empty.false)));
}

pub returns-then-not-is_ascii_digit : goal.returns-then-not-is_ascii_digit
returns-then-not-is_ascii_digit c =
    let word = c.args.word.now in
    let more = ap (number_from c.loop-byte.value) (drop_more word c.loop-byte.byte-index 0 c.loop-byte-test.true) in
    sym (number_from-bad c.loop-byte.value (get_or word c.loop-byte.byte-index 0) (drop (c.loop-byte.byte-index + 1) word)
    (sym c.is_ascii_digit.ensures.value ∙ c.if-not-is_ascii_digit.true)) ∙ sym more ∙ c.loop-byte.invariant.rest

pub returns-then-value-from : goal.returns-then-value-from
returns-then-value-from c =
    let word = c.args.word.now in
    let byte = get_or word c.loop-byte.byte-index 0 in
    let rest = drop (c.loop-byte.byte-index + 1) word in
    let more = ap (number_from c.loop-byte.value) (drop_more word c.loop-byte.byte-index 0 c.loop-byte-test.true) in
    let step = number_from-step c.loop-byte.value byte rest (sym c.is_ascii_digit.ensures.value ∙ c.if-not-is_ascii_digit.false) in
    let over = number_from-over (c.loop-byte.value * 10 + (byte - 48)) rest (omega arith) in
    sym over ∙ sym step ∙ sym more ∙ c.loop-byte.invariant.rest

pub loop-byte-preserved : goal.loop-byte-preserved
loop-byte-preserved c =
    let word = c.args.word.now in
    let byte = get_or word c.loop-byte.byte-index 0 in
    let rest = drop (c.loop-byte.byte-index + 1) word in
    let more = ap (number_from c.loop-byte.value) (drop_more word c.loop-byte.byte-index 0 c.loop-byte-test.true) in
    let step = number_from-step c.loop-byte.value byte rest (sym c.is_ascii_digit.ensures.value ∙ c.if-not-is_ascii_digit.false) in
    record { within = omega arith; rest = rw c.from.ensures (sym step ∙ sym more ∙ c.loop-byte.invariant.rest) }

pub returns : goal.returns
returns c =
    let done = drop_of_length-le c.args.word.now (c.loop-byte-test.false) in
    sym (number_from-end c.loop-byte.value c.loop-byte.invariant.within) ∙ ap (number_from c.loop-byte.value) (sym done) ∙ c.loop-byte.invariant.rest
