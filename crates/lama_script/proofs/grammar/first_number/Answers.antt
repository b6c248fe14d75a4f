use Rattle.std.proofs.Common.{◌≡◌, ◌-◌, ◌∷◌, ◌∙◌, ℕ, List, length, take, drop, ap, sym}
use Rattle.std.specs.Option.{unwrap_or}
use Rattle.std.specs.List.{position}
use Rattle.std.proofs.Math.Seq.{take-length}
use Rattle.std.proofs.lemmas.List.{length-drop}
use Rattle.lama_model.specs.Script.{words, is_blank}
use Rattle.lama_script.proofs.Words.{position-or, words-found, words-missing}
use Rattle.lama_script.proofs.grammar.first_number.Goals as goal

-- the whole of what is left
left-is : (n : ℕ) (bs : List ℕ) → take (length bs - n) (drop n bs) ≡ drop n bs
left-is n bs = ap (λ k. take k (drop n bs)) (sym (length-drop n bs)) ∙ take-length (drop n bs)

pub returns-in_err-start : goal.returns-in_err-start
returns-in_err-start c = rw c.from_residual.ensures (words-missing c.args.bytes.now (sym c.word_start.ensures ∙ c.in_err-start.was))

pub returns-in-Some : goal.returns-in-Some
returns-in-Some c =
    let bytes = c.args.bytes.now in
    let start = c.in_ok-start.start in
    let text = take (length bytes - start) (drop start bytes) in
    let end = c.in-Some.end in
    let found = words-found bytes text start (sym c.word_start.ensures ∙ c.in_ok-start.was) (left-is start bytes) in
    let at : unwrap_or (position is_blank text) (length text) ≡ end = position-or is_blank text ∙ sym c.in-Some.ensures.end in
    record {
      word = take end text;
      words_are = found ∙ ap (λ k. take k text ∷ words (drop k text)) at ∙ ap (λ l. take end text ∷ words l) (sym (left-is end text));
      value_is = sym c.in-Some.ensures.number_is;
    }

pub returns : goal.returns
returns c =
    let bytes = c.args.bytes.now in
    let start = c.in_ok-start.start in
    let text = take (length bytes - start) (drop start bytes) in
    let found = words-found bytes text start (sym c.word_start.ensures ∙ c.in_ok-start.was) (left-is start bytes) in
    record {
      word = c.split_at.result.0.now;
      words_are = rw (c.split_at.ensures.front, c.split_at.ensures.back, c.unwrap_or-end.ensures, c.first_blank.ensures) found;
      value_is = c.number.ensures;
    }
