use Rattle.std.proofs.Common.{◌≡◌, ◌-◌, length, take, drop, ap, sym, ◌∙◌}
use Rattle.std.proofs.Math.Seq.{take-length}
use Rattle.std.proofs.lemmas.List.{length-drop}
use Rattle.lama_script.proofs.Words.{words-found, words-missing}
use Rattle.lama_script.proofs.grammar.first_word.Goals as goal

pub returns-in_err-start : goal.returns-in_err-start
returns-in_err-start c = rw c.from_residual.ensures (words-missing c.args.bytes.now (sym c.word_start.ensures ∙ c.in_err-start.was))

pub returns : goal.returns
returns c =
    let bytes = c.args.bytes.now in
    let start = c.in_ok-start.start in
    let tail = take (length bytes - start) (drop start bytes) in
    let same : tail ≡ drop start bytes = ap (λ n. take n (drop start bytes)) (sym (length-drop start bytes)) ∙ take-length (drop start bytes) in
    let found = words-found bytes tail start (sym c.word_start.ensures ∙ c.in_ok-start.was) same in
    rw (c.split_at.ensures.front, c.split_at.ensures.back, c.unwrap_or-end.ensures, c.first_blank.ensures) found
