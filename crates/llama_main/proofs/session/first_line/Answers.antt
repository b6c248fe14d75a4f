use Rattle.std.proofs.Common.{◌≡◌, ◌++◌, ◌∷◌, ◌+◌, ◌-◌, ap, sym, ◌∙◌, length, take, drop, arith}
use Rattle.std.proofs.lemmas.List.{take_all, length-drop}
use Rattle.llama_main.proofs.Sessions.{cut_line}
use Rattle.llama_main.proofs.session.first_line.Goals as goal

pub returns-in-Some : goal.returns-in-Some
returns-in-Some c =
    let bytes = c.args.bytes.now in
    let end = c.in-Some.end in
    let after = drop (end + 1) bytes in
    let whole : take (length bytes - (end + 1)) after ≡ after = take_all (length bytes - (end + 1)) after (omega (arith, length-drop (end + 1) bytes)) in
    (c.in-Some.ensures.2, cut_line bytes end c.in-Some.ensures.0 c.in-Some.ensures.1 ∙ ap (λ xs. take end bytes ++ 10 ∷ xs) (sym whole))
