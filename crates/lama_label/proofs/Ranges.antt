-- What is taken from lists one after another.
use Rattle.std.proofs.Common.{◌≡◌, ◌∙◌, ℕ, List, [], ◌∷◌, ◌++◌, length, take, drop, ap, refl, arith}
use Rattle.std.proofs.lemmas.List.{append-nil, drop_all, take_all as take_whole}
use Rattle.lama_label.specs.Lowering.{take_all, take_edges}

pub take-append : (ps qs : List (ℕ × ℕ)) (ls : List ℕ) → take_all (ps ++ qs) ls ≡ take_all qs (take_all ps ls)
take-append [] qs ls = refl
take-append (p ∷ ps) qs ls = take-append ps qs _

pub edges-append : (es fs : List (ℕ × ℕ)) (ls : List ℕ) → take_edges (es ++ fs) ls ≡ take_edges fs (take_edges es ls)
edges-append [] fs ls = refl
edges-append (e ∷ es) fs ls = edges-append es fs _

-- what is written over a whole list
pub written-whole : (n : ℕ) (xs old : List ℕ) → length xs ≡ length old → n ≡ length old → take n (xs ++ drop (length xs) old) ≡ xs
written-whole n xs old same size =
    ap (λ l. take n (xs ++ l)) (drop_all (length xs) old (omega (arith, same)))
    ∙ (ap (take n) (append-nil xs) ∙ take_whole n xs (omega (arith, same, size)))
