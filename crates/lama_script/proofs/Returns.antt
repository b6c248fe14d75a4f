-- A line without the carriage return at its end.
use Rattle.std.proofs.Common.{◌≡◌, refl, ap, ◌∙◌, ℕ, suc, ◌-◌, Bool, true, false, nat_eq, List, [], ◌∷◌, length, take, cond, ◌&&◌, arith}
use Rattle.std.specs.List.{ends_with}
use Rattle.std.proofs.lemmas.Bool.Decides.{nat_tests}
use Rattle.lama_model.specs.Script.{without_return}

eqb_swap : (a b : ℕ) → nat_eq a b ≡ nat_eq b a
eqb_swap a b = grind (arith, nat_tests)

cons-cond : (b : ℕ) (t : Bool) (xs ys : List ℕ) → b ∷ cond t xs ys ≡ cond t (b ∷ xs) (b ∷ ys)
cons-cond b true xs ys = refl
cons-cond b false xs ys = refl

-- the line, or all of it but its last byte where it ends with a carriage return
pub without_return-ends : (line : List ℕ) → without_return line ≡ cond (ends_with nat_eq line (13 ∷ [])) (take (length line - 1) line) line
without_return-ends [] = refl
without_return-ends (b ∷ []) = rw (eqb_swap b 13) (elim (nat_eq 13 b) as (λ t. cond t [] (b ∷ []) ≡ cond (t && true) [] (b ∷ [])) [ true ↦ refl | false ↦ refl ])
without_return-ends (b ∷ c ∷ bs) =
    let n = length (c ∷ bs) - 1 in
    let longer : length (b ∷ c ∷ bs) - 1 ≡ suc n = omega arith in
    ap (λ l. b ∷ l) (without_return-ends (c ∷ bs)) ∙ cons-cond b (ends_with nat_eq (c ∷ bs) (13 ∷ [])) (take n (c ∷ bs)) (c ∷ bs) ∙ rw longer refl
