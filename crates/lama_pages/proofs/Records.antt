-- Lists of written records.
use Rattle.std.proofs.Common.{◌≡◌, ℕ, ◌+◌, ◌<◌, suc, List, [], ◌∷◌, ◌++◌, length, take, drop, set, sym, ap, ◌∙◌, arith}
use Rattle.std.proofs.lemmas.List.{set_split, drop_all, take_all}
use Rattle.lama_pages.specs.Block.{with_record}

module _ {A : Type 0} (xs : List A) (i : ℕ) (x : A) where
  -- at a written place it is written over
  pub with-set : i < length xs → with_record xs i x ≡ set xs i x
  with-set lt = let more : i + 1 ≡ suc i = omega arith in ap (λ (k : ℕ). take i xs ++ x ∷ drop k xs) more ∙ sym (set_split xs i x lt)

  -- at the first place that is not written it comes at the end
  pub with-end : i ≡ length xs → with_record xs i x ≡ xs ++ x ∷ []
  with-end e = ap (λ (ys : List A). ys ++ x ∷ drop (i + 1) xs) (take_all i xs (omega arith)) ∙ ap (λ (ys : List A). xs ++ x ∷ ys) (drop_all (i + 1) xs (omega arith))
