-- From the answers that calls give to what they hold.
use Rattle.std.proofs.Common.{◌≡◌, ℕ, zero, suc, ◌+◌, ◌<◌, List, [], ◌∷◌, ◌++◌, Result, Ok, map, length, slice_index_or, sym, subst, ap, ◌∙◌, arith}
use denote.Param.Members.{Shared}
use Rattle.std.proofs.lemmas.List.{get_or-map, length-map}
use Rattle.lama_work.specs.Pieces.{AreFrom, AreOfPieces, GivesPiece, GivesPieces}

module _ {F T E : Type 0} (g : Shared F (ℕ × (ℕ × (ℕ × Unit {0}))) (Result T E)) (f : F) (n workers : ℕ) where
  -- Where each answer is one that a call may give, and all are Ok, what they hold is given.
  pub of_ok : (vs : List T) (rs : List (Result T E)) → map Ok vs ≡ rs → length rs ≡ workers
      → AreOfPieces g f n workers rs
      → GivesPieces g f n workers vs
  of_ok vs rs same len each i d within =
      subst (λ r. GivesPiece g f n workers i r)
      (get_or-map Ok vs i d (Ok d) (subst (λ k. i < k) (sym len ∙ ap length (sym same) ∙ length-map vs Ok) within))
      (subst (λ l. GivesPiece g f n workers i (slice_index_or l i (Ok d))) (sym same) (each i (Ok d) within))

  each-next : (from : ℕ) (r : Result T E) (rs : List (Result T E)) → GivesPiece g f n workers from r → AreFrom g f n workers (from + 1) rs
      → (k : ℕ) (d : Result T E) → k < length (r ∷ rs) → GivesPiece g f n workers (from + k) (slice_index_or (r ∷ rs) k d)
  each-next from r rs first rest zero d lt = subst (λ i. GivesPiece g f n workers i r) {x = from} (omega arith) first
  each-next from r rs first rest (suc k) d lt = subst (λ i. GivesPiece g f n workers i (slice_index_or rs k d)) {x = from + 1 + k} (omega arith) (rest.each k d (omega (arith, lt)))

  -- An answer of one piece and those of the pieces behind it are those from it on.
  pub from_next : (from : ℕ) (r : Result T E) (rs all : List (Result T E)) → all ≡ (r ∷ []) ++ rs → GivesPiece g f n workers from r → AreFrom g f n workers (from + 1) rs → AreFrom g f n workers from all
  from_next from r rs all is first rest =
      subst (AreFrom g f n workers from) (sym is) (record { len = omega (arith, rest.len); each = each-next from r rs first rest })
