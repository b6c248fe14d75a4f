-- One place of a block is taken out to be written, and goes back written.
use Rattle.std.proofs.Common.{◌≡◌, ℕ, ◌+◌, ◌-◌, ◌*◌, ◌<◌, ◌≤◌, ◌⊎◌, inl, inr, List, [], ◌∷◌, ◌++◌, length, get_or, set, length-append, length-set, refl, sym, subst, arith}
use Rattle.std.proofs.Math.Nat.{eq-or-lt_of_le}
use seplogic.Ra.Ura.{Ura}
use mir.Syntax.{Ty, ty_array}
use mir.Raw.{raw}
use base.Fraction.{full_share}
use base.Logic.{ent, sep}
use base.Fml.{Fml, fsep, froom}
use types.Logic.{Logic, sem}
use types.Kit.{‵, ◌⊛◌, given, ◌$◌, ◌∵◌, !, qed, by, move, keep, use1, use2, split, split3, learn, rewrite, fsplit, fjoin, done}
use denote.Array.{Array}
use denote.Index.{others}
use denote.Memory.{part_at, shares}
use denote.RawPtr.{Ptr, block_ptr}
use Rattle.core.proofs.slice.Lists.{hd}
use Rattle.core.specs.Allocator.{block_with_items}
use Rattle.std_alloc.proofs.RawLayout.{as_raw, as_written}
use Rattle.std_alloc.proofs.VecSteps.El.{El, R, elτ, el_x, sz}
use Rattle.std_alloc.proofs.VecSteps.Rows.{el_room, put_in, snoc, spare, take_out}
use Rattle.lama_pages.proofs.Records.{with-end, with-set}
use Rattle.lama_pages.specs.Block.{with_record}

module _ (E : El) {M : Type 1} {𝓤 : Ura M} (𝓛 : Logic 𝓤) (t : Ty → Ptr → Fml) (b o : ℕ) (xs : List (el_x E)) (i : ℕ) where
  open 𝓛 use {H}

  abbrev n : ℕ
  n = length xs

  abbrev s : ℕ
  s = sz E

  abbrev p : Ptr
  p = block_ptr b o

  abbrev owned : List (el_x E) → Fml
  owned ys = block_with_items t (R E) p (length ys) 256 ys

  -- the place at i, and how the block comes together again once it is written
  pub record Place : Type 1 where
    pub rest : Fml
    pub taken : ent 𝓤 (sem 𝓛 (owned xs)) (sep 𝓤 (H.room (elτ E) b (i * s + o)) (sem 𝓛 rest))
    pub put_back : (x : el_x E) → ent 𝓤 (sep 𝓤 (sem 𝓛 (part_at (R E) full_share x b (i * s + o))) (sem 𝓛 rest)) (sem 𝓛 (owned (with_record xs i x)))

  abbrev behind : ℕ → Fml
  behind k = froom (ty_array (elτ E) (256 - k)) b (o + k * s)

  abbrev token : Fml
  token = t (raw (ty_array (elτ E) 256)) p

  abbrev row : ℕ → List (el_x E) → Fml
  row k ys = part_at (Array (R E) k) full_share ys b o

  apart : ent 𝓤 (sem 𝓛 (owned xs)) (sep 𝓤 (sem 𝓛 (row n xs)) (sep 𝓤 (sem 𝓛 (behind n)) (sem 𝓛 token)))
  apart = qed 𝓛 (‵ (owned xs) ∷ []) ∵ fsplit ! $ move ! (1 ∷ []) $ fsplit ! $ as_written ! (ty_array (elτ E) (256 - n)) b (o + n * s) $ keep ! (2 ∷ 0 ∷ 1 ∷ []) $ done !

  whole : (k : ℕ) (ys zs : List (el_x E)) → length ys ≡ k → ys ≡ zs → ent 𝓤 (sep 𝓤 (sem 𝓛 (row k ys)) (sep 𝓤 (sem 𝓛 (behind k)) (sem 𝓛 token))) (sem 𝓛 (owned zs))
  whole k ys zs e same =
      qed 𝓛 (‵ (row k ys) ∷ ‵ (behind k) ∷ ‵ token ∷ []) ∵
      rewrite ! 0 (λ (j : ℕ). ‵ (row j ys)) (sym e) refl $ rewrite ! 1 (λ (j : ℕ). ‵ (behind j)) (sym e) refl $
      move ! (1 ∷ 2 ∷ []) $ as_raw ! (ty_array (elτ E) (256 - length ys)) b (o + length ys * s) $ fjoin ! $ move ! (1 ∷ 0 ∷ []) $ fjoin ! $
      rewrite ! 0 (λ (l : List (el_x E)). ‵ (owned l)) same refl $ done !

  written : i < n → Place
  written lt = let d : el_x E = hd xs (omega arith) in record {
    rest = fsep (others (shares (R E)) full_share xs i b o) (fsep (behind n) token);
    taken = qed 𝓛 (‵ (owned xs) ∷ []) ∵
        use1 𝓛 (‵ (row n xs) ⊛ ‵ (behind n) ⊛ ‵ token) apart $ split ! $
        use1 𝓛 (given (n ≡ n) (‵ (part_at (R E) full_share (get_or xs i d) b (i * s + o)) ⊛ ‵ (others (shares (R E)) full_share xs i b o)))
        (take_out E 𝓛 n xs i d b o lt) $ learn ! (λ _. split ! $
        use1 𝓛 (‵ (froom (elτ E) b (i * s + o))) (el_room E 𝓛 (get_or xs i d) b (i * s + o)) $
        move ! (2 ∷ []) $ split ! $ fjoin ! $ move ! (2 ∷ 0 ∷ []) $ fjoin ! $ move ! (1 ∷ 0 ∷ []) $ done !);
    put_back = λ x. qed 𝓛 (‵ (part_at (R E) full_share x b (i * s + o)) ∷ ‵ (fsep (others (shares (R E)) full_share xs i b o) (fsep (behind n) token)) ∷ []) ∵
        move ! (1 ∷ []) $ fsplit ! $ move ! (2 ∷ 0 ∷ []) $ use2 𝓛 (‵ (row n (set xs i x))) (put_in E 𝓛 n xs i x b o lt refl) $ move ! (1 ∷ []) $ fsplit ! $ move ! (2 ∷ 0 ∷ 1 ∷ []) $
        by ! (whole n (set xs i x) (with_record xs i x) (length-set xs i x) (sym (with-set xs i x lt)));
  }

  next : i ≡ n → i < 256 → Place
  next e lt = let l : n < 256 = subst (λ (k : ℕ). k < 256) e lt in record {
    rest = fsep (row n xs) (fsep (behind (n + 1)) token);
    taken = qed 𝓛 (‵ (owned xs) ∷ []) ∵
        use1 𝓛 (‵ (row n xs) ⊛ ‵ (behind n) ⊛ ‵ token) apart $ split3 ! $ move ! (1 ∷ []) $
        use1 𝓛 (‵ (froom (elτ E) b (n * s + o)) ⊛ ‵ (behind (n + 1))) (spare E 𝓛 b o n 256 l) $ split ! $
        rewrite ! 0 (λ (k : ℕ). ‵ (froom (elτ E) b (k * s + o))) (sym e) refl $
        move ! (1 ∷ 3 ∷ []) $ fjoin ! $ move ! (2 ∷ 0 ∷ []) $ fjoin ! $ move ! (1 ∷ 0 ∷ []) $ done !;
    put_back = λ x. qed 𝓛 (‵ (part_at (R E) full_share x b (i * s + o)) ∷ ‵ (fsep (row n xs) (fsep (behind (n + 1)) token)) ∷ []) ∵
        rewrite ! 0 (λ (k : ℕ). ‵ (part_at (R E) full_share x b (k * s + o))) e refl $
        move ! (1 ∷ []) $ fsplit ! $ move ! (0 ∷ 2 ∷ []) $ use2 𝓛 (‵ (row (n + 1) (xs ++ x ∷ []))) (snoc E 𝓛 b o n xs x) $ move ! (1 ∷ []) $ fsplit ! $ move ! (2 ∷ 0 ∷ 1 ∷ []) $
        by ! (whole (n + 1) (xs ++ x ∷ []) (with_record xs i x) (length-append xs (x ∷ [])) (sym (with-end xs i x e)));
  }

  pub place : i < 256 → i ≤ n → Place
  place lt le = by_case (eq-or-lt_of_le le)
    where
      by_case : (i ≡ n) ⊎ (i < n) → Place
      by_case (inl e) = next e lt
      by_case (inr l) = written l
