-- A list in pages of w records that gets more records at its end.
use Rattle.std.proofs.Common.{◌≡◌, ℕ, zero, suc, ◌+◌, ◌-◌, ◌*◌, ◌/◌, ◌%◌, ◌<◌, ◌≤◌, List, [], ◌∷◌, ◌++◌, length, get_or, take, set, replicate, sym, ◌∙◌, ap, arith, length-append, append_assoc}
use Rattle.std.proofs.lemmas.List.{append-nil, get_or_append_left, length-replicate, replicate-append-replicate, set-append_left, take-replicate, take_all}
use Rattle.std.proofs.lemmas.List.Elements.{All-append, All-replicate}
use Rattle.lama_array.specs.Paged.{joined, IsPaged}
use Rattle.lama_array.proofs.Paged.{AreWhole, joined-append, joined-replicate, length-joined, length-kept, take_past, whole-head, whole-tail}

-- the last page, filled from its place r on
tail-filled : {A : Type 0} (w : ℕ) (ps : List (List A)) (q r : ℕ) (x : A) → AreWhole w ps → length ps ≡ suc q → joined (set ps q (take r (get_or ps q []) ++ replicate (w - r) x)) ≡ take (w * q + r) (joined ps) ++ replicate (w - r) x
tail-filled w [] q r x h l = absurd (omega arith)
tail-filled w (p ∷ []) zero r x h l =
    let at : r ≡ w * 0 + r = omega arith in
    append-nil (take r p ++ replicate (w - r) x)
    ∙ ap (λ t. take r t ++ replicate (w - r) x) (sym (append-nil p))
    ∙ ap (λ k. take k (p ++ []) ++ replicate (w - r) x) at
tail-filled w (p ∷ []) (suc q) r x h l = absurd (omega arith)
tail-filled w (p ∷ (p' ∷ ps)) zero r x h l = absurd (omega arith)
tail-filled w (p ∷ (p' ∷ ps)) (suc q) r x h l =
    let rest = p' ∷ ps in
    let at : length p + (w * q + r) ≡ w * suc q + r = omega (arith, whole-head w p rest h) in
    ap (λ t. p ++ t) (tail-filled w rest q r x (whole-tail w p rest h) (omega arith))
    ∙ sym (append_assoc p (take (w * q + r) (joined rest)) (replicate (w - r) x))
    ∙ ap (λ t. t ++ replicate (w - r) x) (sym (take_past p (joined rest) (w * q + r)))
    ∙ ap (λ k. take k (p ++ joined rest) ++ replicate (w - r) x) at

-- k more records x stand in ps already, and m pages of them follow
extended : {A : Type 0} (w len n k m : ℕ) (x : A) (xs : List A) (ps : List (List A)) → joined ps ≡ xs ++ replicate k x → length xs ≡ len → n ≤ k + w * m → take (len + n) (joined (ps ++ replicate m (replicate w x))) ≡ xs ++ replicate n x
extended w len n k m x xs ps is at enough =
    ap (λ t. take (len + n) t) (joined-append ps (replicate m (replicate w x)) ∙ ap (λ t. joined ps ++ t) (joined-replicate w m x) ∙ ap (λ t. t ++ replicate (w * m) x) is
    ∙ append_assoc xs (replicate k x) (replicate (w * m) x) ∙ ap (λ t. xs ++ t) (replicate-append-replicate k (w * m) x))
    ∙ ap (λ l. take (l + n) (xs ++ replicate (k + w * m) x)) (sym at)
    ∙ take_past xs (replicate (k + w * m) x) n
    ∙ ap (λ t. xs ++ t) (take-replicate n (k + w * m) x enough)

-- no page is as many as no record needs
pub none-paged : {A : Type 0} → IsPaged {A = A} 0 []
none-paged = record {
  whole = λ k d h. absurd (omega arith);
  covered = omega arith;
  tight = omega arith;
}

module _ {A : Type 0} (len n m : ℕ) (x : A) (ps : List (List A)) (paged : IsPaged len ps) (count : length ps + m ≡ (len + n + 255) / 256) where
  pub grown-paged : IsPaged (len + n) (ps ++ replicate m (replicate 256 x))
  grown-paged =
      let size : length (ps ++ replicate m (replicate 256 x)) ≡ length ps + m = length-append ps (replicate m (replicate 256 x)) ∙ ap (λ k. length ps + k) (length-replicate m (replicate 256 x)) in
      record {
        whole = All-append (λ p. length p ≡ 256) ps (replicate m (replicate 256 x)) paged.whole (All-replicate (λ p. length p ≡ 256) m (replicate 256 x) (length-replicate 256 x));
        covered = omega (arith, size, count);
        tight = omega (arith, size, count);
      }

  pub grown-at-edge : len % 256 ≡ 0 → take (len + n) (joined (ps ++ replicate m (replicate 256 x))) ≡ take len (joined ps) ++ replicate n x
  grown-at-edge edge =
      let all : length (joined ps) ≡ len = omega (arith, length-joined 256 ps paged.whole, paged.covered, paged.tight) in
      let kept : take len (joined ps) ≡ joined ps = take_all len (joined ps) (omega (arith, all)) in
      extended 256 len n 0 m x (take len (joined ps)) ps (sym kept ∙ sym (append-nil (take len (joined ps)))) (length-kept len ps paged) (omega (arith, count, length-joined 256 ps paged.whole, all))

  -- the pages, once the last of ps is filled too
  pub grown-pages : 0 < len % 256 → set (ps ++ replicate m (replicate 256 x)) (length ps - 1) (take (len % 256) (get_or (ps ++ replicate m (replicate 256 x)) (length ps - 1) []) ++ replicate (256 - len % 256) x)
      ≡ set ps (length ps - 1) (take (len % 256) (get_or ps (length ps - 1) []) ++ replicate (256 - len % 256) x) ++ replicate m (replicate 256 x)
  grown-pages inside =
      let at : length ps - 1 < length ps = omega (arith, paged.covered) in
      ap (λ p. set (ps ++ replicate m (replicate 256 x)) (length ps - 1) (take (len % 256) p ++ replicate (256 - len % 256) x)) (get_or_append_left ps (replicate m (replicate 256 x)) [] (length ps - 1) at)
      ∙ set-append_left ps (replicate m (replicate 256 x)) (length ps - 1) (take (len % 256) (get_or ps (length ps - 1) []) ++ replicate (256 - len % 256) x) at

  pub grown-in-page : 0 < len % 256 → take (len + n) (joined (set (ps ++ replicate m (replicate 256 x)) (length ps - 1) (take (len % 256) (get_or (ps ++ replicate m (replicate 256 x)) (length ps - 1) []) ++ replicate (256 - len % 256) x))) ≡ take len (joined ps) ++ replicate n x
  grown-in-page inside =
      let at : 256 * (length ps - 1) + len % 256 ≡ len = omega (arith, paged.covered, paged.tight) in
      let last : length ps ≡ suc (length ps - 1) = omega (arith, paged.covered) in
      let filled = set ps (length ps - 1) (take (len % 256) (get_or ps (length ps - 1) []) ++ replicate (256 - len % 256) x) in
      let is : joined filled ≡ take len (joined ps) ++ replicate (256 - len % 256) x =
      tail-filled 256 ps (length ps - 1) (len % 256) x paged.whole last ∙ ap (λ k. take k (joined ps) ++ replicate (256 - len % 256) x) at in
      ap (λ t. take (len + n) (joined t)) (grown-pages inside)
      ∙ extended 256 len n (256 - len % 256) m x (take len (joined ps)) filled is (length-kept len ps paged) (omega (arith, count, at, last))
