-- The edges of some of the vertices, as one list.
use Rattle.std.proofs.Common.{◌≡◌, ◌∙◌, ℕ, zero, suc, ◌+◌, ◌-◌, ◌≤◌, List, ◌∷◌, ◌++◌, map, take, drop, ap, refl, arith}
use Rattle.std.specs.List.{range_with_len}
use Rattle.std.proofs.lemmas.Grind.{flat_map-append}
use Rattle.lama_model.specs.Row.{row_at, edges_from}

drop-range : (s a n : ℕ) → drop s (range_with_len a (s + n)) ≡ range_with_len (a + s) n
drop-range zero a n = let x : 0 + n ≡ n = omega arith in let y : a ≡ a + 0 = omega arith in λ j. range_with_len (y j) (x j)
drop-range (suc s) a n =
    let x : suc s + n ≡ suc (s + n) = omega arith in
    let y : a + 1 + s ≡ a + suc s = omega arith in
    ap (λ k. drop (suc s) (range_with_len a k)) x ∙ (drop-range s (a + 1) n ∙ ap (λ k. range_with_len k n) y)

take-range : (k a m : ℕ) → take k (range_with_len a (k + m)) ≡ range_with_len a k
take-range zero a m = refl
take-range (suc k) a m =
    let x : suc k + m ≡ suc (k + m) = omega arith in
    ap (λ n. take (suc k) (range_with_len a n)) x ∙ ap (λ l. a ∷ l) (take-range k (a + 1) m)

-- the numbers from s to before e, among those below n
pub range-part : (s e n : ℕ) → s ≤ e → e ≤ n → take (e - s) (drop s (range_with_len 0 n)) ≡ range_with_len s (e - s)
range-part s e n le within =
    let whole : n ≡ s + (e - s + (n - e)) = omega (arith, le, within) in
    let from : 0 + s ≡ s = omega arith in
    ap (λ k. take (e - s) (drop s (range_with_len 0 k))) whole
    ∙ (ap (take (e - s)) (drop-range s 0 (e - s + (n - e)) ∙ ap (λ k. range_with_len k (e - s + (n - e))) from)
    ∙ take-range (e - s) s (n - e))

-- the edges that leave two lists of vertices are those of one and then those of the other
pub edges-join : (rows : List (List (ℕ × ℕ))) (us ws : List ℕ) → edges_from rows (us ++ ws) ≡ edges_from rows us ++ edges_from rows ws
edges-join rows us ws = flat_map-append (λ u. map (λ p. (u, p.0)) (row_at rows u)) us ws
