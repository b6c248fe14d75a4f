-- Columns of words, and what stands beside them.
use Rattle.std.proofs.Common.{◌≡◌, ◌∙◌, ℕ, zero, suc, ◌+◌, ◌-◌, ◌<◌, ◌≤◌, List, [], ◌∷◌, ◌++◌, length, get_or, map, replicate, cond, eqb, ltb, Bool, true, false, Option, None, Some, refl, sym, ap, subst, arith}
use Rattle.std.specs.Prelude.{slice_index, ◌&&◌, not, ◌==◌, nat_lt, if◌then◌else◌}
use Rattle.std.specs.Option.{unwrap_or}
use Rattle.std.specs.Prelude.{Result, Ok, Err, IsErr, is_ok}
use Rattle.std.proofs.Common.{true≢false}
use Rattle.std.proofs.lemmas.Bool.Decides.{nat_tests}
use Rattle.lama_marks.specs.Places.{is_place, AreMarked, value_after, AreWritten}
use Rattle.lama_marks.proofs.Placed.{is_place-push}
use Rattle.lama_marks.specs.Narrow.{value_at, values_from, weights_in, weight_word, worded, is_wide, wide_after, mark_of, marks_beside, marks_in, mark_word}

module _ (meant : ℕ → ℕ) (greatest : ℕ) where
  pub length-values : (wide : ℕ → Option ℕ) (i : ℕ) (ws : List ℕ) → length (values_from meant greatest wide i ws) ≡ length ws
  length-values wide i [] = refl
  length-values wide i (w ∷ ws) = ap suc (length-values wide (i + 1) ws)

  value-at : (wide : ℕ → Option ℕ) (i k d : ℕ) (ws : List ℕ) → k < length ws → get_or (values_from meant greatest wide i ws) k 0 ≡ value_at meant greatest (wide (i + k)) (get_or ws k d)
  value-at wide i k d [] lt = absurd (omega arith)
  value-at wide i zero d (w ∷ ws) lt = let here : i ≡ i + 0 = omega arith in ap (λ j. value_at meant greatest (wide j) w) here
  value-at wide i (suc k) d (w ∷ ws) lt =
      let here : i + 1 + k ≡ i + suc k = omega arith in
      value-at wide (i + 1) k d ws (omega arith) ∙ ap (λ j. value_at meant greatest (wide j) (get_or ws k d)) here

  -- what is read at place k, where w is its word
  pub value-read : (wide : ℕ → Option ℕ) (ws : List ℕ) (k w : ℕ) → k < length ws → w ≡ get_or ws k w → slice_index (values_from meant greatest wide 0 ws) k ≡ value_at meant greatest (wide k) w
  value-read wide ws k w lt is =
      let here : 0 + k ≡ k = omega arith in
      value-at wide 0 k w ws lt ∙ ap (λ j. value_at meant greatest (wide j) (get_or ws k w)) here ∙ ap (λ v. value_at meant greatest (wide k) v) (sym is)

  pub value-found : (wide : ℕ → Option ℕ) (ws : List ℕ) (k : ℕ) → k < length ws → slice_index (values_from meant greatest wide 0 ws) k ≡ value_at meant greatest (wide k) (slice_index ws k)
  value-found wide ws k lt =
      let here : 0 + k ≡ k = omega arith in
      value-at wide 0 k 0 ws lt ∙ ap (λ j. value_at meant greatest (wide j) (slice_index ws k)) here

  pub values-push : (wide : ℕ → Option ℕ) (i : ℕ) (ws : List ℕ) (w : ℕ) → values_from meant greatest wide i (ws ++ w ∷ []) ≡ values_from meant greatest wide i ws ++ value_at meant greatest (wide (i + length ws)) w ∷ []
  values-push wide i [] w = let here : i ≡ i + 0 = omega arith in ap (λ k. value_at meant greatest (wide k) w ∷ []) here
  values-push wide i (x ∷ ws) w =
      let here : i + 1 + length ws ≡ i + suc (length ws) = omega arith in
      ap (λ l. value_at meant greatest (wide i) x ∷ l) (values-push wide (i + 1) ws w ∙ ap (λ k. values_from meant greatest wide (i + 1) ws ++ value_at meant greatest (wide k) w ∷ []) here)

  -- what stands beside places behind the words says nothing of them
  pub values-same : (wide wide' : ℕ → Option ℕ) (i : ℕ) (ws : List ℕ) → ((j : ℕ) → j < i + length ws → wide j ≡ wide' j) → values_from meant greatest wide i ws ≡ values_from meant greatest wide' i ws
  values-same wide wide' i [] h = refl
  values-same wide wide' i (w ∷ ws) h = λ j. value_at meant greatest (h i (omega arith) j) w ∷ values-same wide wide' (i + 1) ws (λ k lt. h k (omega arith)) j

-- a weight and its word
word-means : (x : ℕ) (o : Option ℕ) (d : Bool) → nat_lt x 4294967295 ≡ d → value_at (λ w. w) 4294967295 (if not d then Some x else o) (if d then x else 4294967295) ≡ x
word-means x o true e =
    let no : (x == 4294967295) ≡ false = grind (arith, nat_tests, e) in
    ap (λ b. cond b (unwrap_or o 0) x) no
word-means x o false e = refl

weight-one : (b : Bool) (x : ℕ) (o : Option ℕ) (w : ℕ) → value_at (λ w. w) 4294967295 (if b && is_wide x then Some x else o) (if b then weight_word x else w) ≡ (if b then x else value_at (λ w. w) 4294967295 o w)
weight-one true x o w = word-means x o (nat_lt x 4294967295) refl
weight-one false x o w = refl

weight-after : (i : ℕ) (ps : List (ℕ × ℕ)) (o : Option ℕ) (w : ℕ) → value_at (λ w. w) 4294967295 (wide_after i ps o) (value_after i (map worded ps) w) ≡ value_after i ps (value_at (λ w. w) 4294967295 o w)
weight-after i [] o w = refl
weight-after i (p ∷ ps) o w =
    weight-after i ps (if (p.0 == i) && is_wide p.1 then Some p.1 else o) (if p.0 == i then weight_word p.1 else w)
    ∙ ap (value_after i ps) (weight-one (p.0 == i) p.1 o w)

pub wide_after-push : (i : ℕ) (ps : List (ℕ × ℕ)) (p : ℕ × ℕ) (o : Option ℕ) → wide_after i (ps ++ p ∷ []) o ≡ (if (p.0 == i) && is_wide p.1 then Some p.1 else wide_after i ps o)
wide_after-push i [] p o = refl
wide_after-push i (q ∷ ps) p o = wide_after-push i ps p (if (q.0 == i) && is_wide q.1 then Some q.1 else o)

-- weights that fit into words leave what stands beside the words as it is
pub none-wide : (i : ℕ) (ps : List (ℕ × ℕ)) (o : Option ℕ) → ((k : ℕ) (d : ℕ × ℕ) → k < length ps → (get_or ps k d).1 < 4294967295) → wide_after i ps o ≡ o
none-wide i [] o h = refl
none-wide i (p ∷ ps) o h =
    none-wide i ps (if (p.0 == i) && is_wide p.1 then Some p.1 else o) (λ k d lt. h (suc k) d (omega arith)) ∙ by (p.0 == i) (nat_lt p.1 4294967295) (let lt : p.1 < 4294967295 = h 0 p (omega arith) in grind (arith, nat_tests, lt))
  where
    by : (b d : Bool) → d ≡ true → (if b && not d then Some p.1 else o) ≡ o
    by true d e = ap (λ d. cond (not d) (Some p.1) o) e
    by false d e = refl

-- words written over, and what stands beside them, are the weights written over
pub written-values : (wide wide' : ℕ → Option ℕ) (ps : List (ℕ × ℕ)) (ws ws' : List ℕ) → AreWritten (map worded ps) ws ws' → ((i : ℕ) → wide' i ≡ wide_after i ps (wide i)) → AreWritten ps (weights_in wide ws) (weights_in wide' ws')
written-values wide wide' ps ws ws' h beside = record {
  len = length-values (λ w. w) 4294967295 wide' 0 ws' ∙ (h.len ∙ sym (length-values (λ w. w) 4294967295 wide 0 ws));
  each = λ i lt.
      let within : i < length ws = subst (λ n. i < n) (length-values (λ w. w) 4294967295 wide 0 ws) lt in
      let within' : i < length ws' = subst (λ n. i < n) (sym h.len) within in
      value-found (λ w. w) 4294967295 wide' ws' i within'
      ∙ ((λ j. value_at (λ w. w) 4294967295 (beside i j) (h.each i within j))
      ∙ (weight-after i ps (wide i) (slice_index ws i)
      ∙ ap (value_after i ps) (sym (value-found (λ w. w) 4294967295 wide ws i within))));
}

-- a mark and its word
module _ (below : ℕ) where
  pub marks-none : (wide : ℕ → Option ℕ) (i n : ℕ) → values_from (mark_of below) 65535 wide i (replicate n 0) ≡ replicate n 0
  marks-none wide i zero = refl
  marks-none wide i (suc n) = ap (λ l. 0 ∷ l) (marks-none wide (i + 1) n)

  mark-means : (x : ℕ) (z l : Bool) → (x == 0) ≡ z → (nat_lt below x && nat_lt (x - below) 65535) ≡ l
      → (cond z 0 (cond l (x - below) 65535) == 65535) ≡ false → mark_of below (cond z 0 (cond l (x - below) 65535)) ≡ x
  mark-means x true l e f h = grind (arith, nat_tests, e)
  mark-means x false true e f h =
      let lt : below < x = grind (arith, nat_tests, f) in
      let some : (x - below == 0) ≡ false = grind (arith, nat_tests, lt) in
      let sum : below + (x - below) ≡ x = omega (arith, lt) in
      ap (λ b. cond b 0 (below + (x - below))) some ∙ sum
  mark-means x false false e f h = absurd (grind (arith, nat_tests, h))

  mark-one : (x : ℕ) (g b : Bool) (o : Option ℕ) (w : ℕ) → (mark_word below x == 65535) ≡ g
      → value_at (mark_of below) 65535 (if g && b then Some x else o) (if b then mark_word below x else w) ≡ (if b then x else value_at (mark_of below) 65535 o w)
  mark-one x true true o w e = ap (λ b. cond b x (mark_of below (mark_word below x))) e
  mark-one x true false o w e = refl
  mark-one x false true o w e = ap (λ b. cond b (unwrap_or o 0) (mark_of below (mark_word below x))) e ∙ mark-means x (x == 0) (nat_lt below x && nat_lt (x - below) 65535) refl refl e
  mark-one x false false o w e = refl

  wide-some : (x : ℕ) → (mark_word below x == 65535) ≡ true → 0 < x
  wide-some zero h = absurd (grind (arith, nat_tests, h))
  wide-some (suc x) h = omega arith

  beside-one : (x : ℕ) (g b : Bool) (o : Option ℕ) → (g ≡ true → 0 < x) → Some (unwrap_or (if g && b then Some (x - 1) else o) 0 + 1) ≡ (if g && b then Some x else Some (unwrap_or o 0 + 1))
  beside-one x true true o h = let some : 0 < x = h refl in let same : x - 1 + 1 ≡ x = omega (arith, some) in ap (λ n. Some n) same
  beside-one x true false o h = refl
  beside-one x false b o h = refl

  -- a mark is 0 exactly where its word is
  pub stands-by : (w o : ℕ) → (w == 0) ≡ (value_at (mark_of below) 65535 (Some (o + 1)) w == 0)
  stands-by w o = by (w == 65535) (w == 0) refl refl
    where
      by : (g z : Bool) → (w == 65535) ≡ g → (w == 0) ≡ z → z ≡ (cond g (o + 1) (cond z 0 (below + w)) == 0)
      by true true e f = absurd (grind (arith, nat_tests, e, f))
      by true false e f = grind (arith, nat_tests)
      by false true e f = refl
      by false false e f = grind (arith, nat_tests, f)

  -- words written over, and what stands beside them, are the marks written over
  pub marked-values : (wide wide' : ℕ → Option ℕ) (ps : List ℕ) (x : ℕ) (ws ws' : List ℕ) → AreMarked ps (mark_word below x) ws ws'
      → ((i : ℕ) → wide' i ≡ (if (mark_word below x == 65535) && is_place i ps then Some (x - 1) else wide i)) → AreMarked ps x (marks_in below wide ws) (marks_in below wide' ws')
  marked-values wide wide' ps x ws ws' h beside = record {
    len = length-values (mark_of below) 65535 (marks_beside wide') 0 ws' ∙ (h.len ∙ sym (length-values (mark_of below) 65535 (marks_beside wide) 0 ws));
    each = λ i lt.
        let within : i < length ws = subst (λ n. i < n) (length-values (mark_of below) 65535 (marks_beside wide) 0 ws) lt in
        let within' : i < length ws' = subst (λ n. i < n) (sym h.len) within in
        let here : marks_beside wide' i ≡ (if (mark_word below x == 65535) && is_place i ps then Some x else marks_beside wide i) =
        ap (λ o. Some (unwrap_or o 0 + 1)) (beside i) ∙ beside-one x (mark_word below x == 65535) (is_place i ps) (wide i) (wide-some x) in
        value-found (mark_of below) 65535 (marks_beside wide') ws' i within'
        ∙ ((λ j. value_at (mark_of below) 65535 (here j) (h.each i within j))
        ∙ (mark-one x (mark_word below x == 65535) (is_place i ps) (marks_beside wide i) (slice_index ws i) refl
        ∙ ap (λ v. cond (is_place i ps) x v) (sym (value-found (mark_of below) 65535 (marks_beside wide) ws i within))));
  }

module _ (wide wide' : ℕ → Option ℕ) (n x : ℕ) (put : (i : ℕ) → wide' i ≡ (if (n == i) && is_wide x then Some x else wide i)) (ws : List ℕ) (size : n ≡ length ws) where
  -- a value of the next place says nothing of the words so far
  pub weights-kept : weights_in wide' ws ≡ weights_in wide ws
  weights-kept = values-same (λ w. w) 4294967295 wide' wide 0 ws
      (λ j lt. let other : (n == j) ≡ false = grind (arith, nat_tests, size, lt) in put j ∙ ap (λ b. cond (b && is_wide x) (Some x) (wide j)) other)

  -- the next weight
  pub weights-pushed : weights_in wide' (ws ++ weight_word x ∷ []) ≡ weights_in wide ws ++ x ∷ []
  weights-pushed =
      let here : 0 + length ws ≡ n = omega (arith, size) in
      let same : (n == n) ≡ true = grind (arith, nat_tests) in
      values-push (λ w. w) 4294967295 wide' 0 ws (weight_word x)
      ∙ (λ j. weights-kept j ++ value_at (λ w. w) 4294967295 (wide' (here j)) (weight_word x) ∷ [])
      ∙ ap (λ v. weights_in wide ws ++ v ∷ []) (ap (λ o. value_at (λ w. w) 4294967295 o (weight_word x)) (put n ∙ ap (λ b. cond (b && is_wide x) (Some x) (wide n)) same) ∙ word-means x (wide n) (nat_lt x 4294967295) refl)

-- what is left where a call is refused
pub refused : {T E X : Type 0} (r : Result T E) (x y : X) → IsErr r → (if is_ok r then x else y) ≡ y
refused (Ok t) x y e = absurd (true≢false (sym e))
refused (Err f) x y e = refl

-- one place more
pub place-more : (i : ℕ) (ps : List ℕ) (p x : ℕ) (o : Option ℕ) → (if p == i then Some x else cond (is_place i ps) (Some x) o) ≡ cond (is_place i (ps ++ p ∷ [])) (Some x) o
place-more i ps p x o = by (p == i) (is_place i ps) ∙ sym (ap (λ b. cond b (Some x) o) (is_place-push i ps p))
  where
    by : (a b : Bool) → cond a (Some x) (cond b (Some x) o) ≡ cond (cond a true b) (Some x) o
    by true b = refl
    by false b = refl
