-- Rows after edges were hidden and weighed anew.
use Rattle.std.proofs.Common.{◌≡◌, ◌≢◌, ◌∙◌, ℕ, zero, suc, ◌+◌, ◌<◌, ◌≤◌, List, [], ◌∷◌, ◌++◌, length, get_or, map, refl, sym, ap, subst, arith, inl, inr, ◌⊎◌, Bool, true, false, cond, eqb, not, Some}
use Rattle.std.specs.Prelude.{◌||◌, filter, flat_map, slice_index}
use Rattle.std.specs.List.{AllByRecursion}
use Rattle.std.proofs.lemmas.Bool.{cases_eq}
use Rattle.std.proofs.lemmas.Bool.Decides.{nat_tests}
use Rattle.std.proofs.lemmas.List.{append_assoc, length_push}
use Rattle.std.proofs.lemmas.Option.{get_or_from_slice_get}
use Rattle.lama_model.specs.Change.{RowChange, has_index, weight_set, surviving, row_done, row_after}
use Rattle.lama_model.proofs.ChangeLaw.{surviving-all, drop_gone}
use Rattle.lama_delta.proofs.Rising.{Above, Rises, above-less, has-above}
use Rattle.lama_snapshot.specs.declared.level.Cell.{Cell}
use Rattle.lama_snapshot.specs.Fragments.{fragment_weights}
use Rattle.lama_snapshot.specs.Cells.{Columns, mark_at, weight_at, stands, standing, pair_at, visible, cell_row, AreApart}
use Rattle.lama_snapshot.specs.Chains.{Layout, owner, AreOwned}
use Rattle.lama_snapshot.proofs.RowFrom.{get-behind}
use Rattle.lama_snapshot.proofs.Standing.{no_edge, owned-standing, owner-at, is_found, value_found, found-append, value-append, slots_at, values_at, found-none, found-same, value-none, value-same}

-- what the changes of rows do to the row of v
abbrev pub added_for : List RowChange → ℕ → List (ℕ × ℕ)
added_for [] v = []
added_for (c ∷ rows) v = cond (eqb c.source v) c.added (added_for rows v)

abbrev pub killed_for : List RowChange → ℕ → List ℕ
killed_for [] v = []
killed_for (c ∷ rows) v = cond (eqb c.source v) c.killed (killed_for rows v)

abbrev pub set_for : List RowChange → ℕ → List (ℕ × ℕ)
set_for [] v = []
set_for (c ∷ rows) v = cond (eqb c.source v) c.set (set_for rows v)

pub row_after-for : (rows : List RowChange) (v : ℕ) (r : List (ℕ × ℕ)) → row_after rows v r ≡ added_for rows v ++ surviving 0 (killed_for rows v) (set_for rows v) r
row_after-for [] v r = sym (surviving-all 0 r)
row_after-for (c ∷ rows) v r = by (eqb c.source v) (row_after-for rows v r)
  where
    by : (b : Bool) → row_after rows v r ≡ added_for rows v ++ surviving 0 (killed_for rows v) (set_for rows v) r →
        cond b (row_done c r) (row_after rows v r) ≡ cond b c.added (added_for rows v) ++ surviving 0 (cond b c.killed (killed_for rows v)) (cond b c.set (set_for rows v)) r
    by true rest = refl
    by false rest = rest

-- as many edges go as indexes are killed
pub length-surviving : (i : ℕ) (ks : List ℕ) (ss : List (ℕ × ℕ)) (r : List (ℕ × ℕ)) → Rises ks → AllByRecursion (λ k. i ≤ k) ks → AllByRecursion (λ k. k < i + length r) ks → length (surviving i ks ss r) + length ks ≡ length r
length-surviving i [] ss [] rises from below = refl
length-surviving i (k ∷ ks) ss [] rises from below = absurd (let a = from.0 in let b = below.0 in omega (arith, a, b))
length-surviving i [] ss (p ∷ r) rises from below = let rest = length-surviving (i + 1) [] ss r tt tt tt in omega (arith, rest)
length-surviving i (k ∷ ks) ss (p ∷ r) rises from below =
    by (cases_eq k i) (λ a b. length-surviving (i + 1) ks ss r rises.1 a b) (λ a b. length-surviving (i + 1) (k ∷ ks) ss r rises a b)
  where
    up : (m n : ℕ) (xs : List ℕ) → m ≡ n → AllByRecursion (λ x. x < m) xs → AllByRecursion (λ x. x < n) xs
    up m n [] is h = tt
    up m n (x ∷ xs) is h = ((let a = h.0 in omega (arith, a, is)), up m n xs is h.1)

    past : (m n : ℕ) (xs : List ℕ) → n ≤ m + 1 → Above m xs → AllByRecursion (λ x. n ≤ x) xs
    past m n [] le h = tt
    past m n (x ∷ xs) le h = ((let a = h.0 in omega (arith, a, le)), past m n xs le h.1)

    by : (k ≡ i) ⊎ (k ≢ i) →
        (AllByRecursion (λ x. i + 1 ≤ x) ks → AllByRecursion (λ x. x < i + 1 + length r) ks → length (surviving (i + 1) ks ss r) + length ks ≡ length r) →
        (AllByRecursion (λ x. i + 1 ≤ x) (k ∷ ks) → AllByRecursion (λ x. x < i + 1 + length r) (k ∷ ks) → length (surviving (i + 1) (k ∷ ks) ss r) + length (k ∷ ks) ≡ length r) →
        length (surviving i (k ∷ ks) ss (p ∷ r)) + length (k ∷ ks) ≡ length (p ∷ r)
    by (inl is) one both =
        let here : eqb k i ≡ true = grind (arith, nat_tests, is) in
        let gone : surviving (i + 1) (k ∷ ks) ss r ≡ surviving (i + 1) ks ss r = drop_gone (i + 1) k ks ss r (omega (arith, is)) in
        let rest = one (past k (i + 1) ks (omega (arith, is)) rises.0) (up (i + length (p ∷ r)) (i + 1 + length r) ks (omega arith) below.1) in
        let now : surviving i (k ∷ ks) ss (p ∷ r) ≡ surviving (i + 1) ks ss r =
        ap (λ b. cond (cond b true (has_index i ks)) (surviving (i + 1) (k ∷ ks) ss r) ((p.0, weight_set i ss p.1) ∷ surviving (i + 1) (k ∷ ks) ss r)) here ∙ gone in
        let n = ap length now in
        omega (arith, n, rest)
    by (inr ne) one both =
        let le = from.0 in
        let lt : i < k = omega (arith, le, ne) in
        let none : has_index i (k ∷ ks) ≡ false = has-above i (k ∷ ks) (lt, above-less i k ks le rises.0) in
        let rest = both (omega (arith, lt), past k (i + 1) ks (omega (arith, lt)) rises.0) (up (i + length (p ∷ r)) (i + 1 + length r) (k ∷ ks) (omega arith) below) in
        let now : surviving i (k ∷ ks) ss (p ∷ r) ≡ (p.0, weight_set i ss p.1) ∷ surviving (i + 1) (k ∷ ks) ss r =
        ap (λ b. cond b (surviving (i + 1) (k ∷ ks) ss r) ((p.0, weight_set i ss p.1) ∷ surviving (i + 1) (k ∷ ks) ss r)) none in
        let n = ap length now in
        omega (arith, n, rest)

-- edges of which those with killed indexes are hidden, and those with set ones have other weights
keeps : (cols cols' : Columns) (ks : List ℕ) (ss : List (ℕ × ℕ)) (i : ℕ) (st : List (ℕ × Cell)) →
    ((j : ℕ) → j < length st → stands cols' (get_or st j no_edge) ≡ not (has_index (i + j) ks)) →
    ((j : ℕ) → j < length st → weight_at cols' (get_or st j no_edge).1 ≡ weight_set (i + j) ss (weight_at cols (get_or st j no_edge).1)) →
    map (pair_at cols') (filter (stands cols') st) ≡ surviving i ks ss (map (pair_at cols) st)
keeps cols cols' ks ss i [] marks weights = refl
keeps cols cols' ks ss i (p ∷ st) marks weights =
    let zero-more : i + 0 ≡ i = omega arith in
    let mark : stands cols' p ≡ not (has_index i ks) = marks 0 (omega arith) ∙ ap (λ k. not (has_index k ks)) zero-more in
    let weight : weight_at cols' p.1 ≡ weight_set i ss (weight_at cols p.1) = weights 0 (omega arith) ∙ ap (λ k. weight_set k ss (weight_at cols p.1)) zero-more in
    let rest = keeps cols cols' ks ss (i + 1) st
    (λ j lt. marks (suc j) (omega arith) ∙ ap (λ k. not (has_index k ks)) (let e : i + suc j ≡ i + 1 + j = omega arith in e))
    (λ j lt. weights (suc j) (omega arith) ∙ ap (λ k. weight_set k ss (weight_at cols (get_or st j no_edge).1)) (let e : i + suc j ≡ i + 1 + j = omega arith in e)) in
    ap (λ b. map (pair_at cols') (cond b (p ∷ filter (stands cols') st) (filter (stands cols') st))) mark ∙ by (has_index i ks) weight rest
  where
    by : (b : Bool) → weight_at cols' p.1 ≡ weight_set i ss (weight_at cols p.1) → map (pair_at cols') (filter (stands cols') st) ≡ surviving (i + 1) ks ss (map (pair_at cols) st) →
        map (pair_at cols') (cond (not b) (p ∷ filter (stands cols') st) (filter (stands cols') st)) ≡ cond b (surviving (i + 1) ks ss (map (pair_at cols) st)) ((p.0, weight_set i ss (weight_at cols p.1)) ∷ surviving (i + 1) ks ss (map (pair_at cols) st))
    by true weight rest = rest
    by false weight rest = ap (λ w. (p.0, w) ∷ map (pair_at cols') (filter (stands cols') st)) weight ∙ ap (λ xs. (p.0, weight_set i ss (weight_at cols p.1)) ∷ xs) rest

-- what was hidden stays so
abbrev StayHidden : Columns → Columns → List (ℕ × Cell) → Type 0
StayHidden cols cols' [] = Unit {0}
StayHidden cols cols' (p ∷ row) = (stands cols p ≡ false → stands cols' p ≡ false) × StayHidden cols cols' row

twice : (cols cols' : Columns) (row : List (ℕ × Cell)) → StayHidden cols cols' row → filter (stands cols') row ≡ filter (stands cols') (filter (stands cols) row)
twice cols cols' [] h = refl
twice cols cols' (p ∷ row) h = by (stands cols p) refl (twice cols cols' row h.1)
  where
    by : (b : Bool) → stands cols p ≡ b → filter (stands cols') row ≡ filter (stands cols') (filter (stands cols) row) →
        cond (stands cols' p) (p ∷ filter (stands cols') row) (filter (stands cols') row) ≡ filter (stands cols') (cond b (p ∷ filter (stands cols) row) (filter (stands cols) row))
    by true is rest = ap (λ xs. cond (stands cols' p) (p ∷ xs) xs) rest
    by false is rest = ap (λ b. cond b (p ∷ filter (stands cols') row) (filter (stands cols') row)) (h.0 is) ∙ rest

pub stands-at : (cols : Columns) (row : List (ℕ × Cell)) (j : ℕ) → j < length (standing cols row) → stands cols (get_or (standing cols row) j no_edge) ≡ true
stands-at cols [] j lt = absurd (omega arith)
stands-at cols (p ∷ row) j lt = by (stands cols p) refl j (λ k. stands-at cols row k) lt
  where
    by : (b : Bool) → stands cols p ≡ b → (j : ℕ) → ((k : ℕ) → k < length (standing cols row) → stands cols (get_or (standing cols row) k no_edge) ≡ true) →
        j < length (cond b (p ∷ standing cols row) (standing cols row)) → stands cols (get_or (cond b (p ∷ standing cols row) (standing cols row)) j no_edge) ≡ true
    by true is zero rest lt = is
    by true is (suc j) rest lt = rest j (omega arith)
    by false is j rest lt = rest j lt

-- the row of v after slots were hidden from n on, and others weighed anew
pub old-visible : (l : Layout) (cols cols' : Columns) (n : ℕ) (killed : List (ℕ × ℕ)) (set : List (ℕ × (ℕ × ℕ))) (v : ℕ) (row : List (ℕ × Cell)) → AreOwned l v row → n ≢ 0 →
    ((c : Cell) → owner l c ≡ Some v → mark_at cols' c ≡ cond (is_found c killed) n (mark_at cols c)) →
    ((c : Cell) → owner l c ≡ Some v → weight_at cols' c ≡ value_found c set (weight_at cols c)) →
    (ks : List ℕ) (ss : List (ℕ × ℕ)) →
    ((j : ℕ) → j < length (standing cols row) → is_found (get_or (standing cols row) j no_edge).1 killed ≡ has_index j ks) →
    ((j : ℕ) → j < length (standing cols row) → (w : ℕ) → value_found (get_or (standing cols row) j no_edge).1 set w ≡ weight_set j ss w) →
    visible cols' row ≡ surviving 0 ks ss (visible cols row)
old-visible l cols cols' n killed set v row own some marks weights ks ss found values =
    ap (map (pair_at cols')) (twice cols cols' row (stay row own))
    ∙ keeps cols cols' ks ss 0 (standing cols row)
    (λ j lt. (let c = (get_or (standing cols row) j no_edge).1 in
    let owns = owner-at l v (standing cols row) j (owned-standing l cols v row own) lt in
    ap (λ m. eqb m 0) (marks c owns) ∙ (ap (λ b. eqb (cond b n (mark_at cols c)) 0) (found j lt)
    ∙ (now (has_index j ks) (mark_at cols c) (stands-at cols row j lt) ∙ ap (λ k. not (has_index k ks)) (let e : j ≡ 0 + j = omega arith in e)))))
    (λ j lt. (let c = (get_or (standing cols row) j no_edge).1 in
    let owns = owner-at l v (standing cols row) j (owned-standing l cols v row own) lt in
    weights c owns ∙ (values j lt (weight_at cols c) ∙ ap (λ k. weight_set k ss (weight_at cols c)) (let e : j ≡ 0 + j = omega arith in e))))
  where
    none : eqb n 0 ≡ false
    none = grind (arith, nat_tests, some)

    hidden : (b : Bool) (m : ℕ) → eqb m 0 ≡ false → eqb (cond b n m) 0 ≡ false
    hidden true m is = none
    hidden false m is = is

    now : (b : Bool) (m : ℕ) → eqb m 0 ≡ true → eqb (cond b n m) 0 ≡ not b
    now true m is = none
    now false m is = is

    stay : (row : List (ℕ × Cell)) → AreOwned l v row → StayHidden cols cols' row
    stay [] own = tt
    stay (p ∷ row) own = (λ is. ap (λ m. eqb m 0) (marks p.1 own.0) ∙ hidden (is_found p.1 killed) (mark_at cols p.1) is, stay row own.1)

-- which slots of v the changes find
found-past : (l : Layout) (sts : ℕ → List (ℕ × Cell)) → ((u : ℕ) → AreOwned l u (sts u)) → (c : Cell) (v : ℕ) → owner l c ≡ Some v → (rows : List RowChange) → Above v (map (λ (r : RowChange). r.source) rows) →
    AllByRecursion (λ (r : RowChange). AllByRecursion (λ k. k < length (sts r.source)) r.killed) rows → is_found c (flat_map (λ (r : RowChange). slots_at (sts r.source) r.killed) rows) ≡ false
found-past l sts owns c v own [] above below = refl
found-past l sts owns c v own (r ∷ rows) above below =
    let first = above.0 in
    found-append c (slots_at (sts r.source) r.killed) (flat_map (λ (r : RowChange). slots_at (sts r.source) r.killed) rows)
    ∙ (ap (λ b. b || is_found c (flat_map (λ (r : RowChange). slots_at (sts r.source) r.killed) rows)) (found-none l c r.source v own (λ e. omega (arith, e, first)) (sts r.source) (owns r.source) r.killed below.0)
    ∙ found-past l sts owns c v own rows above.1 below.1)

pub found-rows : (l : Layout) (sts : ℕ → List (ℕ × Cell)) → ((u : ℕ) → AreOwned l u (sts u)) → ((u : ℕ) → AreApart (sts u)) → (v j : ℕ) → j < length (sts v) → (rows : List RowChange) → Rises (map (λ (r : RowChange). r.source) rows) →
    AllByRecursion (λ (r : RowChange). AllByRecursion (λ k. k < length (sts r.source)) r.killed) rows →
    is_found (get_or (sts v) j no_edge).1 (flat_map (λ (r : RowChange). slots_at (sts r.source) r.killed) rows) ≡ has_index j (killed_for rows v)
found-rows l sts owns apart v j lt [] rises below = refl
found-rows l sts owns apart v j lt (r ∷ rows) rises below = by (cases_eq r.source v) (found-rows l sts owns apart v j lt rows rises.1 below.1)
  where
    c : Cell
    c = (get_or (sts v) j no_edge).1

    rest : List (ℕ × ℕ)
    rest = flat_map (λ (r : RowChange). slots_at (sts r.source) r.killed) rows

    own : owner l c ≡ Some v
    own = owner-at l v (sts v) j (owns v) lt

    or-false : (b : Bool) → b || false ≡ b
    or-false true = refl
    or-false false = refl

    by : (r.source ≡ v) ⊎ (r.source ≢ v) → is_found c rest ≡ has_index j (killed_for rows v) → is_found c (slots_at (sts r.source) r.killed ++ rest) ≡ has_index j (cond (eqb r.source v) r.killed (killed_for rows v))
    by (inl is) later =
        let here : eqb r.source v ≡ true = grind (arith, nat_tests, is) in
        let P : ℕ → Type 0 = λ u. is_found c (slots_at (sts u) r.killed) ≡ has_index j r.killed in
        let mine : P r.source = subst P (sym is) (found-same (sts v) (apart v) j lt r.killed (subst (λ u. AllByRecursion (λ k. k < length (sts u)) r.killed) is below.0)) in
        found-append c (slots_at (sts r.source) r.killed) rest
        ∙ (ap (λ b. b || is_found c rest) mine
        ∙ (ap (λ b. has_index j r.killed || b) (found-past l sts owns c v own rows (subst (λ u. Above u (map (λ (r : RowChange). r.source) rows)) is rises.0) below.1)
        ∙ (or-false (has_index j r.killed) ∙ sym (ap (λ b. has_index j (cond b r.killed (killed_for rows v))) here))))
    by (inr ne) later =
        let other : eqb r.source v ≡ false = grind (arith, nat_tests, ne) in
        found-append c (slots_at (sts r.source) r.killed) rest
        ∙ (ap (λ b. b || is_found c rest) (found-none l c r.source v own ne (sts r.source) (owns r.source) r.killed below.0)
        ∙ (later ∙ sym (ap (λ b. has_index j (cond b r.killed (killed_for rows v))) other)))

value-past : (l : Layout) (sts : ℕ → List (ℕ × Cell)) → ((u : ℕ) → AreOwned l u (sts u)) → (c : Cell) (v : ℕ) → owner l c ≡ Some v → (rows : List RowChange) → Above v (map (λ (r : RowChange). r.source) rows) →
    AllByRecursion (λ (r : RowChange). AllByRecursion (λ (p : ℕ × ℕ). p.0 < length (sts r.source)) r.set) rows → (w : ℕ) → value_found c (flat_map (λ (r : RowChange). values_at (sts r.source) r.set) rows) w ≡ w
value-past l sts owns c v own [] above below w = refl
value-past l sts owns c v own (r ∷ rows) above below w =
    let first = above.0 in
    value-append c (values_at (sts r.source) r.set) (flat_map (λ (r : RowChange). values_at (sts r.source) r.set) rows) w
    ∙ (ap (value_found c (flat_map (λ (r : RowChange). values_at (sts r.source) r.set) rows)) (value-none l c r.source v own (λ e. omega (arith, e, first)) (sts r.source) (owns r.source) r.set below.0 w)
    ∙ value-past l sts owns c v own rows above.1 below.1 w)

pub value-rows : (l : Layout) (sts : ℕ → List (ℕ × Cell)) → ((u : ℕ) → AreOwned l u (sts u)) → ((u : ℕ) → AreApart (sts u)) → (v j : ℕ) → j < length (sts v) → (rows : List RowChange) → Rises (map (λ (r : RowChange). r.source) rows) →
    AllByRecursion (λ (r : RowChange). AllByRecursion (λ (p : ℕ × ℕ). p.0 < length (sts r.source)) r.set) rows → AllByRecursion (λ (r : RowChange). Rises (map (λ (p : ℕ × ℕ). p.0) r.set)) rows →
    (w : ℕ) → value_found (get_or (sts v) j no_edge).1 (flat_map (λ (r : RowChange). values_at (sts r.source) r.set) rows) w ≡ weight_set j (set_for rows v) w
value-rows l sts owns apart v j lt [] rises below sets w = refl
value-rows l sts owns apart v j lt (r ∷ rows) rises below sets w = by (cases_eq r.source v) (value-rows l sts owns apart v j lt rows rises.1 below.1 sets.1 w)
  where
    c : Cell
    c = (get_or (sts v) j no_edge).1

    rest : List (ℕ × (ℕ × ℕ))
    rest = flat_map (λ (r : RowChange). values_at (sts r.source) r.set) rows

    own : owner l c ≡ Some v
    own = owner-at l v (sts v) j (owns v) lt

    by : (r.source ≡ v) ⊎ (r.source ≢ v) → value_found c rest w ≡ weight_set j (set_for rows v) w → value_found c (values_at (sts r.source) r.set ++ rest) w ≡ weight_set j (cond (eqb r.source v) r.set (set_for rows v)) w
    by (inl is) later =
        let here : eqb r.source v ≡ true = grind (arith, nat_tests, is) in
        let P : ℕ → Type 0 = λ u. value_found c (values_at (sts u) r.set) w ≡ weight_set j r.set w in
        let mine : P r.source = subst P (sym is) (value-same (sts v) (apart v) j lt r.set (subst (λ u. AllByRecursion (λ (p : ℕ × ℕ). p.0 < length (sts u)) r.set) is below.0) sets.0 w) in
        value-append c (values_at (sts r.source) r.set) rest w
        ∙ (ap (value_found c rest) mine
        ∙ (value-past l sts owns c v own rows (subst (λ u. Above u (map (λ (r : RowChange). r.source) rows)) is rises.0) below.1 (weight_set j r.set w)
        ∙ sym (ap (λ b. weight_set j (cond b r.set (set_for rows v)) w) here)))
    by (inr ne) later =
        let other : eqb r.source v ≡ false = grind (arith, nat_tests, ne) in
        value-append c (values_at (sts r.source) r.set) rest w
        ∙ (ap (value_found c rest) (value-none l c r.source v own ne (sts r.source) (owns r.source) r.set below.0 w)
        ∙ (later ∙ sym (ap (λ b. weight_set j (cond b r.set (set_for rows v)) w) other)))

-- a new fragment is read as it was written
pub fresh : (cols : Columns) (r o : ℕ) (added : List (ℕ × ℕ)) (pre post : List ℕ) → length pre ≡ o → get_or cols.weights r [] ≡ pre ++ (fragment_weights added ++ post) → ((k : ℕ) → mark_at cols (record { table = r; place = k }) ≡ 0) →
    (rest : List (ℕ × Cell)) → visible cols (cell_row r o added ++ rest) ≡ added ++ visible cols rest
fresh cols r o [] pre post at is stand rest = refl
fresh cols r o (p ∷ ps) pre post at is stand rest =
    let here : stands cols (p.0, record { table = r; place = o }) ≡ true = ap (λ m. eqb m 0) (stand o) in
    let behind = get-behind pre p.1 (fragment_weights ps ++ post) in
    let weight : weight_at cols (record { table = r; place = o }) ≡ p.1 =
    ap (λ xs. slice_index xs o) is ∙ (ap (λ k. slice_index (pre ++ p.1 ∷ (fragment_weights ps ++ post)) k) (sym at) ∙ get_or_from_slice_get (pre ++ p.1 ∷ (fragment_weights ps ++ post)) (length pre) p.1 0 behind) in
    let later = fresh cols r (o + 1) ps (pre ++ p.1 ∷ []) post (length_push pre p.1 ∙ ap (λ n. n + 1) at) (is ∙ sym (append_assoc pre (p.1 ∷ []) (fragment_weights ps ++ post))) stand rest in
    ap (λ b. map (pair_at cols) (cond b ((p.0, record { table = r; place = o }) ∷ standing cols (cell_row r (o + 1) ps ++ rest)) (standing cols (cell_row r (o + 1) ps ++ rest)))) here
    ∙ (ap (λ w. (p.0, w) ∷ visible cols (cell_row r (o + 1) ps ++ rest)) weight ∙ ap (λ xs. p ∷ xs) later)
