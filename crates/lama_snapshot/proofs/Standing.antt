-- Edges that stand: their cells, and what finds them.
use Rattle.std.proofs.Common.{◌≡◌, ◌≢◌, ◌∙◌, ℕ, zero, suc, ◌<◌, List, [], ◌∷◌, ◌++◌, length, get_or, map, refl, sym, ap, subst, arith, Bool, true, false, cond, eqb, ◌&&◌, Some}
use Rattle.std.specs.Prelude.{◌||◌, filter}
use Rattle.std.specs.List.{AllByRecursion}
use Rattle.std.proofs.lemmas.Bool.{false≢true}
use Rattle.std.proofs.lemmas.Bool.Decides.{nat_tests}
use Rattle.lama_model.specs.Change.{has_index, weight_set}
use Rattle.lama_delta.proofs.Rising.{Above, Rises}
use Rattle.lama_marks.specs.Places.{is_place, value_after}
use Rattle.lama_snapshot.specs.declared.level.Cell.{Cell}
use Rattle.lama_snapshot.specs.Cells.{Columns, stands, standing, is_same, IsOther, AreApart}
use Rattle.lama_snapshot.specs.Chains.{Layout, owner, AreOwned}
use Rattle.lama_snapshot.specs.Found.{in_table}

abbrev pub no_edge : ℕ × Cell
no_edge = (0, record { table = 0; place = 0 })

-- what holds of a row holds of the edges of it that stand
pub owned-standing : (l : Layout) (cols : Columns) (v : ℕ) (row : List (ℕ × Cell)) → AreOwned l v row → AreOwned l v (standing cols row)
owned-standing l cols v [] own = tt
owned-standing l cols v (p ∷ row) own = by (stands cols p) (owned-standing l cols v row own.1)
  where
    by : (b : Bool) → AreOwned l v (standing cols row) → AreOwned l v (cond b (p ∷ standing cols row) (standing cols row))
    by true rest = (own.0, rest)
    by false rest = rest

other-standing : (cols : Columns) (c : Cell) (row : List (ℕ × Cell)) → IsOther c row → IsOther c (standing cols row)
other-standing cols c [] other = tt
other-standing cols c (p ∷ row) other = by (stands cols p) (other-standing cols c row other.1)
  where
    by : (b : Bool) → IsOther c (standing cols row) → IsOther c (cond b (p ∷ standing cols row) (standing cols row))
    by true rest = (other.0, rest)
    by false rest = rest

pub apart-standing : (cols : Columns) (row : List (ℕ × Cell)) → AreApart row → AreApart (standing cols row)
apart-standing cols [] apart = tt
apart-standing cols (p ∷ row) apart = by (stands cols p) (apart-standing cols row apart.1)
  where
    by : (b : Bool) → AreApart (standing cols row) → AreApart (cond b (p ∷ standing cols row) (standing cols row))
    by true rest = (other-standing cols p.1 row apart.0, rest)
    by false rest = rest

-- the edge of an index
pub owner-at : (l : Layout) (v : ℕ) (st : List (ℕ × Cell)) (j : ℕ) → AreOwned l v st → j < length st → owner l (get_or st j no_edge).1 ≡ Some v
owner-at l v [] j own lt = absurd (omega arith)
owner-at l v (p ∷ st) zero own lt = own.0
owner-at l v (p ∷ st) (suc j) own lt = owner-at l v st j own.1 (omega arith)

other-at : (c : Cell) (st : List (ℕ × Cell)) (j : ℕ) → IsOther c st → j < length st → is_same c (get_or st j no_edge).1 ≡ false
other-at c [] j other lt = absurd (omega arith)
other-at c (p ∷ st) zero other lt = other.0
other-at c (p ∷ st) (suc j) other lt = other-at c st j other.1 (omega arith)

eqb-sym : (a b : ℕ) → eqb a b ≡ eqb b a
eqb-sym a b = grind (arith, nat_tests)

same-sym : (c d : Cell) → is_same c d ≡ is_same d c
same-sym c d = ap (λ x. x && eqb c.place d.place) (eqb-sym c.table d.table) ∙ ap (λ x. eqb d.table c.table && x) (eqb-sym c.place d.place)

same-self : (c : Cell) → is_same c c ≡ true
same-self c =
    let a : eqb c.table c.table ≡ true = grind (arith, nat_tests) in
    let b : eqb c.place c.place ≡ true = grind (arith, nat_tests) in
    ap (λ x. x && eqb c.place c.place) a ∙ b

pub same-is : (c d : Cell) → is_same c d ≡ true → c ≡ d
same-is c d h =
    let both = parts (eqb c.table d.table) (eqb c.place d.place) h in
    let a = both.0 in let b = both.1 in
    let t : c.table ≡ d.table = grind (arith, nat_tests, a) in
    let p : c.place ≡ d.place = grind (arith, nat_tests, b) in
    λ j. record { table = t j; place = p j }
  where
    parts : (x y : Bool) → x && y ≡ true → (x ≡ true) × (y ≡ true)
    parts true y h = (refl, h)
    parts false y h = absurd (false≢true h)

-- two indexes name one cell where they are one
pub apart-at : (st : List (ℕ × Cell)) → AreApart st → (j k : ℕ) → j < length st → k < length st → is_same (get_or st j no_edge).1 (get_or st k no_edge).1 ≡ eqb j k
apart-at [] apart j k lt lt' = absurd (omega arith)
apart-at (p ∷ st) apart zero zero lt lt' = let here : eqb 0 0 ≡ true = grind (arith, nat_tests) in same-self p.1 ∙ sym here
apart-at (p ∷ st) apart zero (suc k) lt lt' = let no : eqb 0 (suc k) ≡ false = grind (arith, nat_tests) in other-at p.1 st k apart.0 (omega arith) ∙ sym no
apart-at (p ∷ st) apart (suc j) zero lt lt' = let no : eqb (suc j) 0 ≡ false = grind (arith, nat_tests) in same-sym (get_or st j no_edge).1 p.1 ∙ (other-at p.1 st j apart.0 (omega arith) ∙ sym no)
apart-at (p ∷ st) apart (suc j) (suc k) lt lt' = let down : eqb (suc j) (suc k) ≡ eqb j k = grind (arith, nat_tests) in apart-at st apart.1 j k (omega arith) (omega arith) ∙ sym down

-- what was found in a table, one more
pub in_table-cons : {A : Type 0} (t : ℕ) (p : ℕ × A) (ps : List (ℕ × A)) → in_table t (p ∷ ps) ≡ cond (eqb p.0 t) (p.1 ∷ in_table t ps) (in_table t ps)
in_table-cons t p ps = by (eqb p.0 t)
  where
    by : (b : Bool) → map (λ q. q.1) (cond b (p ∷ filter (λ q. eqb q.0 t) ps) (filter (λ q. eqb q.0 t) ps)) ≡ cond b (p.1 ∷ in_table t ps) (in_table t ps)
    by true = refl
    by false = refl

pub in_table-append : {A : Type 0} (t : ℕ) (ps qs : List (ℕ × A)) → in_table t (ps ++ qs) ≡ in_table t ps ++ in_table t qs
in_table-append t [] qs = refl
in_table-append t (p ∷ ps) qs =
    in_table-cons t p (ps ++ qs) ∙ (by (eqb p.0 t) (in_table-append t ps qs) ∙ sym (ap (λ xs. xs ++ in_table t qs) (in_table-cons t p ps)))
  where
    by : (b : Bool) → in_table t (ps ++ qs) ≡ in_table t ps ++ in_table t qs → cond b (p.1 ∷ in_table t (ps ++ qs)) (in_table t (ps ++ qs)) ≡ cond b (p.1 ∷ in_table t ps) (in_table t ps) ++ in_table t qs
    by true rest = ap (λ xs. p.1 ∷ xs) rest
    by false rest = rest

-- the place of the cell is among those that were found in its table
abbrev pub is_found : Cell → List (ℕ × ℕ) → Bool
is_found c found = is_place c.place (in_table c.table found)

pub found-cons : (c d : Cell) (found : List (ℕ × ℕ)) → is_found c ((d.table, d.place) ∷ found) ≡ is_same d c || is_found c found
found-cons c d found = ap (is_place c.place) (in_table-cons c.table (d.table, d.place) found) ∙ by (eqb d.table c.table)
  where
    by : (b : Bool) → is_place c.place (cond b (d.place ∷ in_table c.table found) (in_table c.table found)) ≡ (b && eqb d.place c.place) || is_found c found
    by true = refl
    by false = refl

place-append : (i : ℕ) (xs ys : List ℕ) → is_place i (xs ++ ys) ≡ is_place i xs || is_place i ys
place-append i [] ys = refl
place-append i (x ∷ xs) ys = ap (λ b. eqb x i || b) (place-append i xs ys) ∙ by (eqb x i) (is_place i xs) (is_place i ys)
  where
    by : (a b c : Bool) → a || (b || c) ≡ (a || b) || c
    by true b c = refl
    by false b c = refl

pub found-append : (c : Cell) (xs ys : List (ℕ × ℕ)) → is_found c (xs ++ ys) ≡ is_found c xs || is_found c ys
found-append c xs ys = ap (is_place c.place) (in_table-append c.table xs ys) ∙ place-append c.place (in_table c.table xs) (in_table c.table ys)

-- the value of the cell after those that were found are written
abbrev pub value_found : Cell → List (ℕ × (ℕ × ℕ)) → ℕ → ℕ
value_found c found w = value_after c.place (in_table c.table found) w

value-cons : (c d : Cell) (x : ℕ) (found : List (ℕ × (ℕ × ℕ))) (w : ℕ) → value_found c ((d.table, (d.place, x)) ∷ found) w ≡ value_found c found (cond (is_same d c) x w)
value-cons c d x found w = ap (λ xs. value_after c.place xs w) (in_table-cons c.table (d.table, (d.place, x)) found) ∙ by (eqb d.table c.table)
  where
    by : (b : Bool) → value_after c.place (cond b ((d.place, x) ∷ in_table c.table found) (in_table c.table found)) w ≡ value_found c found (cond (b && eqb d.place c.place) x w)
    by true = refl
    by false = refl

values-append : (i : ℕ) (xs ys : List (ℕ × ℕ)) (w : ℕ) → value_after i (xs ++ ys) w ≡ value_after i ys (value_after i xs w)
values-append i [] ys w = refl
values-append i (x ∷ xs) ys w = values-append i xs ys (cond (eqb x.0 i) x.1 w)

pub value-append : (c : Cell) (xs ys : List (ℕ × (ℕ × ℕ))) (w : ℕ) → value_found c (xs ++ ys) w ≡ value_found c ys (value_found c xs w)
value-append c xs ys w = ap (λ zs. value_after c.place zs w) (in_table-append c.table xs ys) ∙ values-append c.place (in_table c.table xs) (in_table c.table ys) w

-- the slots of the edges of these indexes
abbrev pub slots_at : List (ℕ × Cell) → List ℕ → List (ℕ × ℕ)
slots_at st ks = map (λ k. ((get_or st k no_edge).1.table, (get_or st k no_edge).1.place)) ks

abbrev pub values_at : List (ℕ × Cell) → List (ℕ × ℕ) → List (ℕ × (ℕ × ℕ))
values_at st ps = map (λ p. ((get_or st p.0 no_edge).1.table, ((get_or st p.0 no_edge).1.place, p.1))) ps

-- a cell of another vertex is none of theirs
other-owner : (l : Layout) (c d : Cell) (u v : ℕ) → owner l c ≡ Some v → owner l d ≡ Some u → u ≢ v → is_same d c ≡ false
other-owner l c d u v own own' ne = by (is_same d c) refl
  where
    by : (b : Bool) → is_same d c ≡ b → b ≡ false
    by false is = refl
    by true is = (let e : Some u ≡ Some v = sym own' ∙ (ap (owner l) (same-is d c is) ∙ own) in let e' : u ≡ v = cc in absurd (ne e'))

pub found-none : (l : Layout) (c : Cell) (u v : ℕ) → owner l c ≡ Some v → u ≢ v → (st : List (ℕ × Cell)) → AreOwned l u st → (ks : List ℕ) → AllByRecursion (λ k. k < length st) ks → is_found c (slots_at st ks) ≡ false
found-none l c u v own ne st owns [] below = refl
found-none l c u v own ne st owns (k ∷ ks) below =
    let d = (get_or st k no_edge).1 in
    found-cons c d (slots_at st ks)
    ∙ (ap (λ b. b || is_found c (slots_at st ks)) (other-owner l c d u v own (owner-at l u st k owns below.0) ne)
    ∙ found-none l c u v own ne st owns ks below.1)

pub value-none : (l : Layout) (c : Cell) (u v : ℕ) → owner l c ≡ Some v → u ≢ v → (st : List (ℕ × Cell)) → AreOwned l u st → (ps : List (ℕ × ℕ)) → AllByRecursion (λ p. p.0 < length st) ps → (w : ℕ) → value_found c (values_at st ps) w ≡ w
value-none l c u v own ne st owns [] below w = refl
value-none l c u v own ne st owns (p ∷ ps) below w =
    let d = (get_or st p.0 no_edge).1 in
    value-cons c d p.1 (values_at st ps) w
    ∙ (ap (λ b. value_found c (values_at st ps) (cond b p.1 w)) (other-owner l c d u v own (owner-at l u st p.0 owns below.0) ne)
    ∙ value-none l c u v own ne st owns ps below.1 w)

-- a cell of the row is found by its index
pub found-same : (st : List (ℕ × Cell)) → AreApart st → (j : ℕ) → j < length st → (ks : List ℕ) → AllByRecursion (λ k. k < length st) ks → is_found (get_or st j no_edge).1 (slots_at st ks) ≡ has_index j ks
found-same st apart j lt [] below = refl
found-same st apart j lt (k ∷ ks) below =
    let c = (get_or st j no_edge).1 in
    found-cons c (get_or st k no_edge).1 (slots_at st ks)
    ∙ (ap (λ b. b || is_found c (slots_at st ks)) (apart-at st apart k j below.0 lt)
    ∙ (ap (λ b. eqb k j || b) (found-same st apart j lt ks below.1) ∙ by (eqb k j) (has_index j ks)))
  where
    by : (a b : Bool) → a || b ≡ cond a true b
    by true b = refl
    by false b = refl

-- a weight set at an index above is not set here
pub set-above : (j : ℕ) (ps : List (ℕ × ℕ)) (w : ℕ) → Above j (map (λ p. p.0) ps) → weight_set j ps w ≡ w
set-above j [] w above = refl
set-above j (p ∷ ps) w above =
    let first = above.0 in
    let other : eqb p.0 j ≡ false = grind (arith, nat_tests, first) in
    ap (λ b. cond b p.1 (weight_set j ps w)) other ∙ set-above j ps w above.1

pub value-same : (st : List (ℕ × Cell)) → AreApart st → (j : ℕ) → j < length st → (ps : List (ℕ × ℕ)) → AllByRecursion (λ p. p.0 < length st) ps → Rises (map (λ p. p.0) ps) → (w : ℕ) →
    value_found (get_or st j no_edge).1 (values_at st ps) w ≡ weight_set j ps w
value-same st apart j lt [] below rises w = refl
value-same st apart j lt (p ∷ ps) below rises w =
    let c = (get_or st j no_edge).1 in
    value-cons c (get_or st p.0 no_edge).1 p.1 (values_at st ps) w
    ∙ (ap (λ b. value_found c (values_at st ps) (cond b p.1 w)) (apart-at st apart p.0 j below.0 lt)
    ∙ (value-same st apart j lt ps below.1 rises.1 (cond (eqb p.0 j) p.1 w) ∙ by (eqb p.0 j) refl))
  where
    by : (b : Bool) → eqb p.0 j ≡ b → weight_set j ps (cond b p.1 w) ≡ cond b p.1 (weight_set j ps w)
    by false is = refl
    by true is = (let e : p.0 ≡ j = grind (arith, nat_tests, is) in set-above j ps p.1 (subst (λ k. Above k (map (λ (q : ℕ × ℕ). q.0) ps)) e rises.0))
