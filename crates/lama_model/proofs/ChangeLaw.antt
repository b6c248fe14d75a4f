-- The change that writes make of a graph, done on its rows, gives the rows after the writes.
use Rattle.std.proofs.Common.{◌≡◌, ◌≢◌, ◌∙◌, ℕ, ◌+◌, ◌-◌, ◌<◌, ◌≤◌, List, [], ◌∷◌, ◌++◌, length, reverse, map, take, cond, eqb, ◌&&◌, Bool, true, false, not, refl, sym, ap, subst, arith, inl, inr, zero, suc, ◌⊎◌, Option, Some, None}
use Rattle.std.specs.Prelude.{filter, is_none}
use Rattle.std.specs.List.{enumerate_from, range_with_len}
use Rattle.std.proofs.lemmas.Bool.{cases_eq, false≢true}
use Rattle.std.proofs.lemmas.Bool.Decides.{nat_tests}
use Rattle.std.proofs.lemmas.List.{map-append, append-nil, reverse-append, length-append, take_at}
use Rattle.lama_base.specs.declared.Edge.{Edge}
use Rattle.lama_model.specs.declared.calls.Write.{Write}
use Rattle.lama_model.specs.Graph.{Graph, with_weight}
use Rattle.lama_model.specs.Row.{row, leaving}
use Rattle.lama_model.specs.Change.{RowChange, has_index, weight_set, surviving, row_done, row_after, weight_of, indexes_gone, indexes_reweighed, with_new_weight, numbered_row, row_change, is_empty_change, changed_rows, graph_after, numbered_after}
use Rattle.lama_model.proofs.Thinning.{thin, AreFates, AreFrom, AreFrom-weaker, AreFrom-append, thin-from, thinned, plain-enumerate, plain_after, pair, leaves, pairs_of, pairs_of-plain, pairs_of-append}

-- what is left of numbered edges later, with the weights of then
abbrev kept_one : Option ℕ → ℕ × Edge → List (ℕ × ℕ) → List (ℕ × ℕ)
kept_one None p rest = rest
kept_one (Some w) p rest = (p.1.target, w) ∷ rest

abbrev pub kept : List (ℕ × Edge) → List (ℕ × Edge) → List (ℕ × ℕ)
kept later [] = []
kept later (p ∷ ps) = kept_one (weight_of p.0 later) p (kept later ps)

-- an index that was passed says nothing any more
pub drop_gone : (i k : ℕ) (gone : List ℕ) (set : List (ℕ × ℕ)) (r : List (ℕ × ℕ)) → k < i → surviving i (k ∷ gone) set r ≡ surviving i gone set r
drop_gone i k gone set [] lt = refl
drop_gone i k gone set (p ∷ r) lt =
    let other : eqb k i ≡ false = grind (arith, nat_tests) in
    let rest : surviving (i + 1) (k ∷ gone) set r ≡ surviving (i + 1) gone set r = drop_gone (i + 1) k gone set r (omega arith) in
    ap (λ b. cond (cond b true (has_index i gone)) (surviving (i + 1) (k ∷ gone) set r) ((p.0, weight_set i set p.1) ∷ surviving (i + 1) (k ∷ gone) set r)) other
    ∙ ap (λ xs. cond (has_index i gone) xs ((p.0, weight_set i set p.1) ∷ xs)) rest

drop_set : (i k w : ℕ) (gone : List ℕ) (set : List (ℕ × ℕ)) (r : List (ℕ × ℕ)) → k < i → surviving i gone ((k, w) ∷ set) r ≡ surviving i gone set r
drop_set i k w gone set [] lt = refl
drop_set i k w gone set (p ∷ r) lt =
    let other : eqb k i ≡ false = grind (arith, nat_tests) in
    let rest : surviving (i + 1) gone ((k, w) ∷ set) r ≡ surviving (i + 1) gone set r = drop_set (i + 1) k w gone set r (omega arith) in
    ap (λ b. cond (has_index i gone) (surviving (i + 1) gone ((k, w) ∷ set) r) ((p.0, cond b w (weight_set i set p.1)) ∷ surviving (i + 1) gone ((k, w) ∷ set) r)) other
    ∙ ap (λ xs. cond (has_index i gone) xs ((p.0, weight_set i set p.1) ∷ xs)) rest

-- the indexes are from the first one on
not_gone : (j i : ℕ) (later ps : List (ℕ × Edge)) → j < i → has_index j (indexes_gone i later ps) ≡ false
not_gone j i later [] lt = refl
not_gone j i later (p ∷ ps) lt = by (is_none (weight_of p.0 later)) (not_gone j (i + 1) later ps (omega arith))
  where
    by : (b : Bool) → has_index j (indexes_gone (i + 1) later ps) ≡ false → has_index j (cond b (i ∷ indexes_gone (i + 1) later ps) (indexes_gone (i + 1) later ps)) ≡ false
    by true rest = let other : eqb i j ≡ false = grind (arith, nat_tests) in ap (λ b. cond b true (has_index j (indexes_gone (i + 1) later ps))) other ∙ rest
    by false rest = rest

not_set : (j i old : ℕ) (later ps : List (ℕ × Edge)) → j < i → weight_set j (indexes_reweighed i later ps) old ≡ old
not_set j i old later [] lt = refl
not_set j i old later (p ∷ ps) lt = by (weight_of p.0 later) (not_set j (i + 1) old later ps (omega arith))
  where
    some : (w : ℕ) (b : Bool) → weight_set j (indexes_reweighed (i + 1) later ps) old ≡ old → weight_set j (cond b (indexes_reweighed (i + 1) later ps) ((i, w) ∷ indexes_reweighed (i + 1) later ps)) old ≡ old
    some w true rest = rest
    some w false rest = let other : eqb i j ≡ false = grind (arith, nat_tests) in ap (λ b. cond b w (weight_set j (indexes_reweighed (i + 1) later ps) old)) other ∙ rest

    by : (o : Option ℕ) → weight_set j (indexes_reweighed (i + 1) later ps) old ≡ old → weight_set j (with_new_weight i p.1.weight o (indexes_reweighed (i + 1) later ps)) old ≡ old
    by None rest = rest
    by (Some w) rest = some w (eqb w p.1.weight) rest

surviving-kept : (i : ℕ) (later ps : List (ℕ × Edge)) → surviving i (indexes_gone i later ps) (indexes_reweighed i later ps) (map pair ps) ≡ kept later ps
surviving-kept i later [] = refl
surviving-kept i later (p ∷ ps) = by (weight_of p.0 later) (surviving-kept (i + 1) later ps) (not_gone i (i + 1) later ps (omega arith)) (not_set i (i + 1) p.1.weight later ps (omega arith))
  where
    same : (w : ℕ) (b : Bool) → eqb w p.1.weight ≡ b → surviving (i + 1) (indexes_gone (i + 1) later ps) (indexes_reweighed (i + 1) later ps) (map pair ps) ≡ kept later ps → has_index i (indexes_gone (i + 1) later ps) ≡ false → weight_set i (indexes_reweighed (i + 1) later ps) p.1.weight ≡ p.1.weight →
        surviving i (indexes_gone (i + 1) later ps) (cond b (indexes_reweighed (i + 1) later ps) ((i, w) ∷ indexes_reweighed (i + 1) later ps)) (map pair (p ∷ ps)) ≡ (p.1.target, w) ∷ kept later ps
    same w true is rest stays old_weight =
        let equal : p.1.weight ≡ w = grind (arith, nat_tests, is) in
        ap (λ b. cond b (surviving (i + 1) (indexes_gone (i + 1) later ps) (indexes_reweighed (i + 1) later ps) (map pair ps)) ((p.1.target, weight_set i (indexes_reweighed (i + 1) later ps) p.1.weight) ∷ surviving (i + 1) (indexes_gone (i + 1) later ps) (indexes_reweighed (i + 1) later ps) (map pair ps))) stays
        ∙ (ap (λ (n : ℕ). (p.1.target, n) ∷ surviving (i + 1) (indexes_gone (i + 1) later ps) (indexes_reweighed (i + 1) later ps) (map pair ps)) (old_weight ∙ equal)
        ∙ ap (λ xs. (p.1.target, w) ∷ xs) rest)
    same w false is rest stays old_weight =
        let here : eqb i i ≡ true = grind (arith, nat_tests) in
        ap (λ b. cond b (surviving (i + 1) (indexes_gone (i + 1) later ps) ((i, w) ∷ indexes_reweighed (i + 1) later ps) (map pair ps)) ((p.1.target, cond (eqb i i) w (weight_set i (indexes_reweighed (i + 1) later ps) p.1.weight)) ∷ surviving (i + 1) (indexes_gone (i + 1) later ps) ((i, w) ∷ indexes_reweighed (i + 1) later ps) (map pair ps))) stays
        ∙ (ap (λ b. (p.1.target, cond b w (weight_set i (indexes_reweighed (i + 1) later ps) p.1.weight)) ∷ surviving (i + 1) (indexes_gone (i + 1) later ps) ((i, w) ∷ indexes_reweighed (i + 1) later ps) (map pair ps)) here
        ∙ ap (λ xs. (p.1.target, w) ∷ xs) (drop_set (i + 1) i w (indexes_gone (i + 1) later ps) (indexes_reweighed (i + 1) later ps) (map pair ps) (omega arith) ∙ rest))

    by : (o : Option ℕ) → surviving (i + 1) (indexes_gone (i + 1) later ps) (indexes_reweighed (i + 1) later ps) (map pair ps) ≡ kept later ps → has_index i (indexes_gone (i + 1) later ps) ≡ false → weight_set i (indexes_reweighed (i + 1) later ps) p.1.weight ≡ p.1.weight → surviving i (cond (is_none o) (i ∷ indexes_gone (i + 1) later ps) (indexes_gone (i + 1) later ps)) (with_new_weight i p.1.weight o (indexes_reweighed (i + 1) later ps)) (map pair (p ∷ ps)) ≡ kept_one o p (kept later ps)
    by None rest stays old_weight =
        let here : eqb i i ≡ true = grind (arith, nat_tests) in
        ap (λ b. cond (cond b true (has_index i (indexes_gone (i + 1) later ps))) (surviving (i + 1) (i ∷ indexes_gone (i + 1) later ps) (indexes_reweighed (i + 1) later ps) (map pair ps)) ((p.1.target, weight_set i (indexes_reweighed (i + 1) later ps) p.1.weight) ∷ surviving (i + 1) (i ∷ indexes_gone (i + 1) later ps) (indexes_reweighed (i + 1) later ps) (map pair ps))) here
        ∙ (drop_gone (i + 1) i (indexes_gone (i + 1) later ps) (indexes_reweighed (i + 1) later ps) (map pair ps) (omega arith) ∙ rest)
    by (Some w) rest stays old_weight = same w (eqb w p.1.weight) refl rest stays old_weight

-- as many indexes are gone as pairs are not kept
pub gone-kept : (i : ℕ) (later ps : List (ℕ × Edge)) → length (indexes_gone i later ps) + length (kept later ps) ≡ length ps
gone-kept i later [] = refl
gone-kept i later (p ∷ ps) = by (weight_of p.0 later) (gone-kept (i + 1) later ps)
  where
    by : (o : Option ℕ) → length (indexes_gone (i + 1) later ps) + length (kept later ps) ≡ length ps → length (cond (is_none o) (i ∷ indexes_gone (i + 1) later ps) (indexes_gone (i + 1) later ps)) + length (kept_one o p (kept later ps)) ≡ length (p ∷ ps)
    by None rest = omega (arith, rest)
    by (Some w) rest = omega (arith, rest)

kept-append : (later ps qs : List (ℕ × Edge)) → kept later (ps ++ qs) ≡ kept later ps ++ kept later qs
kept-append later [] qs = refl
kept-append later (p ∷ ps) qs = by (weight_of p.0 later) (kept-append later ps qs)
  where
    by : (o : Option ℕ) → kept later (ps ++ qs) ≡ kept later ps ++ kept later qs → kept_one o p (kept later (ps ++ qs)) ≡ kept_one o p (kept later ps) ++ kept later qs
    by None rest = rest
    by (Some w) rest = ap (λ xs. (p.1.target, w) ∷ xs) rest

pub reverse_one : {A : Type 0} (x : A) (xs : List A) → reverse (x ∷ xs) ≡ reverse xs ++ x ∷ []
reverse_one x xs = reverse-append (x ∷ []) xs

kept-reverse : (later ps : List (ℕ × Edge)) → kept later (reverse ps) ≡ reverse (kept later ps)
kept-reverse later [] = refl
kept-reverse later (p ∷ ps) =
    ap (kept later) (reverse_one p ps) ∙ (kept-append later (reverse ps) (p ∷ []) ∙ (ap (λ xs. xs ++ kept later (p ∷ [])) (kept-reverse later ps) ∙ by (weight_of p.0 later)))
  where
    by : (o : Option ℕ) → reverse (kept later ps) ++ kept_one o p [] ≡ reverse (kept_one o p (kept later ps))
    by None = append-nil (reverse (kept later ps))
    by (Some w) = sym (reverse_one (p.1.target, w) (kept later ps))

-- the later weights of the edges from number k on are the fates
abbrev pub Looks : List (ℕ × Edge) → ℕ → List (Option ℕ) → List Edge → Type 0
Looks later k [] es = Unit {0}
Looks later k (f ∷ fs) [] = Unit {0}
Looks later k (f ∷ fs) (e ∷ es) = (weight_of k later ≡ f) × Looks later (k + 1) fs es

Looks-skip : (p : ℕ × Edge) (later : List (ℕ × Edge)) (k : ℕ) (fs : List (Option ℕ)) (es : List Edge) → p.0 < k → Looks later k fs es → Looks (p ∷ later) k fs es
Looks-skip p later k [] es lt h = tt
Looks-skip p later k (f ∷ fs) [] lt h = tt
Looks-skip p later k (f ∷ fs) (e ∷ es) lt h = (
  let other : eqb p.0 k ≡ false = grind (arith, nat_tests) in ap (λ b. cond b (Some p.1.weight) (weight_of k later)) other ∙ h.0,
  Looks-skip p later (k + 1) fs es (omega arith) h.1,
)

none-from : (k : ℕ) (ps : List (ℕ × Edge)) → AreFrom (k + 1) ps → weight_of k ps ≡ None
none-from k [] from = refl
none-from k (p ∷ ps) from =
    let first = from.0 in
    let other : eqb p.0 k ≡ false = grind (arith, nat_tests, first) in
    ap (λ b. cond b (Some p.1.weight) (weight_of k ps)) other ∙ none-from k ps from.1

pub looks : (k : ℕ) (fs : List (Option ℕ)) (es : List Edge) (new : List (ℕ × Edge)) → AreFates fs es → AreFrom (k + length es) new → Looks (thin k fs es ++ new) k fs es
looks k [] es new are from = tt
looks k (f ∷ fs) [] new are from = tt
looks k (None ∷ fs) (e ∷ es) new are from = (
  none-from k (thin (k + 1) fs es ++ new) (AreFrom-append (k + 1) (thin (k + 1) fs es) new (thin-from (k + 1) fs es) (AreFrom-weaker (k + 1) (k + length (e ∷ es)) new (omega arith) from)),
  looks (k + 1) fs es new are (AreFrom-weaker (k + 1 + length es) (k + length (e ∷ es)) new (omega arith) from),
)
looks k (Some w ∷ fs) (e ∷ es) new are from = (
  let here : eqb k k ≡ true = grind (arith, nat_tests) in ap (λ b. cond b (Some w) (weight_of k (thin (k + 1) fs es ++ new))) here,
  Looks-skip (k, with_weight w e) (thin (k + 1) fs es ++ new) (k + 1) fs es (omega arith) (looks (k + 1) fs es new are (AreFrom-weaker (k + 1 + length es) (k + length (e ∷ es)) new (omega arith) from)),
)

kept-thin : (u : ℕ) (later : List (ℕ × Edge)) (k : ℕ) (fs : List (Option ℕ)) (es : List Edge) → AreFates fs es → Looks later k fs es → kept later (filter (leaves u) (enumerate_from k es)) ≡ map pair (filter (leaves u) (thin k fs es))
kept-thin u later k [] [] are h = refl
kept-thin u later k [] (e ∷ es) are h = absurd are
kept-thin u later k (f ∷ fs) [] are h = absurd are
kept-thin u later k (None ∷ fs) (e ∷ es) are h = by (eqb e.source u) (kept-thin u later (k + 1) fs es are h.1)
  where
    by : (b : Bool) → kept later (filter (leaves u) (enumerate_from (k + 1) es)) ≡ map pair (filter (leaves u) (thin (k + 1) fs es)) →
        kept later (cond b ((k, e) ∷ filter (leaves u) (enumerate_from (k + 1) es)) (filter (leaves u) (enumerate_from (k + 1) es))) ≡ map pair (filter (leaves u) (thin (k + 1) fs es))
    by true rest = ap (λ o. kept_one o (k, e) (kept later (filter (leaves u) (enumerate_from (k + 1) es)))) h.0 ∙ rest
    by false rest = rest
kept-thin u later k (Some w ∷ fs) (e ∷ es) are h = by (eqb e.source u) (kept-thin u later (k + 1) fs es are h.1)
  where
    by : (b : Bool) → kept later (filter (leaves u) (enumerate_from (k + 1) es)) ≡ map pair (filter (leaves u) (thin (k + 1) fs es)) →
        kept later (cond b ((k, e) ∷ filter (leaves u) (enumerate_from (k + 1) es)) (filter (leaves u) (enumerate_from (k + 1) es))) ≡ map pair (cond b ((k, with_weight w e) ∷ filter (leaves u) (thin (k + 1) fs es)) (filter (leaves u) (thin (k + 1) fs es)))
    by true rest = ap (λ o. kept_one o (k, e) (kept later (filter (leaves u) (enumerate_from (k + 1) es)))) h.0 ∙ ap (λ xs. (e.target, w) ∷ xs) rest
    by false rest = rest

pub map-reverse : {A B : Type 0} (f : A → B) (xs : List A) → map f (reverse xs) ≡ reverse (map f xs)
map-reverse f [] = refl
map-reverse f (x ∷ xs) = ap (map f) (reverse_one x xs) ∙ (map-append f (reverse xs) (x ∷ []) ∙ (ap (λ ys. ys ++ f x ∷ []) (map-reverse f xs) ∙ sym (reverse_one (f x) (map f xs))))

-- the row before, by its numbered edges
pub row-numbered : (g : Graph) (u : ℕ) → map pair (numbered_row g u) ≡ row g u
row-numbered g u =
    map-reverse pair (filter (leaves u) (enumerate_from 0 g.edges))
    ∙ (pairs_of-plain u (enumerate_from 0 g.edges)
    ∙ ap (λ es. reverse (leaving u es)) (plain-enumerate 0 g.edges))

-- the row afterwards: the new edges, and then what is left of the old ones
pub row-parts : (g : Graph) (writes : List Write) (u : ℕ) → (let t = thinned g writes in row (graph_after writes g) u ≡ pairs_of u t.new ++ pairs_of u (thin 0 t.fates g.edges))
row-parts g writes u =
    let t = thinned g writes in
    ap (λ es. reverse (leaving u es)) (sym (plain_after g writes))
    ∙ (sym (pairs_of-plain u (numbered_after writes g).edges)
    ∙ (ap (pairs_of u) t.edges ∙ pairs_of-append u (thin 0 t.fates g.edges) t.new))

pub kept-old : (g : Graph) (writes : List Write) (u : ℕ) → (let t = thinned g writes in kept (numbered_after writes g).edges (numbered_row g u) ≡ pairs_of u (thin 0 t.fates g.edges))
kept-old g writes u =
    let t = thinned g writes in
    let later = (numbered_after writes g).edges in
    let sees : Looks later 0 t.fates g.edges = subst (λ ps. Looks ps 0 t.fates g.edges) (sym t.edges) (looks 0 t.fates g.edges t.new t.are (AreFrom-weaker (0 + length g.edges) (length g.edges) t.new (omega arith) t.past)) in
    kept-reverse later (filter (leaves u) (enumerate_from 0 g.edges)) ∙ ap reverse (kept-thin u later 0 t.fates g.edges t.are sees)

-- a row with its change done is the row after the writes
pub row_done-row : (g : Graph) (writes : List Write) (u : ℕ) → row_done (row_change g writes u) (row g u) ≡ row (graph_after writes g) u
unfolding row_change
row_done-row g writes u =
    let t = thinned g writes in
    let later = (numbered_after writes g).edges in
    let old = numbered_row g u in
    let gone = indexes_gone 0 later old in
    let new = pairs_of u t.new in
    let left = pairs_of u (thin 0 t.fates g.edges) in
    let parts : row (graph_after writes g) u ≡ new ++ left = row-parts g writes u in
    let stays : kept later old ≡ left = kept-old g writes u in
    let survives : surviving 0 gone (indexes_reweighed 0 later old) (row g u) ≡ left = ap (surviving 0 gone (indexes_reweighed 0 later old)) (sym (row-numbered g u)) ∙ (surviving-kept 0 later old ∙ stays) in
    let counts = gone-kept 0 later old in
    let same : length (kept later old) ≡ length left = ap length stays in
    let whole : length (row (graph_after writes g) u) ≡ length new + length left = ap length parts ∙ length-append new left in
    let many : length (row (graph_after writes g) u) - (length old - length gone) ≡ length new = omega (arith, counts, same, whole) in
    ap (λ n. take n (row (graph_after writes g) u) ++ surviving 0 gone (indexes_reweighed 0 later old) (row g u)) many
    ∙ (ap (λ r. take (length new) r ++ surviving 0 gone (indexes_reweighed 0 later old) (row g u)) parts
    ∙ (ap (λ xs. xs ++ surviving 0 gone (indexes_reweighed 0 later old) (row g u)) (take_at new left (length new) refl)
    ∙ (ap (λ xs. new ++ xs) survives ∙ sym parts)))

-- an empty change does nothing
pub surviving-all : (i : ℕ) (r : List (ℕ × ℕ)) → surviving i [] [] r ≡ r
surviving-all i [] = refl
surviving-all i (p ∷ r) = ap (λ xs. p ∷ xs) (surviving-all (i + 1) r)

nil-of : {A : Type 0} (xs : List A) → eqb (length xs) 0 ≡ true → xs ≡ []
nil-of [] h = refl
nil-of (x ∷ xs) h = absurd (let bad : length (x ∷ xs) ≡ 0 = grind (arith, nat_tests, h) in omega (arith, bad))

pub row_done-empty : (c : RowChange) (r : List (ℕ × ℕ)) → is_empty_change c ≡ true → row_done c r ≡ r
row_done-empty c r h =
    let three = cases (eqb (length c.added) 0) (eqb (length c.killed) 0) (eqb (length c.set) 0) h in
    ap (λ xs. xs ++ surviving 0 c.killed c.set r) (nil-of c.added three.0)
    ∙ (ap (λ ks. surviving 0 ks c.set r) (nil-of c.killed three.1)
    ∙ (ap (λ ss. surviving 0 [] ss r) (nil-of c.set three.2) ∙ surviving-all 0 r))
  where
    cases : (x y z : Bool) → (x && y) && z ≡ true → (x ≡ true) × (y ≡ true) × (z ≡ true)
    cases true true true h = (refl, refl, refl)
    cases true true false h = absurd (false≢true h)
    cases true false z h = absurd (false≢true h)
    cases false y z h = absurd (false≢true h)

-- the changes of rows that are not empty
abbrev some_of : (ℕ → RowChange) → ℕ → ℕ → List RowChange
some_of f a n = filter (λ (c : RowChange). not (is_empty_change c)) (map f (range_with_len a n))

-- none of them is of a source before the first
row_after-past : (f : ℕ → RowChange) → ((u : ℕ) → (f u).source ≡ u) → (a n v : ℕ) (r : List (ℕ × ℕ)) → v < a → row_after (some_of f a n) v r ≡ r
row_after-past f names a zero v r lt = refl
row_after-past f names a (suc n) v r lt = skip (is_empty_change (f a)) (row_after-past f names (a + 1) n v r (omega arith))
  where
    skip : (e : Bool) → row_after (some_of f (a + 1) n) v r ≡ r → row_after (cond (not e) (f a ∷ some_of f (a + 1) n) (some_of f (a + 1) n)) v r ≡ r
    skip true rest = rest
    skip false rest =
        let is = names a in
        let other : eqb (f a).source v ≡ false = grind (arith, nat_tests, is) in
        ap (λ t. cond t (row_done (f a) r) (row_after (some_of f (a + 1) n) v r)) other ∙ rest

-- looked up at a source, they give its change
row_after-from : (f : ℕ → RowChange) → ((u : ℕ) → (f u).source ≡ u) → (a n v : ℕ) (r : List (ℕ × ℕ)) → a ≤ v → v < a + n → row_after (some_of f a n) v r ≡ row_done (f v) r
row_after-from f names a zero v r le lt = absurd (omega arith)
row_after-from f names a (suc n) v r le lt = by (cases_eq a v) (is_empty_change (f a)) refl (λ (ne : a ≢ v). row_after-from f names (a + 1) n v r (omega arith) (omega arith))
  where
    by : (a ≡ v) ⊎ (a ≢ v) → (b : Bool) → is_empty_change (f a) ≡ b → (a ≢ v → row_after (some_of f (a + 1) n) v r ≡ row_done (f v) r) →
        row_after (cond (not b) (f a ∷ some_of f (a + 1) n) (some_of f (a + 1) n)) v r ≡ row_done (f v) r
    by (inl is) false e rest =
        let name = names a in
        let here : eqb (f a).source v ≡ true = grind (arith, nat_tests, name, is) in
        ap (λ b. cond b (row_done (f a) r) (row_after (some_of f (a + 1) n) v r)) here ∙ ap (λ k. row_done (f k) r) is
    by (inl is) true e rest =
        row_after-past f names (a + 1) n v r (omega (arith, is)) ∙ sym (row_done-empty (f v) r (ap (λ k. is_empty_change (f k)) (sym is) ∙ e))
    by (inr ne) false e rest =
        let name = names a in
        let other : eqb (f a).source v ≡ false = grind (arith, nat_tests, name, ne) in
        ap (λ b. cond b (row_done (f a) r) (row_after (some_of f (a + 1) n) v r)) other ∙ rest ne
    by (inr ne) true e rest = rest ne

row_change-source : (g : Graph) (writes : List Write) (u : ℕ) → (row_change g writes u).source ≡ u
unfolding row_change
row_change-source g writes u = refl

-- the change done on a row of the graph gives the row after the writes
pub change_law : (g : Graph) (writes : List Write) (count v : ℕ) → v < count → row_after (changed_rows g writes count) v (row g v) ≡ row (graph_after writes g) v
change_law g writes count v below = row_after-from (row_change g writes) (row_change-source g writes) 0 count v (row g v) (omega arith) (omega arith) ∙ row_done-row g writes v

-- and a row past the count stays
pub change_law-past : (g : Graph) (writes : List Write) (count v : ℕ) (r : List (ℕ × ℕ)) → count ≤ v → row_after (changed_rows g writes count) v r ≡ r
change_law-past g writes count v r past = beyond 0 count (omega (arith, past))
  where
    f : ℕ → RowChange
    f = row_change g writes

    beyond : (a n : ℕ) → a + n ≤ v → row_after (some_of f a n) v r ≡ r
    beyond a zero le = refl
    beyond a (suc n) le = skip (is_empty_change (f a)) (beyond (a + 1) n (omega (arith, le)))
      where
        skip : (e : Bool) → row_after (some_of f (a + 1) n) v r ≡ r → row_after (cond (not e) (f a ∷ some_of f (a + 1) n) (some_of f (a + 1) n)) v r ≡ r
        skip true rest = rest
        skip false rest =
            let is = row_change-source g writes a in
            let other : eqb (f a).source v ≡ false = grind (arith, nat_tests, is, le) in
            ap (λ t. cond t (row_done (f a) r) (row_after (some_of f (a + 1) n) v r)) other ∙ rest
