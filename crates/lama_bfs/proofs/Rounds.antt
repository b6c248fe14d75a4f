-- What stands between two levels, in a graph that has these rows.
use Rattle.std.proofs.Common.{◌≡◌, ◌≢◌, ◌∙◌, ℕ, zero, suc, ◌+◌, ◌<◌, ◌≤◌, ◌⊎◌, inl, inr, List, [], ◌∷◌, ◌++◌, length, get_or, slice_index, set, map, replicate, cond, Bool, true, false, Option, None, Some, refl, sym, ap, subst, arith, true≢false}
use Rattle.std.specs.Prelude.{◌==◌, ◌&&◌, ◌||◌, All, is_none, nat_lt, slice_index_or}
use Rattle.std.specs.List.{list_any, flat_map}
use Rattle.std.proofs.lemmas.Bool.{cases_eq, cases_lt}
use Rattle.std.proofs.lemmas.Bool.Decides.{nat_tests}
use Rattle.std.specs.List.{range_with_len}
use Rattle.std.proofs.lemmas.List.{length-set, length-map, length-replicate, get_or-replicate, get_or-set_same, get_or-set_other, ext_get_or}
use Rattle.std.proofs.lemmas.List.FromFn.{length-range_with_len, get_or-map-range_with_len}
use Rattle.std.proofs.lemmas.List.Folds.{list_any-append}
use Rattle.lama_model.specs.Graph.{Graph}
use Rattle.lama_model.specs.Row.{row_at, graph_of_rows, AreTargetsBelow}
use Rattle.lama_model.proofs.RowsOfGraph.{row-of-rows}
use Rattle.lama_model.proofs.Leading.{leads-graph}
use Rattle.lama_model.specs.Levels.{first_from, is_among, leads, is_reached, level, levels}
use Rattle.lama_bfs.specs.Frontier.{is_new, targets_of, AreMarked, IsRound}
use Rattle.lama_bfs.proofs.Marks.{State, mark_all, marked-none, marked-all}
use Rattle.std.proofs.lemmas.List.Elements.{All-head, All-tail, All-append}
use Rattle.lama_model.proofs.LevelLaw.{any-found, or-left, reached-step, last-edge, IsFirst, first-is, LeavesVertices, Least, on-way, least-one, least-below}

any-flat_map : {X Y : Type 0} (q : Y → Bool) (f : X → List Y) (xs : List X) → list_any q (flat_map f xs) ≡ list_any (λ x. list_any q (f x)) xs
any-flat_map q f [] = refl
any-flat_map q f (x ∷ xs) = list_any-append q (f x) (flat_map f xs) ∙ ap (λ b. list_any q (f x) || b) (any-flat_map q f xs)

-- only one number is the first
first-unique : (t : ℕ → Bool) (i k : ℕ) (o o' : Option ℕ) → IsFirst t i k o → IsFirst t i k o' → o ≡ o'
first-unique t i k None None h h' = refl
first-unique t i k None (Some n) h h' = absurd (true≢false (sym h'.passes ∙ h n h'.from h'.within))
first-unique t i k (Some n) None h h' = absurd (true≢false (sym h.passes ∙ h' n h.from h.within))
first-unique t i k (Some n) (Some m) h h' = by (cases_lt n m) (cases_lt m n)
  where
    by : (n < m) ⊎ (m ≤ n) → (m < n) ⊎ (n ≤ m) → Some n ≡ Some m
    by (inl lt) other = absurd (true≢false (sym h.passes ∙ h'.first n h.from lt))
    by (inr le) (inl lt) = absurd (true≢false (sym h'.passes ∙ h.first m h'.from lt))
    by (inr le) (inr ge) = let same : n ≡ m = omega (arith, le, ge) in ap (λ k. Some k) same

some-inj : {x y : ℕ} → Some x ≡ Some y → x ≡ y
some-inj {x = x} e = ap (λ o. elim o as (λ _. ℕ) [ None ↦ x | Some z ↦ z ]) e

-- the targets of edges are vertices
targets-below : (n : ℕ) (rows : List (List (ℕ × ℕ))) (us : List ℕ) → AreTargetsBelow n rows → All (λ v. v < n) (targets_of rows us)
targets-below n rows [] h = λ k d lt. absurd (omega (arith, lt))
targets-below n rows (u ∷ us) h = All-append (λ v. v < n) (map (λ p. p.0) (row_at rows u)) (targets_of rows us) (firsts (row_at rows u) (of-row rows u h)) (targets-below n rows us h)
  where
    of-row : (rows : List (List (ℕ × ℕ))) (u : ℕ) → AreTargetsBelow n rows → All (λ p. p.0 < n) (row_at rows u)
    of-row [] u h = λ k d lt. absurd (omega (arith, lt))
    of-row (r ∷ rows) zero h = All-head (λ (r : List (ℕ × ℕ)). All (λ p. p.0 < n) r) r rows h
    of-row (r ∷ rows) (suc u) h = of-row rows u (All-tail (λ (r : List (ℕ × ℕ)). All (λ p. p.0 < n) r) r rows h)

    firsts : (ps : List (ℕ × ℕ)) → All (λ p. p.0 < n) ps → All (λ v. v < n) (map (λ p. p.0) ps)
    firsts [] h k d lt = absurd (omega (arith, lt))
    firsts (p ∷ ps) h zero d lt = All-head (λ (p : ℕ × ℕ). p.0 < n) p ps h
    firsts (p ∷ ps) h (suc k) d lt = firsts ps (All-tail (λ (p : ℕ × ℕ). p.0 < n) p ps h) k d (omega (arith, lt))

-- all targets of a frontier marked
pub from-all : (level : ℕ) (rows : List (List (ℕ × ℕ))) (us : List ℕ) (before after : List (Option ℕ)) (next : List ℕ) → AreTargetsBelow (length rows) rows → length before ≡ length rows
    → (after, next) ≡ mark_all level (targets_of rows us) (before, []) → AreMarked level (targets_of rows us) before after next
from-all level rows us before after next targets size is =
    subst (λ (s : State). AreMarked level (targets_of rows us) before s.0 s.1) (sym is)
    (marked-all level before (targets_of rows us) [] (before, []) (marked-none level before) (subst (λ n. All (λ v. v < n) (targets_of rows us)) (sym size) (targets-below (length rows) rows us targets)))

module _ (rows : List (List (ℕ × ℕ))) (s : ℕ) where
  abbrev g : Graph
  g = graph_of_rows rows

  abbrev reached : ℕ → ℕ → Bool
  reached v n = is_reached g.edges s n v

  leads-row : (u v : ℕ) → leads g.edges u v ≡ is_among v (map (λ p. p.0) (row_at rows u))
  leads-row u v = leads-graph g u v ∙ ap (λ r. is_among v (map (λ p. p.0) r)) (row-of-rows rows u)

  row-past : (rs : List (List (ℕ × ℕ))) (u : ℕ) → length rs ≤ u → row_at rs u ≡ []
  row-past [] u le = refl
  row-past (r ∷ rs) zero le = absurd (omega (arith, le))
  row-past (r ∷ rs) (suc u) le = row-past rs u (omega (arith, le))

  small : LeavesVertices g
  small u v edge = by (cases_lt u (length rows))
    where
      by : (u < length rows) ⊎ (length rows ≤ u) → u < length rows
      by (inl lt) = lt
      by (inr le) = absurd (true≢false (sym edge ∙ (leads-row u v ∙ ap (λ r. is_among v (map (λ p. p.0) r)) (row-past rows u le))))

  -- the level with which a vertex was found is the first that reaches it
  found-first : (n : ℕ) (found : List (Option ℕ)) (front : List ℕ) → IsRound rows s n found front → (v : ℕ) → v < length rows → IsFirst (reached v) 0 (n + 1) (slice_index_or found v None)
  found-first n found front r v lv = subst (IsFirst (reached v) 0 (n + 1)) (sym (r.found_are v lv)) (first-is (reached v) 0 (n + 1))

  -- and only that one is
  first-found : (n v : ℕ) (o : Option ℕ) → IsFirst (reached v) 0 (n + 1) o → o ≡ first_from (reached v) 0 (n + 1)
  first-found n v o h = first-unique (reached v) 0 (n + 1) o (first_from (reached v) 0 (n + 1)) h (first-is (reached v) 0 (n + 1))

  module _ (n : ℕ) (found : List (Option ℕ)) (front : List ℕ) (r : IsRound rows s n found front) where
    -- a vertex of the frontier has level n
    front-least : (u : ℕ) → u < length rows → is_among u front ≡ true → Least g s small n u
    front-least u lt among =
        let f = subst (IsFirst (reached u) 0 (n + 1)) (r.front_has u lt among) (found-first n found front r u lt) in
        record { reached = f.passes; none = λ j lj. f.first j (omega arith) lj }

    -- what the frontier leads to is reached by one edge more
    on : (v : ℕ) → is_among v (targets_of rows front) ≡ true → reached v (n + 1) ≡ true
    on v among =
        let h : list_any (λ u. is_among v (map (λ p. p.0) (row_at rows u))) front ≡ true = sym (any-flat_map (λ t. t == v) (λ u. map (λ p. p.0) (row_at rows u)) front) ∙ among in
        let f = any-found (λ u. is_among v (map (λ p. p.0) (row_at rows u))) front h in
        let lt : f.one < length rows = subst (λ u. u < length rows) (f.is f.one) (r.below f.index f.one f.within) in
        let self : (f.one == f.one) ≡ true = grind (arith, nat_tests) in
        let edge : leads g.edges f.one v ≡ true = leads-row f.one v ∙ f.passes in
        let step = reached-step g.edges s n f.one v edge (front-least f.one lt (f.there (λ x. x == f.one) self)).reached in
        let next : suc n ≡ n + 1 = omega arith in
        subst (λ k. reached v k ≡ true) next step

    -- and what is reached so and not before is a target of the frontier
    back : (v : ℕ) → IsFirst (reached v) 0 (n + 1) None → reached v (n + 1) ≡ true → is_among v (targets_of rows front) ≡ true
    back v none h =
        let next : n + 1 ≡ suc n = omega arith in
        let l = last-edge g.edges s n v (subst (λ k. reached v k ≡ true) next h) in
        let u = l.before in
        let lt : u < length rows = small u v l.edge in
        let among : is_among u front ≡ true = r.has_front u lt (by u (slice_index_or found u None) (found-first n found front r u lt) l.reached l.edge) in
        let f = any-found (λ w. w == u) front among in
        let at : f.one ≡ u = let e = f.passes in grind (arith, nat_tests, e) in
        any-flat_map (λ t. t == v) (λ u. map (λ p. p.0) (row_at rows u)) front
        ∙ f.there (λ u. is_among v (map (λ p. p.0) (row_at rows u))) (ap (λ k. is_among v (map (λ p. p.0) (row_at rows k))) at ∙ (sym (leads-row u v) ∙ l.edge))
      where
        by : (u : ℕ) (o : Option ℕ) → IsFirst (reached u) 0 (n + 1) o → reached u n ≡ true → leads g.edges u v ≡ true → o ≡ Some n
        by u None f h edge = absurd (true≢false (sym h ∙ f n (omega arith) (omega arith)))
        by u (Some k) f h edge = by_place (cases_lt k n)
          where
            by_place : (k < n) ⊎ (n ≤ k) → Some k ≡ Some n
            by_place (inl lt) = absurd (true≢false (sym (reached-step g.edges s k u v edge f.passes) ∙ none (suc k) (omega arith) (omega (arith, lt))))
            by_place (inr le) = let w = f.within in let same : k ≡ n = omega (arith, le, w) in ap (λ k. Some k) same

    -- the next level
    pub next-round : (found' : List (Option ℕ)) (front' : List ℕ) → AreMarked (n + 1) (targets_of rows front) found found' front' → IsRound rows s (n + 1) found' front'
    next-round found' front' h = record {
      size = h.len ∙ r.size;
      found_are = λ v lt. first-found (n + 1) v (slice_index_or found' v None) (subst (IsFirst (reached v) 0 (n + 1 + 1)) (sym (h.each v (omega (arith, lt, size))))
          (is v (slice_index_or found v None) (is_among v (targets_of rows front)) (found-first n found front r v lt) refl));
      front_has = λ v lt among. h.each v (omega (arith, lt, size)) ∙ ap (λ b. cond b (Some (n + 1)) (slice_index_or found v None)) (sym (h.next_are v (omega (arith, lt, size))) ∙ among);
      has_front = λ v lt has. h.next_are v (omega (arith, lt, size)) ∙ has_it v (slice_index_or found v None) (is_new found v && is_among v (targets_of rows front)) (found-first n found front r v lt) (sym (h.each v (omega (arith, lt, size))) ∙ has);
      below = subst (λ k. All (λ v. v < k) front') size h.below;
    }
      where
        size : length found ≡ length rows
        size = r.size

        is : (v : ℕ) (o : Option ℕ) (a : Bool) → IsFirst (reached v) 0 (n + 1) o → is_among v (targets_of rows front) ≡ a → IsFirst (reached v) 0 (n + 1 + 1) (cond (is_none o && a) (Some (n + 1)) o)
        is v (Some k) a f e = record { passes = f.passes; from = f.from; within = (let w = f.within in omega (arith, w)); first = f.first }
        is v None true f e = record { passes = on v e; from = omega arith; within = omega arith; first = λ j le lt. f j le (omega (arith, lt)) }
        is v None false f e = λ j le lt. by_place j le lt (cases_lt j (n + 1))
          where
            by_place : (j : ℕ) → 0 ≤ j → j < 0 + (n + 1 + 1) → (j < n + 1) ⊎ (n + 1 ≤ j) → reached v j ≡ false
            by_place j le lt (inl l) = f j le (omega (arith, l))
            by_place j le lt (inr ge) = let at : n + 1 ≡ j = omega (arith, ge, lt) in subst (λ k. reached v k ≡ false) at (no (reached v (n + 1)) refl)
              where
                no : (b : Bool) → reached v (n + 1) ≡ b → reached v (n + 1) ≡ false
                no true h = absurd (true≢false (sym (back v f h) ∙ e))
                no false h = h

        has_it : (v : ℕ) (o : Option ℕ) (b : Bool) → IsFirst (reached v) 0 (n + 1) o → cond b (Some (n + 1)) o ≡ Some (n + 1) → b ≡ true
        has_it v o true f e = refl
        has_it v None false f e = absurd (true≢false (ap is_none e))
        has_it v (Some k) false f e = let same = some-inj e in let w = f.within in absurd (omega (arith, same, w))

  abbrev no_level : List (Option ℕ)
  no_level = replicate (length rows) None

  -- before any edge
  pub first-round : (found : List (Option ℕ)) → found ≡ set no_level s (Some 0) → s < length rows → IsRound rows s 0 found (s ∷ [])
  first-round found is lt = record {
    size = ap length is ∙ (length-set no_level s (Some 0) ∙ length-replicate (length rows) None);
    found_are = λ v lv. first-found 0 v (slice_index_or found v None) (subst (IsFirst (reached v) 0 1) (sym (at v lv)) (first v (cases_eq s v)));
    front_has = λ v lv among. at v lv ∙ ap (λ b. cond b (Some 0) None) (or-single (s == v) among);
    has_front = λ v lv has. or-left (s == v) false (has_it (s == v) (sym (at v lv) ∙ has));
    below = λ k d lk. single k d lk;
  }
    where
      size : length no_level ≡ length rows
      size = length-replicate (length rows) None

      at : (v : ℕ) → v < length rows → slice_index_or found v None ≡ cond (s == v) (Some 0) None
      at v lv = ap (λ l. slice_index_or l v None) is ∙ by (cases_eq s v)
        where
          by : (s ≡ v) ⊎ (s ≢ v) → slice_index_or (set no_level s (Some 0)) v None ≡ cond (s == v) (Some 0) None
          by (inl e) = let here : (s == v) ≡ true = grind (arith, nat_tests, e) in
              ap (λ k. slice_index_or (set no_level s (Some 0)) k None) (sym e) ∙ get_or-set_same no_level s (Some 0) None (omega (arith, lt, size)) ∙ sym (ap (λ b. cond b (Some 0) None) here)
          by (inr ne) = let other : (s == v) ≡ false = grind (arith, nat_tests, ne) in
              get_or-set_other no_level s v (Some 0) None (λ e. ne (sym e)) ∙ get_or-replicate (length rows) v None None lv ∙ sym (ap (λ b. cond b (Some 0) None) other)

      first : (v : ℕ) → (s ≡ v) ⊎ (s ≢ v) → IsFirst (reached v) 0 1 (cond (s == v) (Some 0) None)
      first v (inl e) =
          let here : (s == v) ≡ true = grind (arith, nat_tests, e) in
          subst (λ b. IsFirst (reached v) 0 1 (cond b (Some 0) None)) (sym here) (record { passes = here; from = omega arith; within = omega arith; first = λ j le l. absurd (omega (arith, l)) })
      first v (inr ne) =
          let other : (s == v) ≡ false = grind (arith, nat_tests, ne) in
          subst (λ b. IsFirst (reached v) 0 1 (cond b (Some 0) None)) (sym other) (λ j le l. let zero_is : 0 ≡ j = omega (arith, l) in subst (λ k. reached v k ≡ false) zero_is other)

      or-single : (b : Bool) → b || false ≡ true → b ≡ true
      or-single true e = refl
      or-single false e = e

      has_it : (b : Bool) → cond {A = Option ℕ} b (Some 0) None ≡ Some 0 → b ≡ true
      has_it true e = refl
      has_it false e = absurd (true≢false (ap is_none e))

      single : (k d : ℕ) → k < 1 → get_or (s ∷ []) k d < length rows
      single zero d lk = lt
      single (suc k) d lk = absurd (omega (arith, lk))

  -- from a frontier of one vertex, whose only edge leads to one that has no level, to that one
  pub next-of-one : (n : ℕ) (found : List (Option ℕ)) (u v : ℕ) → IsRound rows s n found (u ∷ []) → AreTargetsBelow (length rows) rows → map (λ p. p.0) (row_at rows u) ≡ v ∷ []
      → v < length found → is_new found v ≡ true → IsRound rows s (n + 1) (set found v (Some (n + 1))) (v ∷ [])
  next-of-one n found u v r targets only lt new =
      next-round n found (u ∷ []) r (set found v (Some (n + 1))) (v ∷ []) (from-all (n + 1) rows (u ∷ []) found (set found v (Some (n + 1))) (v ∷ []) targets r.size is)
    where
      here : nat_lt v (length found) && is_new found v ≡ true
      here = let l : nat_lt v (length found) ≡ true = grind (arith, nat_tests, lt) in λ j. l j && new j

      is : (set found v (Some (n + 1)), v ∷ []) ≡ mark_all (n + 1) (targets_of rows (u ∷ [])) (found, [])
      is = sym (ap (λ vs. mark_all (n + 1) (vs ++ []) (found, [])) only ∙ ap (λ (b : Bool). cond {A = State} b (set found v (Some (n + 1)), v ∷ []) (found, [])) here)

  -- a frontier has a level below the number of vertices
  pub level-below : (n : ℕ) (found : List (Option ℕ)) (front : List ℕ) → IsRound rows s n found front → 0 < length front → n < length rows
  level-below n found [] r some = absurd (omega (arith, some))
  level-below n found (u ∷ us) r some =
      let self : (u == u) ≡ true = grind (arith, nat_tests) in
      let lt : u < length rows = r.below 0 u (omega arith) in
      least-below g s small n u lt (front-least n found (u ∷ us) r u lt (or-left (u == u) (is_among u us) self))

  -- where the frontier is empty, all levels are found
  pub last-round : (n : ℕ) (found : List (Option ℕ)) → IsRound rows s n found [] → found ≡ levels g s
  unfolding levels
  last-round n found r = ext_get_or None found (map (level g s) (range_with_len 0 (length rows)))
      (r.size ∙ sym (length-map (range_with_len 0 (length rows)) (level g s) ∙ length-range_with_len 0 (length rows)))
      (λ v lv. let lt : v < length rows = let e = r.size in omega (arith, e, lv) in
      same v lt (slice_index_or found v None) (level g s v) (found-first n found [] r v lt) (first-is (reached v) 0 (length rows))
      ∙ sym (get_or-map-range_with_len (level g s) 0 (length rows) v v None lt (let e : 0 + v ≡ v = omega arith in e)))
    where
      -- no vertex has level n, and so none has a greater one
      early : (k v : ℕ) → v < length rows → Least g s small k v → k < n
      early k v lt h = by (cases_lt k n)
        where
          by : (k < n) ⊎ (n ≤ k) → k < n
          by (inl l) = l
          by (inr le) =
              let w = on-way g s small k v n lt h le in
              let f = found-first n found [] r w.0 w.2 in
              let has : slice_index_or found w.0 None ≡ Some n = first-unique (reached w.0) 0 (n + 1) (slice_index_or found w.0 None) (Some n) f
              (record { passes = w.1.reached; from = omega arith; within = omega arith; first = λ j ge l. w.1.none j l }) in
              absurd (true≢false (sym (r.has_front w.0 w.2 has)))

      same : (v : ℕ) → v < length rows → (o o' : Option ℕ) → IsFirst (reached v) 0 (n + 1) o → IsFirst (reached v) 0 (length rows) o' → o ≡ o'
      same v lt None None h h' = refl
      same v lt None (Some k) h h' =
          let e = early k v lt (record { reached = h'.passes; none = λ j l. h'.first j (omega arith) l }) in
          absurd (true≢false (sym h'.passes ∙ h k (omega arith) (omega (arith, e))))
      same v lt (Some k) None h h' =
          let e = least-below g s small k v lt (record { reached = h.passes; none = λ j l. h.first j (omega arith) l }) in
          absurd (true≢false (sym h.passes ∙ h' k (omega arith) (omega (arith, e))))
      same v lt (Some k) (Some k') h h' =
          let one = least-one g s small k k' v (record { reached = h.passes; none = λ j l. h.first j (omega arith) l }) (record { reached = h'.passes; none = λ j l. h'.first j (omega arith) l }) in
          ap (λ k. Some k) one

pub one-is : (vs : List ℕ) → length vs ≡ 1 → vs ≡ slice_index vs 0 ∷ []
one-is [] e = absurd (omega (arith, e))
one-is (u ∷ []) e = refl
one-is (u ∷ w ∷ vs) e = absurd (omega (arith, e))

pub empty-is : (vs : List ℕ) → length vs ≡ 0 → vs ≡ []
empty-is [] e = refl
empty-is (v ∷ vs) e = absurd (omega (arith, e))
