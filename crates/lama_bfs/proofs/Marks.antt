-- What marking vertices one after another leaves.
use Rattle.std.proofs.Common.{◌≡◌, ◌≢◌, ◌∙◌, ℕ, zero, suc, ◌<◌, ◌⊎◌, inl, inr, List, [], ◌∷◌, ◌++◌, length, set, map, cond, Bool, true, false, Option, None, Some, refl, sym, ap, subst, arith, true≢false}
use Rattle.std.specs.Prelude.{◌==◌, ◌&&◌, ◌||◌, All, filter, is_none, slice_index_or, nat_lt}
use Rattle.std.proofs.lemmas.Bool.{cases_eq}
use Rattle.std.proofs.lemmas.Bool.Decides.{nat_tests}
use Rattle.std.proofs.lemmas.List.{length-set, get_or-set_same, get_or-set_other}
use Rattle.std.proofs.lemmas.List.Elements.{All-head, All-tail, All-append}
use Rattle.std.proofs.lemmas.List.Elements.{filter-append}
use Rattle.std.proofs.lemmas.Grind.{flat_map-append}
use Rattle.lama_model.specs.Row.{row_at}
use Rattle.lama_model.specs.Levels.{is_among}
use Rattle.lama_bfs.specs.Frontier.{is_new, is_unseen, targets_of, new_targets, AreMarked}

-- a new vertex gets the level, and is one of those that were found last; where there is no such vertex nothing happens
abbrev pub mark_one : ℕ → ℕ → List (Option ℕ) × List ℕ → List (Option ℕ) × List ℕ
mark_one level v s = cond {A = List (Option ℕ) × List ℕ} (nat_lt v (length s.0) && is_new s.0 v) (set s.0 v (Some level), s.1 ++ v ∷ []) s

-- the same for each of these vertices, one after another
abbrev pub mark_all : ℕ → List ℕ → List (Option ℕ) × List ℕ → List (Option ℕ) × List ℕ
mark_all level [] s = s
mark_all level (v ∷ vs) s = mark_all level vs (mark_one level v s)

abbrev pub State : Type 0
State = List (Option ℕ) × List ℕ

pub length-one : (level v : ℕ) (s : State) → length (mark_one level v s).0 ≡ length s.0
length-one level v s = by (nat_lt v (length s.0) && is_new s.0 v)
  where
    by : (b : Bool) → length (cond {A = State} b (set s.0 v (Some level), s.1 ++ v ∷ []) s).0 ≡ length s.0
    by true = length-set s.0 v (Some level)
    by false = refl

-- the same for a vertex that is there
abbrev mark_in : ℕ → ℕ → State → State
mark_in level v s = cond {A = State} (is_new s.0 v) (set s.0 v (Some level), s.1 ++ v ∷ []) s

mark-in : (level v : ℕ) (s : State) → v < length s.0 → mark_one level v s ≡ mark_in level v s
mark-in level v s lt = let here : nat_lt v (length s.0) ≡ true = grind (arith, nat_tests, lt) in ap (λ b. cond {A = State} (b && is_new s.0 v) (set s.0 v (Some level), s.1 ++ v ∷ []) s) here

pub length-all : (level : ℕ) (vs : List ℕ) (s : State) → length (mark_all level vs s).0 ≡ length s.0
length-all level [] s = refl
length-all level (v ∷ vs) s = length-all level vs (mark_one level v s) ∙ length-one level v s

-- one vertex more in a list
pub among-push : (w : ℕ) (vs : List ℕ) (v : ℕ) → is_among w (vs ++ v ∷ []) ≡ is_among w vs || (v == w)
among-push w [] v = by (v == w)
  where
    by : (b : Bool) → b || false ≡ false || b
    by true = refl
    by false = refl
among-push w (u ∷ vs) v = ap (λ b. (u == w) || b) (among-push w vs v) ∙ by (u == w) (is_among w vs) (v == w)
  where
    by : (a b c : Bool) → a || (b || c) ≡ (a || b) || c
    by true b c = refl
    by false b c = refl

-- nothing is marked yet
pub marked-none : (level : ℕ) (before : List (Option ℕ)) → AreMarked level [] before before []
marked-none level before = record {
  len = refl;
  each = λ v lt. by (is_new before v) (slice_index_or before v None);
  next_are = λ v lt. by' (is_new before v);
  below = λ k d lt. absurd (omega (arith, lt));
}
  where
    by : (b : Bool) (o : Option ℕ) → o ≡ cond (b && false) (Some level) o
    by true o = refl
    by false o = refl

    by' : (b : Bool) → false ≡ b && false
    by' true = refl
    by' false = refl

module _ (level : ℕ) (before : List (Option ℕ)) where
  -- what stands at w after v is marked
  at-one : (vs : List ℕ) (now : List (Option ℕ)) (next : List ℕ) (v w : ℕ) → AreMarked level vs before now next → v < length before → w < length before
      → (slice_index_or (mark_in level v (now, next)).0 w None ≡ cond (is_new before w && (is_among w vs || (v == w))) (Some level) (slice_index_or before w None))
      × (is_among w (mark_in level v (now, next)).1 ≡ is_new before w && (is_among w vs || (v == w)))
  at-one vs now next v w h lv lw = by (is_new now v) refl (cases_eq v w)
    where
      Says : Bool → Type 0
      Says b = (slice_index_or (cond {A = State} b (set now v (Some level), next ++ v ∷ []) (now, next)).0 w None ≡ cond (is_new before w && (is_among w vs || (v == w))) (Some level) (slice_index_or before w None))
          × (is_among w (cond {A = State} b (set now v (Some level), next ++ v ∷ []) (now, next)).1 ≡ is_new before w && (is_among w vs || (v == w)))

      other-or : (a : Bool) → a || false ≡ a
      other-or true = refl
      other-or false = refl

      -- a vertex that has no level now had none, and is none of those so far
      fresh : (a b : Bool) (o : Option ℕ) → is_none (cond (a && b) (Some level) o) ≡ true → is_none o ≡ a → (a ≡ true) × (b ≡ false)
      fresh true true o e f = absurd (true≢false (sym e))
      fresh true false o e f = (refl, refl)
      fresh false b o e f = absurd (true≢false (sym e ∙ f))

      -- one that has a level now had one, or is one of those so far
      stale : (a b : Bool) (o : Option ℕ) → is_none (cond (a && b) (Some level) o) ≡ false → is_none o ≡ a → a && (b || true) ≡ a && b
      stale true true o e f = refl
      stale true false o e f = absurd (true≢false (sym f ∙ e))
      stale false b o e f = refl

      by : (b : Bool) → is_new now v ≡ b → (v ≡ w) ⊎ (v ≢ w) → Says b
      by true new (inl e) =
          let at_w : is_new now w ≡ true = subst (λ k. is_new now k ≡ true) e new in
          let f = fresh (is_new before w) (is_among w vs) (slice_index_or before w None) (ap is_none (sym (h.each w lw)) ∙ at_w) refl in
          let same : (v == w) ≡ true = grind (arith, nat_tests, e) in
          let goes : is_new before w && (is_among w vs || (v == w)) ≡ true = λ j. f.0 j && (f.1 j || same j) in
          let size : v < length now = omega (arith, lv, h.len) in (
            ap (λ k. slice_index_or (set now v (Some level)) k None) (sym e) ∙ get_or-set_same now v (Some level) None size ∙ sym (ap (λ b. cond b (Some level) (slice_index_or before w None)) goes),
            among-push w next v ∙ ap (λ b. is_among w next || b) same ∙ or-true (is_among w next) ∙ sym goes,
          )
        where
          or-true : (b : Bool) → b || true ≡ true
          or-true true = refl
          or-true false = refl
      by true new (inr ne) =
          let apart : (v == w) ≡ false = grind (arith, nat_tests, ne) in
          let same : is_new before w && (is_among w vs || (v == w)) ≡ is_new before w && is_among w vs = ap (λ b. is_new before w && b) (ap (λ b. is_among w vs || b) apart ∙ other-or (is_among w vs)) in (
            get_or-set_other now v w (Some level) None (λ e. ne (sym e)) ∙ h.each w lw ∙ sym (ap (λ b. cond b (Some level) (slice_index_or before w None)) same),
            among-push w next v ∙ ap (λ b. is_among w next || b) apart ∙ other-or (is_among w next) ∙ h.next_are w lw ∙ sym same,
          )
      by false old (inl e) =
          let at_w : is_new now w ≡ false = subst (λ k. is_new now k ≡ false) e old in
          let yes : (v == w) ≡ true = grind (arith, nat_tests, e) in
          let same : is_new before w && (is_among w vs || (v == w)) ≡ is_new before w && is_among w vs =
          ap (λ b. is_new before w && (is_among w vs || b)) yes ∙ stale (is_new before w) (is_among w vs) (slice_index_or before w None) (ap is_none (sym (h.each w lw)) ∙ at_w) refl in
          (h.each w lw ∙ sym (ap (λ b. cond b (Some level) (slice_index_or before w None)) same), h.next_are w lw ∙ sym same)
      by false old (inr ne) =
          let apart : (v == w) ≡ false = grind (arith, nat_tests, ne) in
          let same : is_new before w && (is_among w vs || (v == w)) ≡ is_new before w && is_among w vs = ap (λ b. is_new before w && b) (ap (λ b. is_among w vs || b) apart ∙ other-or (is_among w vs)) in
          (h.each w lw ∙ sym (ap (λ b. cond b (Some level) (slice_index_or before w None)) same), h.next_are w lw ∙ sym same)

  below-one : (now : List (Option ℕ)) (next : List ℕ) (v : ℕ) → v < length before → All (λ u. u < length before) next → All (λ u. u < length before) (mark_in level v (now, next)).1
  below-one now next v lt h = by (is_new now v)
    where
      single : All (λ u. u < length before) (v ∷ [])
      single zero d l = lt
      single (suc k) d l = absurd (omega (arith, l))

      by : (b : Bool) → All (λ u. u < length before) (cond {A = State} b (set now v (Some level), next ++ v ∷ []) (now, next)).1
      by true = All-append (λ u. u < length before) next (v ∷ []) h single
      by false = h

  marked-more : (vs : List ℕ) (now : List (Option ℕ)) (next : List ℕ) (v : ℕ) → AreMarked level vs before now next → v < length before
      → AreMarked level (vs ++ v ∷ []) before (mark_one level v (now, next)).0 (mark_one level v (now, next)).1
  marked-more vs now next v h lv =
      let size : v < length now = omega (arith, lv, h.len) in
      subst (λ (s : State). AreMarked level (vs ++ v ∷ []) before s.0 s.1) (sym (mark-in level v (now, next) size)) (record {
        len = ap (λ (s : State). length s.0) (sym (mark-in level v (now, next) size)) ∙ (length-one level v (now, next) ∙ h.len);
        each = λ w lw. (at-one vs now next v w h lv lw).0 ∙ sym (ap (λ b. cond (is_new before w && b) (Some level) (slice_index_or before w None)) (among-push w vs v));
        next_are = λ w lw. (at-one vs now next v w h lv lw).1 ∙ sym (ap (λ b. is_new before w && b) (among-push w vs v));
        below = below-one now next v lv h.below;
      })

  append-one : (vs : List ℕ) (v : ℕ) (ws : List ℕ) → (vs ++ v ∷ []) ++ ws ≡ vs ++ v ∷ ws
  append-one [] v ws = refl
  append-one (u ∷ vs) v ws = ap (λ l. u ∷ l) (append-one vs v ws)

  append-none : (vs : List ℕ) → vs ++ [] ≡ vs
  append-none [] = refl
  append-none (u ∷ vs) = ap (λ l. u ∷ l) (append-none vs)

  -- marking these vertices after those
  pub marked-all : (ws vs : List ℕ) (s : State) → AreMarked level vs before s.0 s.1 → All (λ v. v < length before) ws
      → AreMarked level (vs ++ ws) before (mark_all level ws s).0 (mark_all level ws s).1
  marked-all [] vs s h below = subst (λ l. AreMarked level l before s.0 s.1) (sym (append-none vs)) h
  marked-all (v ∷ ws) vs s h below =
      subst (λ l. AreMarked level l before (mark_all level ws (mark_one level v s)).0 (mark_all level ws (mark_one level v s)).1) (append-one vs v ws)
      (marked-all ws (vs ++ v ∷ []) (mark_one level v s) (marked-more vs s.0 s.1 v h (All-head (λ v. v < length before) v ws below)) (All-tail (λ v. v < length before) v ws below))

-- the new targets of two lists of vertices are those of one and then those of the other
pub new-joins : (rows : List (List (ℕ × ℕ))) (seen : List Bool) (us ws : List ℕ) → new_targets rows seen (us ++ ws) ≡ new_targets rows seen us ++ new_targets rows seen ws
new-joins rows seen us ws = ap (filter (is_unseen seen)) (flat_map-append (λ u. map (λ p. p.0) (row_at rows u)) us ws) ∙ filter-append (is_unseen seen) (targets_of rows us) (targets_of rows ws)

-- the targets of two lists of vertices are those of one and then those of the other
pub targets-join : (rows : List (List (ℕ × ℕ))) (us ws : List ℕ) → targets_of rows (us ++ ws) ≡ targets_of rows us ++ targets_of rows ws
targets-join rows us ws = flat_map-append (λ u. map (λ p. p.0) (row_at rows u)) us ws
