-- Vertices that are seen, and the levels that they get.
use Rattle.std.proofs.Common.{◌≡◌, ◌≢◌, ◌∙◌, ◌⊎◌, inl, inr, ℕ, zero, suc, ◌<◌, List, [], ◌∷◌, ◌++◌, length, set, map, replicate, cond, Bool, true, false, Option, None, Some, refl, sym, ap, arith}
use Rattle.std.specs.Prelude.{◌&&◌, filter, is_none, is_some, not, nat_lt}
use Rattle.std.proofs.lemmas.Bool.{cases_eq}
use Rattle.std.proofs.lemmas.Bool.Decides.{nat_tests}
use Rattle.std.proofs.lemmas.List.{length-map, map-set, get_or-set_same, get_or-set_other}
use Rattle.lama_bfs.specs.Frontier.{is_new, is_unseen, see_one, see_all, give}
use Rattle.lama_bfs.proofs.Marks.{State, mark_one, mark_all}

abbrev pub Seen : Type 0
Seen = List Bool × List ℕ

pub see-append : (vs ws : List ℕ) (s : Seen) → see_all (vs ++ ws) s ≡ see_all ws (see_all vs s)
see-append [] ws s = refl
see-append (v ∷ vs) ws s = see-append vs ws (see_one v s)

-- which vertices have a level
abbrev pub found : List (Option ℕ) → List Bool
found levels = map is_some levels

not-some : (o : Option ℕ) → not (is_some o) ≡ is_none o
not-some None = refl
not-some (Some l) = refl

-- a vertex that has no level was not seen
pub unseen-new : (levels : List (Option ℕ)) (v : ℕ) → is_unseen (found levels) v ≡ is_new levels v
unseen-new [] v = refl
unseen-new (o ∷ levels) zero = not-some o
unseen-new (o ∷ levels) (suc v) = unseen-new levels v

-- seeing is marking without levels
see-one : (level v : ℕ) (s : State) → see_one v (found s.0, s.1) ≡ (found (mark_one level v s).0, (mark_one level v s).1)
see-one level v s = ap (λ (b : Bool). cond {A = Seen} b (set (found s.0) v true, s.1 ++ v ∷ []) (found s.0, s.1)) test ∙ by (nat_lt v (length s.0) && is_new s.0 v)
  where
    test : nat_lt v (length (found s.0)) && is_unseen (found s.0) v ≡ nat_lt v (length s.0) && is_new s.0 v
    test = λ j. nat_lt v (length-map s.0 is_some j) && unseen-new s.0 v j

    by : (b : Bool) → cond {A = Seen} b (set (found s.0) v true, s.1 ++ v ∷ []) (found s.0, s.1)
        ≡ (found (cond {A = State} b (set s.0 v (Some level), s.1 ++ v ∷ []) s).0, (cond {A = State} b (set s.0 v (Some level), s.1 ++ v ∷ []) s).1)
    by true = ap (λ (l : List Bool). (l, s.1 ++ v ∷ [])) (sym (map-set is_some s.0 v (Some level)))
    by false = refl

pub see-all : (level : ℕ) (vs : List ℕ) (s : State) → see_all vs (found s.0, s.1) ≡ (found (mark_all level vs s).0, (mark_all level vs s).1)
see-all level [] s = refl
see-all level (v ∷ vs) s = ap (see_all vs) (see-one level v s) ∙ see-all level vs (mark_one level v s)

-- the vertices that were found get the level, and no other
pub record IsGiven (level : ℕ) (s t : State) : Type 0 where
  pub more : List ℕ
  pub next : t.1 ≡ s.1 ++ more
  pub levels : t.0 ≡ give level more s.0

append-none : (vs : List ℕ) → vs ≡ vs ++ []
append-none [] = refl
append-none (u ∷ vs) = ap (λ l. u ∷ l) (append-none vs)

append-one : (vs : List ℕ) (v : ℕ) (ws : List ℕ) → (vs ++ v ∷ []) ++ ws ≡ vs ++ v ∷ ws
append-one [] v ws = refl
append-one (u ∷ vs) v ws = ap (λ l. u ∷ l) (append-one vs v ws)

pub given-all : (level : ℕ) (vs : List ℕ) (s : State) → IsGiven level s (mark_all level vs s)
given-all level [] s = record { more = []; next = append-none s.1; levels = refl }
given-all level (v ∷ vs) s = by (nat_lt v (length s.0) && is_new s.0 v) (given-all level vs)
  where
    by : (b : Bool) → ((s : State) → IsGiven level s (mark_all level vs s)) → IsGiven level s (mark_all level vs (cond {A = State} b (set s.0 v (Some level), s.1 ++ v ∷ []) s))
    by true rest =
        let h = rest (set s.0 v (Some level), s.1 ++ v ∷ []) in
        record { more = v ∷ h.more; next = h.next ∙ append-one s.1 v h.more; levels = h.levels }
    by false rest = rest s

-- what is seen first, and the levels after it, are the levels of the marking
pub marked : (level : ℕ) (vs : List ℕ) (before : List (Option ℕ)) (seen : List Bool) (next : List ℕ) → (seen, next) ≡ see_all vs (found before, []) → (give level next before, next) ≡ mark_all level vs (before, [])
marked level vs before seen next is =
    let both = is ∙ see-all level vs (before, []) in
    let same : next ≡ (mark_all level vs (before, [])).1 = ap (λ (s : Seen). s.1) both in
    let h = given-all level vs (before, []) in
    let more : next ≡ h.more = same ∙ h.next in
    λ j. ((ap (λ ws. give level ws before) more ∙ sym h.levels) j, same j)

pub seen-again : (level : ℕ) (vs : List ℕ) (before : List (Option ℕ)) (seen : List Bool) (next : List ℕ) → (seen, next) ≡ see_all vs (found before, []) → seen ≡ found (give level next before)
seen-again level vs before seen next is =
    ap (λ (s : Seen). s.0) (is ∙ see-all level vs (before, [])) ∙ ap (λ (s : State). found s.0) (sym (marked level vs before seen next is))

-- what was seen before is seen
abbrev Keeps : List Bool → List Bool → Type 0
Keeps seen now = (v : ℕ) → is_unseen seen v ≡ false → is_unseen now v ≡ false

keeps-one : (seen : List Bool) (v : ℕ) (s : Seen) → Keeps seen s.0 → Keeps seen (see_one v s).0
keeps-one seen v s h = λ w was. by (nat_lt v (length s.0)) (is_unseen s.0 v) refl w was
  where
    at : (w : ℕ) → is_unseen seen w ≡ false → nat_lt v (length s.0) ≡ true → (v ≡ w) ⊎ (v ≢ w) → is_unseen (set s.0 v true) w ≡ false
    at w was e (inl same) =
        let lt : v < length s.0 = grind (arith, nat_tests, e) in
        ap (λ k. is_unseen (set s.0 v true) k) (sym same) ∙ ap not (get_or-set_same s.0 v true false lt)
    at w was e (inr ne) = ap not (get_or-set_other s.0 v w true false (λ e. ne (sym e))) ∙ h w was

    by : (b c : Bool) → nat_lt v (length s.0) ≡ b → (w : ℕ) → is_unseen seen w ≡ false → is_unseen (cond {A = Seen} (b && c) (set s.0 v true, s.1 ++ v ∷ []) s).0 w ≡ false
    by true true e w was = at w was e (cases_eq v w)
    by true false e w was = h w was
    by false c e w was = h w was

-- so those may be passed over
pub skip-seen : (seen : List Bool) (vs : List ℕ) (s : Seen) → Keeps seen s.0 → see_all (filter (is_unseen seen) vs) s ≡ see_all vs s
skip-seen seen [] s h = refl
skip-seen seen (v ∷ vs) s h = by (is_unseen seen v) refl (skip-seen seen vs)
  where
    none : (b : Bool) → cond {A = Seen} (b && false) (set s.0 v true, s.1 ++ v ∷ []) s ≡ s
    none true = refl
    none false = refl

    by : (b : Bool) → is_unseen seen v ≡ b → ((s : Seen) → Keeps seen s.0 → see_all (filter (is_unseen seen) vs) s ≡ see_all vs s)
        → see_all (cond b (v ∷ filter (is_unseen seen) vs) (filter (is_unseen seen) vs)) s ≡ see_all vs (see_one v s)
    by true e rest = rest (see_one v s) (keeps-one seen v s h)
    by false e rest =
        let same : see_one v s ≡ s = ap (λ (b : Bool). cond {A = Seen} (nat_lt v (length s.0) && b) (set s.0 v true, s.1 ++ v ∷ []) s) (h v e) ∙ none (nat_lt v (length s.0)) in
        rest s h ∙ ap (see_all vs) (sym same)

-- a vertex that gets a level is seen
pub seen-one : (levels : List (Option ℕ)) (seen : List Bool) (v l : ℕ) → seen ≡ found levels → set seen v true ≡ found (set levels v (Some l))
seen-one levels seen v l is = ap (λ s. set s v true) is ∙ sym (map-set is_some levels v (Some l))

pub skip-new : (seen : List Bool) (vs next : List ℕ) → see_all (filter (is_unseen seen) vs) (seen, next) ≡ see_all vs (seen, next)
skip-new seen vs next = skip-seen seen vs (seen, next) (λ v e. e)

-- at first the source alone is seen
pub seen-first : (n s : ℕ) (seen : List Bool) (levels : List (Option ℕ)) → seen ≡ replicate n false → levels ≡ replicate n None → set seen s true ≡ found (set levels s (Some 0))
seen-first n s seen levels is none =
    (λ j. set (is j) s true) ∙ (ap (λ l. set l s true) (sym (none-found n)) ∙ (sym (map-set is_some (replicate n None) s (Some 0)) ∙ ap (λ l. found (set l s (Some 0))) (sym none)))
  where
    none-found : (n : ℕ) → found (replicate n None) ≡ replicate n false
    none-found zero = refl
    none-found (suc n) = ap (λ l. false ∷ l) (none-found n)
