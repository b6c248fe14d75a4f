-- The tests of the certificate pass exactly where it holds.
use Rattle.std.proofs.Common.{◌≡◌, ◌≢◌, ◌∙◌, ℕ, zero, suc, ◌+◌, ◌^◌, ◌<◌, ◌≤◌, ◌⊎◌, inl, inr, List, [], ◌∷◌, length, get_or, eqb, Bool, true, false, Option, None, Some, refl, sym, ap, subst, arith, true≢false}
use Rattle.std.specs.Prelude.{◌&&◌, ◌||◌, nat_lt, nat_le, Contains}
use Rattle.std.specs.Option.{option_map_or}
use Rattle.std.specs.List.{list_all, list_any}
use Rattle.std.proofs.lemmas.Bool.{cases_eq, cases_lt}
use Rattle.std.proofs.lemmas.Bool.Decides.{nat_tests}
use Rattle.lama_model.specs.declared.reach.Reach.{Reach}
use Rattle.lama_model.specs.Row.{row_at}
use Rattle.lama_model.specs.Distances.{IsNoMore, HasParent, CostsNoMore, IsCertified, further, cost_of, reach_at}
use Rattle.lama_model.proofs.LevelLaw.{any-found, or-left, or-right, and-left, and-right, and-both}
use Rattle.lama_model.proofs.LabelLaw.{or-cases}
use Rattle.lama_model.proofs.RouteLemmas.{cost-eq}
use Rattle.lama_model.proofs.CertificateLaw.{at-within}
use Rattle.lama_paths.specs.Certificate.{is_no_more, comes_from, holds_at, leads_at, row_holds, row_leads, leads_below, is_within}

-- a test that passes of all passes of one
all-at : {X : Type 0} (p : X → Bool) (xs : List X) (x : X) (k : ℕ) → list_all p xs ≡ true → k < length xs → get_or xs k x ≡ x → p x ≡ true
all-at p [] x k e lt is = absurd (omega (arith, lt))
all-at p (y ∷ ys) x zero e lt is = ap p (sym is) ∙ and-left (p y) (list_all p ys) e
all-at p (y ∷ ys) x (suc k) e lt is = all-at p ys x k (and-right (p y) (list_all p ys) e) (omega (arith, lt)) is

all-from : {X : Type 0} (p : X → Bool) (xs : List X) → ((x : X) → Contains xs x → p x ≡ true) → list_all p xs ≡ true
all-from p [] each = refl
all-from p (y ∷ ys) each =
    and-both (p y) (list_all p ys) (each y (0, omega arith, refl))
    (all-from p ys (λ x among. each x (suc among.0, (let lt = among.1 in omega (arith, lt)), among.2)))

any-from : {X : Type 0} (p : X → Bool) (xs : List X) (x : X) (k : ℕ) → k < length xs → get_or xs k x ≡ x → p x ≡ true → list_any p xs ≡ true
any-from p [] x k lt is e = absurd (omega (arith, lt))
any-from p (y ∷ ys) x zero lt is e = or-left (p y) (list_any p ys) (ap p is ∙ e)
any-from p (y ∷ ys) x (suc k) lt is e = or-right (p y) (list_any p ys) (any-from p ys x k (omega (arith, lt)) is e)

-- a test on what there may be, where there is something
map-is : {X Y : Type 0} (f : X → Y) (o : Option X) (x : X) (d : Y) → o ≡ Some x → option_map_or f o d ≡ f x
map-is f o x d is = ap (λ o. option_map_or f o d) is

-- what passes, where nothing does not
passes-some : {X : Type 0} (f : X → Bool) (o : Option X) → option_map_or f o false ≡ true → (x : X) × (o ≡ Some x) × (f x ≡ true)
passes-some f None e = absurd (true≢false (sym e))
passes-some f (Some x) e = (x, refl, e)

within-is : (count : ℕ) (o : Option Reach) (r : Reach) → o ≡ Some r → is_within count o ≡ true → (r.hops < count) × (r.sum < 2 ^ 86)
within-is count o r is e =
    let both : nat_lt r.hops count && nat_lt r.sum (2 ^ 86) ≡ true = sym (map-is (λ (r : Reach). nat_lt r.hops count && nat_lt r.sum (2 ^ 86)) o r true is) ∙ e in
    let x = and-left (nat_lt r.hops count) (nat_lt r.sum (2 ^ 86)) both in
    let y = and-right (nat_lt r.hops count) (nat_lt r.sum (2 ^ 86)) both in
    (grind (arith, nat_tests, x), grind (arith, nat_tests, y))

is-within : (count : ℕ) (o : Option Reach) → ((r : Reach) → o ≡ Some r → (r.hops < count) × (r.sum < 2 ^ 86)) → is_within count o ≡ true
is-within count None each = refl
is-within count (Some r) each =
    let both = each r refl in
    let x : nat_lt r.hops count ≡ true = (let lt = both.0 in grind (arith, nat_tests, lt)) in
    let y : nat_lt r.sum (2 ^ 86) ≡ true = (let lt = both.1 in grind (arith, nat_tests, lt)) in
    and-both (nat_lt r.hops count) (nat_lt r.sum (2 ^ 86)) x y

no_more-is : (r q : Reach) (w : ℕ) → is_no_more r q w ≡ true → IsNoMore (cost_of r) (further (cost_of q) w)
no_more-is r q w e = by (or-cases (nat_lt r.sum (q.sum + w)) (eqb r.sum (q.sum + w) && nat_le r.hops (q.hops + 1)) e)
  where
    by : (nat_lt r.sum (q.sum + w) ≡ true) ⊎ (eqb r.sum (q.sum + w) && nat_le r.hops (q.hops + 1) ≡ true) → IsNoMore (cost_of r) (further (cost_of q) w)
    by (inl less) =
        let lt : r.sum < q.sum + w = grind (arith, nat_tests, less) in
        record { sums = omega (arith, lt); edges = λ same. absurd (omega (arith, lt, same)) }
    by (inr both) =
        let x = and-left (eqb r.sum (q.sum + w)) (nat_le r.hops (q.hops + 1)) both in
        let y = and-right (eqb r.sum (q.sum + w)) (nat_le r.hops (q.hops + 1)) both in
        let same : r.sum ≡ q.sum + w = grind (arith, nat_tests, x) in
        let le : r.hops ≤ q.hops + 1 = grind (arith, nat_tests, y) in
        record { sums = omega (arith, same); edges = λ e. le }

is-no_more : (r q : Reach) (w : ℕ) → IsNoMore (cost_of r) (further (cost_of q) w) → is_no_more r q w ≡ true
is-no_more r q w h = by (cases_lt r.sum (q.sum + w))
  where
    by : (r.sum < q.sum + w) ⊎ (q.sum + w ≤ r.sum) → is_no_more r q w ≡ true
    by (inl lt) =
        let x : nat_lt r.sum (q.sum + w) ≡ true = grind (arith, nat_tests, lt) in
        or-left (nat_lt r.sum (q.sum + w)) (eqb r.sum (q.sum + w) && nat_le r.hops (q.hops + 1)) x
    by (inr ge) =
        let le = h.sums in
        let same : r.sum ≡ q.sum + w = omega (arith, ge, le) in
        let few = h.edges same in
        let x : eqb r.sum (q.sum + w) ≡ true = grind (arith, nat_tests, same) in
        let y : nat_le r.hops (q.hops + 1) ≡ true = grind (arith, nat_tests, few) in
        or-right (nat_lt r.sum (q.sum + w)) (eqb r.sum (q.sum + w) && nat_le r.hops (q.hops + 1)) (and-both (eqb r.sum (q.sum + w)) (nat_le r.hops (q.hops + 1)) x y)

module _ (rows : List (List (ℕ × ℕ))) (s : ℕ) (reach : List (Option Reach)) where
  edge-is : (u v w : ℕ) (q : Reach) → row_holds rows reach u ≡ true → reach_at reach u ≡ Some q → Contains (row_at rows u) (v, w) → CostsNoMore reach v (further (cost_of q) w)
  edge-is u v w q e is among =
      let all : list_all (holds_at reach q) (row_at rows u) ≡ true = sym (map-is (λ q. list_all (holds_at reach q) (row_at rows u)) (reach_at reach u) q true is) ∙ e in
      let at = all-at (holds_at reach q) (row_at rows u) (v, w) among.0 all among.1 among.2 in
      let some = passes-some (λ r. is_no_more r q w) (reach_at reach v) at in
      record { now = some.0; reached = some.1; within = no_more-is some.0 q w some.2 }

  is-edge : (u : ℕ) → ((v w : ℕ) (q : Reach) → reach_at reach u ≡ Some q → Contains (row_at rows u) (v, w) → CostsNoMore reach v (further (cost_of q) w)) → row_holds rows reach u ≡ true
  is-edge u each = by (reach_at reach u) each
    where
      by : (o : Option Reach) → ((v w : ℕ) (q : Reach) → o ≡ Some q → Contains (row_at rows u) (v, w) → CostsNoMore reach v (further (cost_of q) w)) → option_map_or (λ q. list_all (holds_at reach q) (row_at rows u)) o true ≡ true
      by None each = refl
      by (Some q) each = all-from (holds_at reach q) (row_at rows u) (λ p among.
          let h = each p.0 p.1 q refl among in
          map-is (λ r. is_no_more r q p.1) (reach_at reach p.0) h.now false h.reached ∙ is-no_more h.now q p.1 h.within)

  -- the row of the parent has the edge
  parent-from-row : (v u : ℕ) (r : Reach) → reach_at reach v ≡ Some r → row_leads rows reach v u ≡ true → HasParent (row_at rows) reach v r
  parent-from-row v u r is e =
      let some = passes-some (λ q. list_any (leads_at reach u q v) (row_at rows u)) (reach_at reach u) e in
      let f = any-found (leads_at reach u some.0 v) (row_at rows u) some.2 in
      let to = and-left (eqb f.one.0 v) (option_map_or (λ t. comes_from t u some.0 f.one.1) (reach_at reach f.one.0) false) f.passes in
      let from = and-right (eqb f.one.0 v) (option_map_or (λ t. comes_from t u some.0 f.one.1) (reach_at reach f.one.0) false) f.passes in
      let target : f.one.0 ≡ v = grind (arith, nat_tests, to) in
      let comes : comes_from r u some.0 f.one.1 ≡ true = sym (map-is (λ t. comes_from t u some.0 f.one.1) (reach_at reach f.one.0) r false (ap (reach_at reach) target ∙ is)) ∙ from in
      let ab = and-left (eqb r.parent u && eqb r.sum (some.0.sum + f.one.1)) (eqb r.hops (some.0.hops + 1)) comes in
      let hop = and-right (eqb r.parent u && eqb r.sum (some.0.sum + f.one.1)) (eqb r.hops (some.0.hops + 1)) comes in
      let a = and-left (eqb r.parent u) (eqb r.sum (some.0.sum + f.one.1)) ab in
      let b = and-right (eqb r.parent u) (eqb r.sum (some.0.sum + f.one.1)) ab in
      let own : u ≡ r.parent = grind (arith, nat_tests, a) in
      let sums : some.0.sum + f.one.1 ≡ r.sum = grind (arith, nat_tests, b) in
      let hops : some.0.hops + 1 ≡ r.hops = grind (arith, nat_tests, hop) in
      let edge : Contains (row_at rows u) (v, f.one.1) = subst (λ x. Contains (row_at rows u) (x, f.one.1)) target (f.index, f.within, f.is f.one) in
      record {
        before = some.0;
        reached = ap (reach_at reach) (sym own) ∙ some.1;
        weight = f.one.1;
        edge = subst (λ x. Contains (row_at rows x) (v, f.one.1)) own edge;
        comes = cost-eq (further (cost_of some.0) f.one.1) (cost_of r) sums hops;
      }

  parent-from : (v n : ℕ) (r : Reach) → reach_at reach v ≡ Some r → leads_below rows reach v n ≡ true → HasParent (row_at rows) reach v r
  parent-from v zero r is e = absurd (true≢false (sym e))
  parent-from v (suc n) r is e = by (or-cases (leads_below rows reach v n) (row_leads rows reach v n) e) (parent-from v n r is)
    where
      by : (leads_below rows reach v n ≡ true) ⊎ (row_leads rows reach v n ≡ true) → (leads_below rows reach v n ≡ true → HasParent (row_at rows) reach v r) → HasParent (row_at rows) reach v r
      by (inl below) rest = rest below
      by (inr here) rest = parent-from-row v n r is here

  row-from-parent : (v : ℕ) (r : Reach) → reach_at reach v ≡ Some r → HasParent (row_at rows) reach v r → row_leads rows reach v r.parent ≡ true
  row-from-parent v r is h =
      let q = h.before in
      let sums : r.sum ≡ q.sum + h.weight = sym (ap (λ c. c.sum) h.comes) in
      let hops : r.hops ≡ q.hops + 1 = sym (ap (λ c. c.hops) h.comes) in
      let a : eqb r.parent r.parent ≡ true = grind (arith, nat_tests) in
      let b : eqb r.sum (q.sum + h.weight) ≡ true = grind (arith, nat_tests, sums) in
      let c : eqb r.hops (q.hops + 1) ≡ true = grind (arith, nat_tests, hops) in
      let comes = and-both (eqb r.parent r.parent && eqb r.sum (q.sum + h.weight)) (eqb r.hops (q.hops + 1)) (and-both (eqb r.parent r.parent) (eqb r.sum (q.sum + h.weight)) a b) c in
      let self : eqb v v ≡ true = grind (arith, nat_tests) in
      let here : leads_at reach r.parent q v (v, h.weight) ≡ true =
      and-both (eqb v v) (option_map_or (λ t. comes_from t r.parent q h.weight) (reach_at reach v) false) self (map-is (λ t. comes_from t r.parent q h.weight) (reach_at reach v) r false is ∙ comes) in
      map-is (λ q. list_any (leads_at reach r.parent q v) (row_at rows r.parent)) (reach_at reach r.parent) q false h.reached
      ∙ any-from (leads_at reach r.parent q v) (row_at rows r.parent) (v, h.weight) h.edge.0 h.edge.1 h.edge.2 here

  below-from : (v u n : ℕ) → u < n → row_leads rows reach v u ≡ true → leads_below rows reach v n ≡ true
  below-from v u zero lt e = absurd (omega (arith, lt))
  below-from v u (suc n) lt e = by (cases_eq u n) (λ below. below-from v u n below e)
    where
      by : (u ≡ n) ⊎ (u ≢ n) → (u < n → leads_below rows reach v n ≡ true) → leads_below rows reach v n || row_leads rows reach v n ≡ true
      by (inl same) rest = or-right (leads_below rows reach v n) (row_leads rows reach v n) (subst (λ x. row_leads rows reach v x ≡ true) same e)
      by (inr ne) rest = or-left (leads_below rows reach v n) (row_leads rows reach v n) (rest (omega (arith, lt, ne)))

  abbrev pub Tests : Type 0
  Tests =
      ((u : ℕ) → u < length reach → row_holds rows reach u ≡ true)
      × ((v : ℕ) → v < length reach → (v ≡ s → ⊥) → (r : Reach) → reach_at reach v ≡ Some r → leads_below rows reach v (length reach) ≡ true)

  pub certified-from : length reach ≡ length rows → reach_at reach s ≡ Some (record { sum = 0; hops = 0; parent = s }) → ((v : ℕ) → v < length reach → is_within (length rows) (reach_at reach v) ≡ true) → Tests → IsCertified (row_at rows) (length rows) s reach
  certified-from len source within tests = record {
    len = len;
    source = source;
    bounds = λ v r lt is. within-is (length rows) (reach_at reach v) r is (within v (omega (arith, lt, len)));
    parents = λ v r lt ne is. parent-from v (length reach) r is (tests.1 v (omega (arith, lt, len)) ne r is);
    edges = λ u v w q lt is among. edge-is u v w q (tests.0 u (omega (arith, lt, len))) is among;
  }

  pub within-from : IsCertified (row_at rows) (length rows) s reach → (v : ℕ) → v < length reach → is_within (length rows) (reach_at reach v) ≡ true
  within-from h v lt = is-within (length rows) (reach_at reach v) (λ r is. h.bounds v r (let len = h.len in omega (arith, lt, len)) is)

  pub tests-from : IsCertified (row_at rows) (length rows) s reach → Tests
  tests-from h = (
    λ u lt. is-edge u (λ v w q is among. h.edges u v w q (let len = h.len in omega (arith, lt, len)) is among),
    λ v lt ne r is.
        let p = h.parents v r (let len = h.len in omega (arith, lt, len)) ne is in
        below-from v r.parent (length reach) (at-within reach r.parent p.before p.reached) (row-from-parent v r is p),
  )
