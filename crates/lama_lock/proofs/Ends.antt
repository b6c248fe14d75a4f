-- Views are cut in two and put together, and what the last state shows.
use Rattle.std.proofs.Common.{◌≡◌, ◌≢◌, ℕ, ◌<◌, ◌≤◌, ◌⊎◌, inl, inr, ⊎_elim, zero, suc, List, [], ◌∷◌, ◌++◌, length, map, All, Contains, drop, length-set, refl, sym, ap, ◌∙◌, subst, arith, Option, Some, set, get_or}
use Rattle.std.proofs.lemmas.List.Elements.{All-head, All-tail, All-cons, All-nil, All-weaker}
use mathlib.Core.Option.{some, some-injective, some-ne-none}
use mathlib.Core.Logic.{dite}
use native.Mathlib.Decide.{ℕ_discrete}
use Rattle.std.proofs.lemmas.List.{length-map}
use Rattle.std.proofs.lemmas.Bool.{false≢true}
use lib.ListN.{get_elem?}
use Rattle.atomic_table.proofs.Lists.{at_set, set_else, at_longer}
use Rattle.atomic_table.specs.Table.{State, Splits, Joins, Final, Seen}
use Rattle.lama_model.specs.Pass.{calls_by, BeginsWith, IsByOneOf}
use Rattle.lama_model.specs.declared.calls.Entry.{Entry}
use Rattle.lama_lock.specs.declared.view.Founding.{Founding}
use Rattle.lama_lock.specs.declared.view.Stage.{Stage}
use Rattle.lama_lock.specs.declared.view.Stage.TheVariants.{Idle, Empty, Holding}
use Rattle.lama_lock.specs.declared.view.Member.{Member}
use Rattle.lama_lock.specs.declared.view.View.{View}
use Rattle.lama_lock.specs.Views.{Known, pass, left, member, member_of, starting, numbered, spent}
use Rattle.lama_lock.specs.Rule.{Board, IsMember, IsView, IsAt, HasTurn, IsRight, Holds}
use Rattle.lama_lock.specs.Steps.{IsClosed, kept_back, handed_out, together}
use Rattle.lama_lock.proofs.Callers.{none-not-some, within, more-callers}
use Rattle.lama_lock.proofs.Moves.{Viewed, each-after}
use Rattle.lama_lock.proofs.Starts.{moved, moved-here, moved-else, others-turn}

-- the last element of a list, or one before it
pub at-end : {A : Type 0} (l : List A) (a b : A) (j : ℕ) → get_elem? (l ++ a ∷ []) j ≡ some b → (get_elem? l j ≡ some b) ⊎ ((j ≡ length l) × (a ≡ b))
at-end [] a b zero e = inr (refl, some-injective a b e)
at-end [] a b (suc j) e = absurd (some-ne-none b (sym e))
at-end (x ∷ xs) a b zero e = inl e
at-end (x ∷ xs) a b (suc j) e = ⊎_elim (λ l. inl l) (λ r. inr (ap suc r.0, r.1)) (at-end xs a b j e)

-- of a list with all numbers, one element has the number
pub one-with : (P : Member → Type 0) (ms : List Member) (k c : ℕ) → k < length ms → get_or (map (λ (m : Member). m.caller) ms) k c ≡ c → All P ms → (m : Member) × P m × (m.caller ≡ c)
one-with P [] k c lt e all = absurd (omega arith)
one-with P (m ∷ ms) zero c lt e all = (m, All-head P m ms all, e)
one-with P (m ∷ ms) (suc k) c lt e all = one-with P ms k c (omega arith) e (All-tail P m ms all)

module _ {B : Type 0} (journal : B → List Entry) (fits : B → B → Type 0) (f : Founding B) where
  abbrev start : ℕ
  start = length (journal f.value)

  abbrev rehomed : Board B → ℕ → ℕ → Board B
  rehomed b n to = record b { holder = moved b.holder n to }

  -- the rule of places does not read who has which number
  same-place : (b : Board B) (n to i : ℕ) (v : View B) (stage : Stage) → IsAt journal fits f b i v stage → IsAt journal fits f (rehomed b n to) i v stage
  same-place b n to i v Idle at = at
  same-place b n to i v Empty at = at
  same-place b n to i v Holding at = at

  -- lists of callers whose number did not move
  unmoved : (b : Board B) (n to i j : ℕ) (ms : List Member) → b.holder n ≡ j → i ≢ j → All (IsMember start b.log b.drawn b.holder i) ms
      → All (IsMember start b.log b.drawn (moved b.holder n to) i) ms
  unmoved b n to i j ms at other all = All-weaker (IsMember start b.log b.drawn b.holder i) (IsMember start b.log b.drawn (moved b.holder n to) i)
      (λ m old. record { first = old.first; last = old.last; here = moved-else b.holder n to m.caller (λ same. other (sym old.here ∙ (ap b.holder same ∙ at))) ∙ old.here; seen = old.seen; own = old.own })
      ms all

  -- a view elsewhere than the number that moved
  aside : (b : Board B) (n to i j : ℕ) (v : View B) → b.holder n ≡ j → i ≢ j → Viewed journal fits f b i v → Viewed journal fits f (rehomed b n to) i v
  aside b n to i j v at other u = record {
    founding = u.founding;
    stage = same-place b n to i v v.stage u.stage;
    starting = u.starting;
    members = unmoved b n to i j v.members at other u.members;
  }

  -- the caller whose number moved
  here-now : (b : Board B) (n to i : ℕ) (m : Member) → m.caller ≡ n → IsMember start b.log b.drawn b.holder i m → IsMember start b.log b.drawn (moved b.holder n to) to m
  here-now b n to i m same old = record { first = old.first; last = old.last; here = ap (moved b.holder n to) same ∙ moved-here b.holder n to; seen = old.seen; own = old.own }

  pub splits : (id : ℕ) (v : View B) (g : Founding B) (d : ℕ) (seen : List Entry) → v ≡ numbered g d seen
      → Splits (Holds journal fits f) id v (kept_back v) (handed_out v)
  splits id v g d seen e = subst (λ (x : View B). Splits (Holds journal fits f) id x (kept_back x) (handed_out x)) (sym e)
      (λ s h at.
      let b = h.0 in let r = h.1 in let old = r.each id (numbered g d seen) at in
      let n : ℕ = length s.views in let c = rehomed b d n in
      let here = All-head (IsMember start b.log b.drawn b.holder id) (member d seen []) [] old.members in
      let P = IsMember start b.log b.drawn (moved b.holder d n) n in (
        c,
        record {
          words = r.words;
          homes = r.homes;
          turn = r.turn;
          few = r.few;
          callers = r.callers;
          began = r.began;
          named = r.named;
          free = r.free;
          taken = λ one. let t = others-turn journal fits f b s.views id (starting g Idle d) old.stage r.taken one in
              (t.0, at_longer (set s.views id (starting g Idle d)) _ b.turner t.0 t.1);
          each = λ i u there. ⊎_elim
              (λ before. each-after journal fits f b c s.views id (starting g Idle d) r.each
              record { founding = old.founding; stage = old.stage; starting = old.starting; members = All-nil (IsMember start b.log b.drawn (moved b.holder d n) id) }
              (λ j v other w. aside b d n j id v here.here other w)
              i u before)
              (λ last. subst (λ (x : View B). Viewed journal fits f c i x) last.1 (subst (λ (j : ℕ). Viewed journal fits f c j (handed_out (numbered g d seen)))
              (sym (last.0 ∙ length-set s.views id (starting g Idle d)))
              record {
                founding = old.founding;
                stage = λ one same. let t = r.taken one in let low = within s.views b.turner t.0 t.1 in omega (arith, low, same);
                starting = λ no. absurd (false≢true no);
                members = All-cons P (member d seen []) [] (here-now b d n id (member d seen []) refl here) (All-nil P);
              }))
              (at-end (set s.views id (starting g Idle d)) (handed_out (numbered g d seen)) u i there);
        },
      ))

  pub joins : (id other : ℕ) (v w : View B) (g : Founding B) (ms : List Member) (k : Known B) → v ≡ left g Idle ms → w ≡ pass Idle k
      → Joins (Holds journal fits f) id v other w (together v w) spent
  joins id other v w g ms k e e' = subst (λ (x : View B). Joins (Holds journal fits f) id x other w (together x w) spent) (sym e)
      (subst (λ (x : View B). Joins (Holds journal fits f) id (left g Idle ms) other x (together (left g Idle ms) x) spent) (sym e')
      (λ s h at apart at-other.
      let b = h.0 in let r = h.1 in
      let both = together (left g Idle ms) (pass Idle k) in
      let c = rehomed b k.caller id in
      let before : get_elem? s.views other ≡ some (pass Idle k) = sym (set_else s.views id other both apart) ∙ at-other in
      let one = r.each id (left g Idle ms) at in
      let two = r.each other (pass Idle k) before in
      let m = All-head (IsMember start b.log b.drawn b.holder other) (member_of k) [] two.members in
      let P = IsMember start b.log b.drawn (moved b.holder k.caller id) id in
      let D : Board B → Board B = λ x. x in (
        c,
        record {
          words = r.words;
          homes = r.homes;
          turn = r.turn;
          few = r.few;
          callers = r.callers;
          began = r.began;
          named = r.named;
          free = r.free;
          taken = others-turn journal fits f b (set s.views id both) other spent two.stage (others-turn journal fits f b s.views id both one.stage r.taken);
          each = λ i u there. ⊎_elim
              (λ last. subst (λ (x : View B). Viewed journal fits f c i x) last.1 (subst (λ (j : ℕ). Viewed journal fits f c j spent) (sym last.0)
              record { founding = λ x no. absurd (none-not-some x no); stage = two.stage; starting = λ no. absurd (false≢true no); members = All-nil (IsMember start b.log b.drawn (moved b.holder k.caller id) other) }))
              (λ rest. ⊎_elim
              (λ first. subst (λ (x : View B). Viewed journal fits f c i x) first.1 (subst (λ (j : ℕ). Viewed journal fits f c j both) (sym first.0)
              record {
                founding = one.founding;
                stage = one.stage;
                starting = λ no. absurd (false≢true no);
                members = All-cons P (member_of k) ms (here-now b k.caller id other (member_of k) refl m) (unmoved b k.caller id id other ms m.here (λ same. apart (sym same)) one.members);
              }))
              (λ others. aside b k.caller id i other u m.here rest.0 (r.each i u others.1))
              (at_set s.views id i both u rest.1))
              (at_set (set s.views id both) other i spent u there);
        },
      )))

  module _ (b : Board B) (s : State (Option B) (View B)) (r : IsRight journal fits f b s) (id : ℕ) (ms : List Member) (mine : IsView journal fits f b id (left f Idle ms))
      (all : (c : ℕ) → 1 ≤ c → c ≤ f.callers → Contains (map (λ (m : Member). m.caller) ms) c) (some-callers : 1 ≤ f.callers) where
    -- the one of ours with that number
    ours : (c : ℕ) → 1 ≤ c → c ≤ f.callers → (m : Member) × IsMember start b.log b.drawn b.holder id m × (m.caller ≡ c)
    ours c low high = let t = all c low high in one-with (IsMember start b.log b.drawn b.holder id) ms t.0 c (omega (arith, t.1, length-map ms (λ (m : Member). m.caller))) t.2 mine.members

    -- a view with the turn would be one of ours
    has-turn : (v : View B) → IsView journal fits f b b.turner v → HasTurn journal fits f b b.turner v → ⊥
    has-turn v u t = ⊎_elim
        (λ none-drawn. let o = ours 1 (omega arith) some-callers in omega (arith, none-drawn.1, o.1.first, o.1.last))
        (λ many. theirs v.members many u.members)
        t.3
      where
        theirs : (ns : List Member) → 0 < length ns → All (IsMember start b.log b.drawn b.holder b.turner) ns → ⊥
        theirs [] low each = absurd (omega (arith, low))
        theirs (n ∷ ns) _ each =
            let first = All-head (IsMember start b.log b.drawn b.holder b.turner) n ns each in
            let o = ours n.caller first.first (omega (arith, first.last, r.few)) in
            mine.stage t.0 (sym first.here ∙ (ap b.holder (sym o.2) ∙ o.1.here))

    -- no one has the turn, since all callers are here
    nobody : (v : View B) (stage : Stage) → b.turn ≡ 1 → IsView journal fits f b b.turner v → IsAt journal fits f b b.turner v stage → ⊥
    nobody v Idle one u place = place one refl
    nobody v Empty one u place = has-turn v u place.0
    nobody v Holding one u place = has-turn v u place.0

    at-rest : b.turn ≡ 0
    at-rest = dite (ℕ_discrete b.turn 0) (λ free. free) (λ held.
        let one : b.turn ≡ 1 = omega (arith, held, r.turn) in let t = r.taken one in
        absurd (nobody t.0 t.0.stage one (r.each b.turner t.0 t.1) (r.each b.turner t.0 t.1).stage))

    lists : (x : B) → journal x ≡ b.log → All (λ (m : Member). BeginsWith (journal x) m.seen × (m.own ≡ calls_by m.caller start (journal x))) ms
    lists x same = All-weaker (IsMember start b.log b.drawn b.holder id) (λ (m : Member). BeginsWith (journal x) m.seen × (m.own ≡ calls_by m.caller start (journal x)))
        (λ m old. (subst (λ (l : List Entry). BeginsWith l m.seen) (sym same) old.seen, old.own ∙ ap (λ (l : List Entry). calls_by m.caller start l) (sym same)))
        ms mine.members

  pub closes : (words : List ℕ) (xs : List (Option B)) (id : ℕ) (ms : List Member) → Final (Seen (Holds journal fits f) id (left f Idle ms)) words xs
      → ((c : ℕ) → 1 ≤ c → c ≤ f.callers → Contains (map (λ (m : Member). m.caller) ms) c) → 1 ≤ f.callers
      → (x : B) × (get_elem? xs 0 ≡ some (Some x)) × IsClosed journal fits f x ms
  closes words xs id ms t all some-callers =
      let s = t.0 in let b = t.1.0.0 in let r = t.1.0.1 in let mine = r.each id (left f Idle ms) t.1.1 in
      let free = r.free (at-rest b s r id ms mine all some-callers) in (
        free.0,
        t.4 0 (Some free.0) (ap (λ hs. get_elem? hs 0) r.homes ∙ ap some free.1),
        record {
          fit = free.3;
          began = subst (λ (l : List Entry). BeginsWith l (journal f.value)) (sym free.2) r.began;
          named = subst (λ (l : List Entry). All (IsByOneOf f.callers) (drop start l)) (sym free.2) (more-callers b.drawn f.callers (drop start b.log) r.few r.named);
          each = lists b s r id ms mine all some-callers free.0 free.2;
        },
      )

  -- the same of a view that is known to be such a one
  pub closes-of : (words : List ℕ) (xs : List (Option B)) (id : ℕ) (v : View B) (ms : List Member) → v ≡ left f Idle ms → Final (Seen (Holds journal fits f) id v) words xs
      → ((c : ℕ) → 1 ≤ c → c ≤ f.callers → Contains (map (λ (m : Member). m.caller) ms) c) → 1 ≤ f.callers
      → (x : B) × (get_elem? xs 0 ≡ some (Some x)) × IsClosed journal fits f x ms
  closes-of words xs id v ms e final = closes words xs id ms (subst (λ w. Final (Seen (Holds journal fits f) id w) words xs) e final)
