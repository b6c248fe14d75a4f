-- The starting view draws numbers and gives them away.
use Rattle.std.proofs.Common.{◌≡◌, ◌≢◌, ℕ, ◌+◌, ◌%◌, ◌^◌, ◌<◌, ◌≤◌, ◌==◌, inl, inr, ⊎_elim, zero, suc, All, None, Bool, if◌then◌else◌, List, [], ◌∷◌, length, drop, refl, sym, ap, ◌∙◌, subst, arith, Option, Some, set, get_or, false, true, ne_eqb, eq-eqb}
use Rattle.std.proofs.lemmas.List.Elements.{All-cons, All-nil, All-weaker}
use Rattle.std.proofs.lemmas.List.{drop_all}
use mathlib.Core.Option.{some, some-injective, some-ne-none}
use Rattle.std.proofs.lemmas.Bool.{false≢true}
use Rattle.std.proofs.Math.Nat.{mod-eq_of_lt}
use lib.ListN.{get_elem?}
use Rattle.atomic_table.proofs.Lists.{set_else}
use Rattle.atomic_table.specs.Table.{State, Me, keeps, Allows, opening}
use Rattle.lama_model.specs.Pass.{BeginsWith, IsByOneOf}
use Rattle.lama_model.specs.declared.calls.Entry.{Entry}
use Rattle.lama_lock.specs.declared.view.Founding.{Founding}
use Rattle.lama_lock.specs.declared.view.Stage.{Stage}
use Rattle.lama_lock.specs.declared.view.Stage.TheVariants.{Idle, Empty, Holding}
use Rattle.lama_lock.specs.declared.view.Member.{Member}
use Rattle.lama_lock.specs.declared.view.View.{View}
use Rattle.lama_lock.specs.Views.{pass, member, newcomer, starting, numbered}
use Rattle.lama_lock.specs.Rule.{Board, IsMember, IsAt, IsRight, Holds}
use Rattle.lama_lock.specs.Steps.{drew, drew_last}
use Rattle.lama_lock.proofs.Callers.{same-start, founding-is, whole, none-of, more-callers}
use Rattle.lama_lock.proofs.Moves.{Viewed, each-after}
use Rattle.lama_lock.proofs.Releases.{shape}

-- a number goes to another place
abbrev pub moved : (ℕ → ℕ) → ℕ → ℕ → ℕ → ℕ
moved holder n to c = if c == n then to else holder c

pub moved-here : (holder : ℕ → ℕ) (n to : ℕ) → moved holder n to n ≡ to
moved-here holder n to = rw (eq-eqb n n refl) refl

pub moved-else : (holder : ℕ → ℕ) (n to c : ℕ) → c ≢ n → moved holder n to c ≡ holder c
moved-else holder n to c other = rw (ne_eqb c n other) refl

module _ {B : Type 0} (journal : B → List Entry) (fits : B → B → Type 0) (f : Founding B) where
  abbrev start : ℕ
  start = length (journal f.value)

  -- one number more was drawn, by the view at that place
  abbrev drawn-by : Board B → ℕ → Board B
  drawn-by b id = record b { drawn = b.drawn + 1; holder = moved b.holder (b.drawn + 1) id }

  stays-there : (b : Board B) (i : ℕ) (v : View B) (stage : Stage) (id : ℕ) → v.starting ≢ true → IsAt journal fits f b i v stage → IsAt journal fits f (drawn-by b id) i v stage
  stays-there b i v Idle id not at = at
  stays-there b i v Empty id not at = ((at.0.0, at.0.1, at.0.2, ⊎_elim (λ l. absurd (not l.0)) (λ h. inr h) at.0.3), at.1)
  stays-there b i v Holding id not at = ((at.0.0, at.0.1, at.0.2, ⊎_elim (λ l. absurd (not l.0)) (λ h. inr h) at.0.3), at.1)

  -- what the view that was not the starting one knows
  drawn-aside : (b : Board B) (id i : ℕ) (v : View B) → b.starter ≡ id → i ≢ id → Viewed journal fits f b i v → Viewed journal fits f (drawn-by b id) i v
  drawn-aside b id i v here other u =
      let no : v.starting ≢ true = λ yes. other (sym (u.starting yes).0 ∙ here) in record {
        founding = u.founding;
        stage = stays-there b i v v.stage id no u.stage;
        starting = λ yes. absurd (no yes);
        members = All-weaker (IsMember start b.log b.drawn b.holder i) (IsMember start b.log (b.drawn + 1) (moved b.holder (b.drawn + 1) id) i)
            (λ m old. record { first = old.first; last = omega (arith, old.last); here = moved-else b.holder (b.drawn + 1) id m.caller (λ same. omega (arith, same, old.last)) ∙ old.here; seen = old.seen; own = old.own })
            v.members u.members;
      }

  -- a view at another place than the turn stays where it is
  pub others-turn : (b : Board B) (views : List (View B)) (id : ℕ) (w : View B) → (b.turn ≡ 1 → b.turner ≢ id) → (b.turn ≡ 1 → (v : View B) × (get_elem? views b.turner ≡ some v))
      → b.turn ≡ 1 → (v : View B) × (get_elem? (set views id w) b.turner ≡ some v)
  others-turn b views id w away taken one = let t = taken one in (t.0, set_else views id b.turner w (away one) ∙ t.1)

  draws-number : (b : Board B) (s : State (Option B) (View B)) (r : IsRight journal fits f b s) (id d : ℕ) (g : Founding B) (st : Bool) (e : ℕ)
      → get_elem? s.views id ≡ some (starting g Idle d)
      → (st ≡ true → (e ≡ d + 1) × (d + 1 < g.callers))
      → Holds journal fits f (record { words = set s.words 2 ((get_or s.words 2 0 + 1) % 2 ^ 64); homes = s.homes; views = set s.views id (shape (Some g) Idle st e (member (d + 1) (journal g.value) [] ∷ [])) })
  draws-number b s r id d g st e at more =
      let old = r.each id (starting g Idle d) at in
      let c = drawn-by b id in
      let here = old.starting refl in
      let founding : g ≡ f = old.founding g refl in
      let w = shape (Some g) Idle st e (member (d + 1) (journal g.value) [] ∷ []) in
      let P = IsMember start b.log (b.drawn + 1) (moved b.holder (b.drawn + 1) id) id in (
        c,
        record {
          words = ap (λ (ws : List ℕ). set ws 2 ((get_or ws 2 0 + 1) % 2 ^ 64)) r.words
              ∙ ap (λ (n : ℕ). b.turn ∷ length b.log ∷ n ∷ []) (mod-eq_of_lt (omega (arith, here.2, r.callers)));
          homes = r.homes;
          turn = r.turn;
          few = omega (arith, here.2);
          callers = r.callers;
          began = r.began;
          named = more-callers b.drawn (b.drawn + 1) (drop start b.log) (omega arith) r.named;
          free = r.free;
          taken = others-turn b s.views id w old.stage r.taken;
          each = each-after journal fits f b c s.views id w r.each
              record {
                founding = old.founding;
                stage = old.stage;
                starting = λ yes. let t = more yes in (here.0, omega (arith, t.0, here.1), subst (λ (h : Founding B). b.drawn + 1 < h.callers) founding (omega (arith, t.1, here.1)));
                members = All-cons P _ []
                    record {
                      first = omega arith;
                      last = omega (arith, here.1);
                      here = ap (λ (n : ℕ). moved b.holder (b.drawn + 1) id (n + 1)) here.1 ∙ moved-here b.holder (b.drawn + 1) id;
                      seen = subst (λ (h : Founding B). BeginsWith b.log (journal h.value)) (sym founding) r.began;
                      own = sym (none-of (d + 1) b.drawn (drop start b.log) (omega (arith, here.1)) r.named);
                    }
                    (All-nil P);
              }
              (λ i v other u. drawn-aside b id i v here.0 other u);
        },
      )

  pub draws : (slots : ℕ) → slots ≡ 1 → (id : ℕ) (m : Me (Option B) (View B)) (g : Founding B) (d : ℕ) → m ≡ (starting g Idle d, []) → d + 1 < g.callers
      → Allows (Holds journal fits f) slots id m 2 (λ n. (n + 1) % 2 ^ 64) (drew journal fits m)
  draws slots one id m g d e more = subst (λ (y : Me (Option B) (View B)). Allows (Holds journal fits f) slots id y 2 (λ n. (n + 1) % 2 ^ 64) (drew journal fits y)) (sym e)
      (λ s h wide at _. (
        numbered g (d + 1) (journal g.value),
        keeps,
        tt,
        draws-number h.0 s h.1 id d g true (d + 1) at (λ _. (refl, more)),
        λ h' d' e'. subst (λ (t : Founding B × ℕ). ◌≡◌ {A = Me (Option B) (View B)} (numbered g (d + 1) (journal g.value), []) (numbered t.0 (t.1 + 1) (journal t.0.value), [])) (same-start Idle g h' d d' e') refl,
      ))

  pub draws-last : (slots : ℕ) → slots ≡ 1 → (id : ℕ) (m : Me (Option B) (View B)) (g : Founding B) (d : ℕ) → m ≡ (starting g Idle d, [])
      → Allows (Holds journal fits f) slots id m 2 (λ n. (n + 1) % 2 ^ 64) (drew_last journal fits m)
  draws-last slots one id m g d e = subst (λ (y : Me (Option B) (View B)). Allows (Holds journal fits f) slots id y 2 (λ n. (n + 1) % 2 ^ 64) (drew_last journal fits y)) (sym e)
      (λ s h wide at _. (
        pass Idle (newcomer g (d + 1) (journal g.value)),
        keeps,
        tt,
        draws-number h.0 s h.1 id d g false 0 at (λ no. absurd (false≢true no)),
        λ h' d' e'. subst (λ (t : Founding B × ℕ). ◌≡◌ {A = Me (Option B) (View B)} (pass Idle (newcomer g (d + 1) (journal g.value)), []) (pass Idle (newcomer t.0 (t.1 + 1) (journal t.0.value)), [])) (same-start Idle g h' d d' e') refl,
      ))

  -- the table as it is made: the starting view has the turn, and the slot is empty
  first-view : (i : ℕ) (v : View B) (b : Board B) → Viewed journal fits f b 0 (starting f Empty 0) → get_elem? (starting f Empty 0 ∷ []) i ≡ some v → Viewed journal fits f b i v
  first-view zero v b known at = subst (λ (x : View B). Viewed journal fits f b 0 x) (some-injective (starting f Empty 0) v at) known
  first-view (suc i) v b known at = absurd (some-ne-none v (sym at))

  pub founds : (n : ℕ) → n ≡ length (journal f.value) → 1 ≤ f.callers → f.callers ≤ 16 → Holds journal fits f (opening (1 ∷ n ∷ 0 ∷ []) (None ∷ []) (starting f Empty 0))
  founds n same some-callers few =
      let log = journal f.value in
      let b : Board B = record { turn = 1; turner = 0; starter = 0; drawn = 0; holder = λ c. 0; home = some None; log = log } in (
        b,
        record {
          words = ap (λ (k : ℕ). 1 ∷ k ∷ 0 ∷ []) same;
          homes = refl;
          turn = omega arith;
          few = omega arith;
          callers = few;
          began = whole log;
          named = subst (λ (l : List Entry). All (IsByOneOf 0) l) (sym (drop_all (length log) log (omega arith))) (All-nil (IsByOneOf 0));
          free = λ no. absurd (omega (arith, no));
          taken = λ one. (starting f Empty 0, refl);
          each = λ i v at. first-view i v b record {
            founding = λ g e. sym (founding-is f g e);
            stage = ((refl, refl, All-nil (λ (m : Member). m.seen ≡ log), inl (refl, refl, refl)), refl);
            starting = λ t. (refl, refl, some-callers);
            members = All-nil (IsMember start log 0 (λ c. 0) 0);
          } at;
        },
      )
