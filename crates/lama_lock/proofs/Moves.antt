-- Each step at the table of a hall keeps its rule.
use Rattle.std.proofs.Common.{◌≡◌, ◌≢◌, ℕ, inr, ⊎_elim, List, [], ◌∷◌, length, All, drop, refl, sym, ap, ◌∙◌, subst, arith, Option, Some, set, get_or}
use Rattle.std.proofs.lemmas.List.Elements.{All-head, All-cons, All-nil}
use Rattle.std.proofs.lemmas.Bool.{false≢true}
use mathlib.Core.Option.{some, none}
use mathlib.Core.Logic.{dite}
use native.Mathlib.Decide.{ℕ_discrete}
use lib.ListN.{get_elem?}
use Rattle.atomic_table.proofs.Lists.{at_set, set_here, set_again}
use Rattle.atomic_table.specs.Table.{State, Me, keeps, takes, Allows}
use Rattle.lama_model.specs.Pass.{calls_by, BeginsWith, IsByOneOf}
use Rattle.lama_model.specs.declared.calls.Entry.{Entry}
use Rattle.lama_lock.specs.declared.view.Founding.{Founding}
use Rattle.lama_lock.specs.declared.view.Stage.{Stage}
use Rattle.lama_lock.specs.declared.view.Stage.TheVariants.{Idle, Empty, Holding}
use Rattle.lama_lock.specs.declared.view.Member.{Member}
use Rattle.lama_lock.specs.declared.view.View.{View}
use Rattle.lama_lock.specs.Views.{Known, pass}
use Rattle.lama_lock.specs.Rule.{Board, IsMember, IsView, IsAt, IsRight, Holds}
use Rattle.lama_lock.specs.Steps.{IsTaken, having_seen, Grabbed, grabbed}
use Rattle.lama_lock.proofs.Callers.{whole, same-seat, within, more-callers}

module _ {B : Type 0} (journal : B → List Entry) (fits : B → B → Type 0) (f : Founding B) where
  abbrev pub Viewed : Board B → ℕ → View B → Type 0
  Viewed b i v = IsView journal fits f b i v

  -- the views after one of them changed
  pub each-after : (b c : Board B) (views : List (View B)) (id : ℕ) (w : View B) → ((i : ℕ) (v : View B) → get_elem? views i ≡ some v → Viewed b i v)
      → Viewed c id w → ((i : ℕ) (v : View B) → i ≢ id → Viewed b i v → Viewed c i v)
      → (i : ℕ) (v : View B) → get_elem? (set views id w) i ≡ some v → Viewed c i v
  each-after b c views id w old new others i v at = ⊎_elim
      (λ here. subst (λ (x : View B). Viewed c i x) here.1 (subst (λ (n : ℕ). Viewed c n w) (sym here.0) new))
      (λ there. others i v there.0 (old i v there.1))
      (at_set views id i w v at)

  -- a view that has not the turn, neither before nor after
  pub turnless : (b c : Board B) (i : ℕ) (v : View B) (stage : Stage) → IsAt journal fits f b i v Idle → IsAt journal fits f c i v Idle
      → IsAt journal fits f b i v stage → IsAt journal fits f c i v stage
  turnless b c i v Idle before after at = after
  turnless b c i v Empty before after at = absurd (before at.0.0 at.0.1)
  turnless b c i v Holding before after at = absurd (before at.0.0 at.0.1)

  -- another has the turn
  pub of-other : (b : Board B) (id i : ℕ) (v : View B) → b.turner ≡ id → i ≢ id → IsAt journal fits f b i v Idle
  of-other b id i v turner other = λ turned same. other (sym same ∙ turner)

  -- the caller's own list, where it takes the turn
  taken-member : (b : Board B) (id : ℕ) (m : Member) (log : List Entry) → log ≡ b.log → IsMember (length (journal f.value)) b.log b.drawn b.holder id m
      → IsMember (length (journal f.value)) b.log b.drawn b.holder id (record m { seen = log })
  taken-member b id m log same old = record { first = old.first; last = old.last; here = old.here; seen = subst (λ (l : List Entry). BeginsWith b.log l) (sym same) (whole b.log); own = old.own }

  module _ (b : Board B) (s : State (Option B) (View B)) (r : IsRight journal fits f b s) where
    pub turn-found : get_or s.words 0 0 ≡ b.turn
    turn-found = ap (λ (ws : List ℕ). get_or ws 0 0) r.words

    -- the turn is free, and a caller takes it
    takes-turn : (id : ℕ) (k : Known B) → get_elem? s.views id ≡ some (pass Idle k) → b.turn ≡ 0 → (x : B) → b.home ≡ some (Some x) → journal x ≡ b.log → fits f.value x
        → Holds journal fits f (record { words = set s.words 0 1; homes = set s.homes 0 none; views = set s.views id (pass Holding (having_seen journal fits k (journal x))) })
    takes-turn id k at free x home same fit =
        let c : Board B = record b { turn = 1; turner = id; home = none } in
        let w = pass Holding (having_seen journal fits k (journal x)) in
        let old = r.each id (pass Idle k) at in
        let m = All-head (IsMember (length (journal f.value)) b.log b.drawn b.holder id) _ [] old.members in (
          c,
          record {
            words = ap (λ (ws : List ℕ). set ws 0 1) r.words;
            homes = ap (λ hs. set hs 0 none) r.homes;
            turn = omega arith;
            few = r.few;
            callers = r.callers;
            began = r.began;
            named = r.named;
            free = λ no. absurd (omega (arith, no));
            taken = λ yes. (w, set_here s.views id w (within s.views id (pass Idle k) at));
            each = each-after b c s.views id w r.each
                record {
                  founding = old.founding;
                  stage = ((refl, refl, All-cons (λ (n : Member). n.seen ≡ b.log) _ [] same (All-nil (λ (n : Member). n.seen ≡ b.log)), inr (omega arith)), refl);
                  starting = λ no. absurd (false≢true no);
                  members = All-cons (IsMember (length (journal f.value)) b.log b.drawn b.holder id) _ [] (taken-member b id _ (journal x) same m) (All-nil (IsMember (length (journal f.value)) b.log b.drawn b.holder id));
                }
                (λ i v other u. record { founding = u.founding; stage = turnless b c i v v.stage (λ turned. absurd (omega (arith, free, turned))) (λ turned same. other (sym same)) u.stage; starting = u.starting; members = u.members });
          },
        )

    -- a caller whose lists the board knows
    taken-facts : (id : ℕ) (k : Known B) → get_elem? s.views id ≡ some (pass Idle k) → (x : B) → journal x ≡ b.log → fits f.value x → IsTaken journal fits k x
    taken-facts id k at x same fit =
        let old = r.each id (pass Idle k) at in
        let founding : k.founding ≡ f = old.founding k.founding refl in
        let m = All-head (IsMember (length (journal f.value)) b.log b.drawn b.holder id) _ [] old.members in
        subst (λ (g : Founding B). IsTaken journal fits (record k { founding = g }) x) (sym founding) (record {
          first = m.first;
          last = omega (arith, m.last, r.few);
          fits = fit;
          began = subst (λ (l : List Entry). BeginsWith l (journal f.value)) (sym same) r.began;
          seen = subst (λ (l : List Entry). BeginsWith l k.seen) (sym same) m.seen;
          own = m.own ∙ ap (λ (l : List Entry). calls_by k.caller (length (journal f.value)) l) (sym same);
          named = subst (λ (l : List Entry). All (IsByOneOf f.callers) (drop (length (journal f.value)) l)) (sym same) (more-callers b.drawn f.callers _ r.few r.named);
        })

  -- another has the turn, and nothing changes
  waits : (b : Board B) (s : State (Option B) (View B)) → IsRight journal fits f b s → (id : ℕ) (v : View B) → get_elem? s.views id ≡ some v → b.turn ≢ 0
      → Holds journal fits f (record { words = set s.words 0 1; homes = s.homes; views = set s.views id v })
  waits b s r id v at held =
      let one : b.turn ≡ 1 = omega (arith, r.turn, held) in (
        b,
        record {
          words = ap (λ (ws : List ℕ). set ws 0 1) r.words ∙ ap (λ (n : ℕ). n ∷ length b.log ∷ b.drawn ∷ []) (sym one);
          homes = r.homes;
          turn = r.turn;
          few = r.few;
          callers = r.callers;
          began = r.began;
          named = r.named;
          free = r.free;
          taken = subst (λ views. b.turn ≡ 1 → (u : View B) × (get_elem? views b.turner ≡ some u)) (sym (set_again s.views id v at)) r.taken;
          each = subst (λ views. (i : ℕ) (u : View B) → get_elem? views i ≡ some u → Viewed b i u) (sym (set_again s.views id v at)) r.each;
        },
      )

  pub grabs : (slots : ℕ) → slots ≡ 1 → (id : ℕ) (m : Me (Option B) (View B)) (k : Known B) → m ≡ (pass Idle k, [])
      → Allows (Holds journal fits f) slots id m 0 (λ _. 1) (grabbed journal fits m)
  grabs slots one id m k e = subst (λ (x : Me (Option B) (View B)). Allows (Holds journal fits f) slots id x 0 (λ _. 1) (grabbed journal fits x)) (sym e)
      (λ s h wide at _. let b = h.0 in let r = h.1 in let found = turn-found b s r in
      dite (ℕ_discrete b.turn 0)
      (λ free. let t = r.free free in (
        pass Holding (having_seen journal fits k (journal t.0)),
        takes 0 (Some t.0),
        ap (λ hs. get_elem? hs 0) r.homes ∙ ap some t.1,
        takes-turn b s r id k at free t.0 t.1 t.2 t.3,
        λ h same. subst (λ (g : Known B). Grabbed journal fits (pass Idle k, []) (get_or s.words 0 0) (pass Holding (having_seen journal fits k (journal t.0)), (0, Some t.0) ∷ []) g)
            (same-seat Idle k h [] [] same)
            ((λ no. absurd (no (found ∙ free))), λ _. (t.0, refl, taken-facts b s r id k at t.0 t.2 t.3)),
      ))
      (λ held. (
        pass Idle k,
        keeps,
        tt,
        waits b s r id (pass Idle k) at held,
        λ h same. ((λ _. refl), λ no. absurd (held (sym found ∙ no))),
      )))
