-- The turn is let go, and the slot comes home.
use Rattle.std.proofs.Common.{◌≡◌, ℕ, ⊎_elim, Bool, List, [], ◌∷◌, refl, sym, ap, ◌∙◌, subst, arith, Option, Some, None, set, get_or, false, true}
use Rattle.std.proofs.lemmas.List.Elements.{All-head}
use mathlib.Core.Option.{some, none}
use lib.ListN.{get_elem?}
use Rattle.atomic_table.proofs.Lists.{set_here}
use Rattle.atomic_table.specs.Table.{State, Me, takes, gives, Allows}
use Rattle.lama_model.specs.declared.calls.Entry.{Entry}
use Rattle.lama_lock.specs.declared.view.Founding.{Founding}
use Rattle.lama_lock.specs.declared.view.Stage.{Stage}
use Rattle.lama_lock.specs.declared.view.Stage.TheVariants.{Idle, Empty, Holding}
use Rattle.lama_lock.specs.declared.view.Member.{Member}
use Rattle.lama_lock.specs.declared.view.View.{View}
use Rattle.lama_lock.specs.Views.{Known, pass, member_of, starting}
use Rattle.lama_lock.specs.Rule.{Board, HasTurn, IsRight, Holds}
use Rattle.lama_lock.specs.Steps.{freed, opened, begun}
use Rattle.lama_lock.proofs.Callers.{same-held, founding-is, within}
use Rattle.lama_lock.proofs.Moves.{each-after, turnless, of-other}

-- a view, by its parts
abbrev pub shape : {B : Type 0} → Option (Founding B) → Stage → Bool → ℕ → List Member → View B
shape fo stage st d ms = record { founding = fo; stage = stage; starting = st; drawn = d; members = ms }

module _ {B : Type 0} (journal : B → List Entry) (fits : B → B → Type 0) (f : Founding B) where
  abbrev pub freely : Board B → B → Board B
  freely b x = record b { turn = 0; home = some (Some x) }

  lets-go : (b : Board B) (s : State (Option B) (View B)) → IsRight journal fits f b s → (id : ℕ) (fo : Option (Founding B)) (st : Bool) (d : ℕ) (ms : List Member)
      → get_elem? s.views id ≡ some (shape fo Holding st d ms) → (x : B) → journal x ≡ b.log → fits f.value x
      → Holds journal fits f (record { words = set s.words 0 0; homes = set s.homes 0 (some (Some x)); views = set s.views id (shape fo Idle st d ms) })
  lets-go b s r id fo st d ms at x same fit =
      let old = r.each id (shape fo Holding st d ms) at in
      let c = freely b x in (
        c,
        record {
          words = ap (λ (ws : List ℕ). set ws 0 0) r.words;
          homes = ap (λ hs. set hs 0 (some (Some x))) r.homes;
          turn = omega arith;
          few = r.few;
          callers = r.callers;
          began = r.began;
          named = r.named;
          free = λ _. (x, refl, same, fit);
          taken = λ no. absurd (omega (arith, no));
          each = each-after journal fits f b c s.views id (shape fo Idle st d ms) r.each
              record { founding = old.founding; stage = λ no. absurd (omega (arith, no)); starting = old.starting; members = old.members }
              (λ i v other u. record { founding = u.founding; stage = turnless journal fits f b c i v v.stage (of-other journal fits f b id i v old.stage.0.1 other) (λ no. absurd (omega (arith, no))) u.stage; starting = u.starting; members = u.members });
        },
      )

  pub frees : (slots : ℕ) → slots ≡ 1 → (id : ℕ) (m : Me (Option B) (View B)) (k : Known B) (x : B) → m ≡ (pass Holding k, (0, Some x) ∷ [])
      → journal x ≡ k.seen → fits k.founding.value x
      → Allows (Holds journal fits f) slots id m 0 (λ _. 0) (λ _. freed journal fits m 0)
  frees slots one id m k x e same fit = subst (λ (y : Me (Option B) (View B)). Allows (Holds journal fits f) slots id y 0 (λ _. 0) (λ _. freed journal fits y 0)) (sym e)
      (λ s h wide at _. let b = h.0 in let r = h.1 in let old = r.each id (pass Holding k) at in (
        pass Idle k,
        gives,
        tt,
        lets-go b s r id (Some k.founding) false 0 (member_of k ∷ []) at x (same ∙ All-head (λ (n : Member). n.seen ≡ b.log) (member_of k) [] old.stage.0.2)
            (subst (λ (g : Founding B). fits g.value x) (old.founding k.founding refl) fit),
        λ g y e'. subst (λ (t : Known B × B). ◌≡◌ {A = Me (Option B) (View B)} (pass Idle k, []) (pass Idle t.0, [])) (same-held Holding k g x y e') refl,
      ))

  -- before a number was drawn, the journal is that of the start
  at-start : (b : Board B) (id : ℕ) (g : Founding B) → HasTurn journal fits f b id (starting g Holding 0) → b.log ≡ journal f.value
  at-start b id g t = ⊎_elim (λ l. l.2) (λ no. absurd (omega (arith, no))) t.3

  pub begins : (slots : ℕ) → slots ≡ 1 → (id : ℕ) (m : Me (Option B) (View B)) (g : Founding B) (x : B) → m ≡ (starting g Holding 0, (0, Some x) ∷ [])
      → journal x ≡ journal g.value → fits g.value x
      → Allows (Holds journal fits f) slots id m 0 (λ _. 0) (λ _. begun journal fits m 0)
  begins slots one id m g x e same fit = subst (λ (y : Me (Option B) (View B)). Allows (Holds journal fits f) slots id y 0 (λ _. 0) (λ _. begun journal fits y 0)) (sym e)
      (λ s h wide at _. let b = h.0 in let r = h.1 in let old = r.each id (starting g Holding 0) at in let founding = old.founding g refl in (
        starting g Idle 0,
        gives,
        tt,
        lets-go b s r id (Some g) true 0 [] at x (same ∙ (ap (λ (t : Founding B). journal t.value) founding ∙ sym (at-start b id g old.stage.0)))
            (subst (λ (t : Founding B). fits t.value x) founding fit),
        λ h' y e'. subst (λ (t : Founding B). ◌≡◌ {A = Me (Option B) (View B)} (starting g Idle 0, []) (starting t Idle 0, [])) (founding-is g h' (λ i. (e' i).0.founding)) refl,
      ))

  pub opens : (slots : ℕ) → slots ≡ 1 → (id : ℕ) (m : Me (Option B) (View B)) (g : Founding B) → m ≡ (starting g Empty 0, [])
      → Allows (Holds journal fits f) slots id m 0 (λ n. n) (opened journal fits m)
  opens slots one id m g e = subst (λ (y : Me (Option B) (View B)). Allows (Holds journal fits f) slots id y 0 (λ n. n) (opened journal fits y)) (sym e)
      (λ s h wide at _. let b = h.0 in let r = h.1 in let old = r.each id (starting g Empty 0) at in let c = record b { home = none } in (
        starting g Holding 0,
        takes 0 None,
        ap (λ hs. get_elem? hs 0) r.homes ∙ ap some old.stage.1,
        (
          c,
          record {
            words = ap (λ (ws : List ℕ). set ws 0 (get_or ws 0 0)) r.words;
            homes = ap (λ hs. set hs 0 none) r.homes;
            turn = r.turn;
            few = r.few;
            callers = r.callers;
            began = r.began;
            named = r.named;
            free = λ no. absurd (omega (arith, no, old.stage.0.0));
            taken = λ yes. (starting g Holding 0, subst (λ (n : ℕ). get_elem? (set s.views id (starting g Holding 0)) n ≡ some (starting g Holding 0)) (sym old.stage.0.1) (set_here s.views id (starting g Holding 0) (within s.views id (starting g Empty 0) at)));
            each = each-after journal fits f b c s.views id (starting g Holding 0) r.each
                record { founding = old.founding; stage = (old.stage.0, refl); starting = old.starting; members = old.members }
                (λ i v other u. record { founding = u.founding; stage = (let idle = of-other journal fits f b id i v old.stage.0.1 other in turnless journal fits f b c i v v.stage idle idle u.stage); starting = u.starting; members = u.members });
          },
        ),
        λ h' e'. subst (λ (t : Founding B). ◌≡◌ {A = Me (Option B) (View B)} (starting g Holding 0, (0, None) ∷ []) (starting t Holding 0, (0, None) ∷ [])) (founding-is g h' (λ i. (e' i).0.founding)) refl,
      ))
