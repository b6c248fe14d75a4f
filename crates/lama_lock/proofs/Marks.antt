-- A call that was served is marked, and the turn let go.
use Rattle.std.proofs.Common.{◌≡◌, ◌≢◌, ℕ, ◌+◌, ◌%◌, ◌^◌, ◌≤◌, inr, List, [], ◌∷◌, ◌++◌, length, All, drop, length-append, refl, sym, ap, ◌∙◌, subst, arith, Option, Some, set, get_or}
use Rattle.std.proofs.lemmas.List.Elements.{All-head, All-cons, All-nil, All-weaker}
use mathlib.Core.Option.{some}
use Rattle.std.proofs.lemmas.Bool.{false≢true}
use Rattle.std.proofs.Math.Nat.{mod-eq_of_lt}
use lib.ListN.{get_elem?}
use Rattle.atomic_table.proofs.Lists.{set_here}
use Rattle.atomic_table.specs.Table.{State, Me, keeps, Allows}
use Rattle.lama_model.specs.Pass.{calls_by, BeginsWith, IsByOneOf}
use Rattle.lama_model.specs.declared.calls.Call.{Call}
use Rattle.lama_model.specs.declared.calls.Entry.{Entry}
use Rattle.lama_lock.specs.declared.view.Founding.{Founding}
use Rattle.lama_lock.specs.declared.view.Stage.TheVariants.{Holding}
use Rattle.lama_lock.specs.declared.view.Member.{Member}
use Rattle.lama_lock.specs.declared.view.View.{View}
use Rattle.lama_lock.specs.Views.{Known, pass, member_of}
use Rattle.lama_lock.specs.Rule.{Board, IsMember, IsView, IsRight, Holds}
use Rattle.lama_lock.specs.Steps.{with_calls, marked}
use Rattle.lama_lock.proofs.Callers.{whole, same-held, within, calls-other, begins-more, named-more, seen-short}
use Rattle.lama_lock.proofs.Moves.{each-after, turnless, of-other}

module _ {B : Type 0} (journal : B → List Entry) (fits : B → B → Type 0) (f : Founding B) where
  abbrev start : ℕ
  start = length (journal f.value)

  abbrev logged : Board B → List Entry → Board B
  logged b log = record b { log = log }

  -- another's lists, where the journal has one call more
  other-member : (b : Board B) (e : Entry) (i : ℕ) (m : Member) → start ≤ length b.log → e.caller ≢ m.caller → IsMember start b.log b.drawn b.holder i m
      → IsMember start (b.log ++ e ∷ []) b.drawn b.holder i m
  other-member b e i m from other old = record {
    first = old.first;
    last = old.last;
    here = old.here;
    seen = begins-more start b.log e from m.seen old.seen;
    own = old.own ∙ sym (calls-other start b.log e from m.caller other);
  }

  module _ (b : Board B) (s : State (Option B) (View B)) (r : IsRight journal fits f b s) (id : ℕ) (k : Known B) (at : get_elem? s.views id ≡ some (pass Holding k)) where
    held : IsView journal fits f b id (pass Holding k)
    held = r.each id (pass Holding k) at

    mine : IsMember start b.log b.drawn b.holder id (member_of k)
    mine = All-head (IsMember start b.log b.drawn b.holder id) (member_of k) [] held.members

    pub seen-all : k.seen ≡ b.log
    seen-all = All-head (λ (m : Member). m.seen ≡ b.log) (member_of k) [] held.stage.0.2

    marks-call : (x : B) (call : Call) → journal x ≡ k.seen ++ record { caller = k.caller; call = call } ∷ [] → length (journal x) ≤ 4294967295
        → Holds journal fits f (record { words = set s.words 1 ((get_or s.words 1 0 + 1) % 2 ^ 64); homes = s.homes; views = set s.views id (pass Holding (with_calls journal fits k (journal x))) })
    marks-call x call is few =
        let e : Entry = record { caller = k.caller; call = call } in
        let c = logged b (journal x) in
        let grown : journal x ≡ b.log ++ e ∷ [] = is ∙ ap (λ (l : List Entry). l ++ e ∷ []) seen-all in
        let from : start ≤ length b.log = seen-short b.log (journal f.value) r.began in
        let one-more : length (journal x) ≡ length b.log + 1 = omega (arith, ap length grown, length-append b.log (e ∷ [])) in
        let P = IsMember start (journal x) b.drawn b.holder in (
          c,
          record {
            words = ap (λ (ws : List ℕ). set ws 1 ((get_or ws 1 0 + 1) % 2 ^ 64)) r.words
                ∙ ap (λ (n : ℕ). b.turn ∷ n ∷ b.drawn ∷ []) (mod-eq_of_lt (omega (arith, few, one-more)) ∙ sym one-more);
            homes = r.homes;
            turn = r.turn;
            few = r.few;
            callers = r.callers;
            began = subst (λ (l : List Entry). BeginsWith l (journal f.value)) (sym grown) (begins-more start b.log e from (journal f.value) r.began);
            named = subst (λ (l : List Entry). All (IsByOneOf b.drawn) (drop start l)) (sym grown) (named-more start b.log e from b.drawn (mine.first, mine.last) r.named);
            free = λ no. absurd (omega (arith, no, held.stage.0.0));
            taken = λ yes. (
              pass Holding (with_calls journal fits k (journal x)),
              subst (λ (n : ℕ). get_elem? (set s.views id (pass Holding (with_calls journal fits k (journal x)))) n ≡ some (pass Holding (with_calls journal fits k (journal x)))) (sym held.stage.0.1)
                  (set_here s.views id (pass Holding (with_calls journal fits k (journal x))) (within s.views id (pass Holding k) at)),
            );
            each = each-after journal fits f b c s.views id (pass Holding (with_calls journal fits k (journal x))) r.each
                record {
                  founding = held.founding;
                  stage = ((held.stage.0.0, held.stage.0.1, All-cons (λ (m : Member). m.seen ≡ journal x) _ [] refl (All-nil (λ (m : Member). m.seen ≡ journal x)), inr (omega arith)), held.stage.1);
                  starting = λ no. absurd (false≢true no);
                  members = All-cons (P id) _ []
                      record { first = mine.first; last = mine.last; here = mine.here; seen = whole (journal x); own = ap (λ (g : Founding B). calls_by k.caller (length (journal g.value)) (journal x)) (held.founding k.founding refl) }
                      (All-nil (P id));
                }
                (λ i v other u. record {
                  founding = u.founding;
                  stage = (let idle = of-other journal fits f b id i v held.stage.0.1 other in turnless journal fits f b (logged b (journal x)) i v v.stage idle idle u.stage);
                  starting = u.starting;
                  members = All-weaker (IsMember start b.log b.drawn b.holder i) (P i)
                      (λ m old. subst (λ (l : List Entry). IsMember start l b.drawn b.holder i m) (sym grown)
                      (other-member b e i m from (λ same. other (sym old.here ∙ (ap b.holder (sym same) ∙ mine.here))) old))
                      v.members u.members;
                });
          },
        )

  pub marks : (slots : ℕ) → slots ≡ 1 → (id : ℕ) (m : Me (Option B) (View B)) (k : Known B) (x : B) (call : Call) → m ≡ (pass Holding k, (0, Some x) ∷ [])
      → journal x ≡ k.seen ++ record { caller = k.caller; call = call } ∷ [] → length (journal x) ≤ 4294967295
      → Allows (Holds journal fits f) slots id m 1 (λ n. (n + 1) % 2 ^ 64) (marked journal fits m)
  marks slots one id m k x call e is few = subst (λ (y : Me (Option B) (View B)). Allows (Holds journal fits f) slots id y 1 (λ n. (n + 1) % 2 ^ 64) (marked journal fits y)) (sym e)
      (λ s h wide at _. let b = h.0 in let r = h.1 in (
        pass Holding (with_calls journal fits k (journal x)),
        keeps,
        tt,
        marks-call b s r id k at x call is few,
        λ g y same. subst (λ (t : Known B × B). (get_or s.words 1 0 ≡ length t.0.seen)
            × ◌≡◌ {A = Me (Option B) (View B)} (pass Holding (with_calls journal fits k (journal x)), (0, Some x) ∷ []) (pass Holding (with_calls journal fits t.0 (journal t.1)), (0, Some t.1) ∷ []))
            (same-held Holding k g x y same)
            (ap (λ (ws : List ℕ). get_or ws 1 0) r.words ∙ ap length (sym (seen-all b s r id k at)), refl),
      ))
