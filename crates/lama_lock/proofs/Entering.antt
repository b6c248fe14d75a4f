-- A call, from the turn to what the caller knows afterwards.
use Rattle.std.proofs.Common.{◌≡◌, ℕ, List, [], ◌∷◌, ◌++◌, length, take, drop, All, refl, sym, ap, ◌∙◌, subst, arith, Option, Some, None, length-append}
use Rattle.std.proofs.lemmas.List.{take-append-le, take_all}
use Rattle.atomic_table.specs.Table.{Me}
use Rattle.atomic_table.specs.Seated.{TableId}
use Rattle.lama_model.specs.Pass.{Pass, StepsTo, SeesMore, BeginsWith, IsByOneOf, calls_by}
use Rattle.lama_model.specs.declared.calls.Call.{Call}
use Rattle.lama_model.specs.declared.calls.Entry.{Entry}
use Rattle.lama_lock.specs.declared.view.Founding.{Founding}
use Rattle.lama_lock.specs.declared.view.Stage.TheVariants.{Idle, Holding}
use Rattle.lama_lock.specs.declared.view.View.{View}
use Rattle.lama_lock.specs.Views.{Known, left, member, pass}
use Rattle.lama_lock.specs.Steps.{IsTaken, having_seen, with_calls}
use Rattle.lama_lock.specs.Hall.{member_in, Caller, shown, known_of}
use Rattle.lama_lock.proofs.Callers.{founding-is, value_in, calls-own, named-more, seen-short}

-- the first part of a journal with one call more
pub first-part : (log : List Entry) (e : Entry) → take (length log) (log ++ e ∷ []) ≡ log
first-part log e = take-append-le (length log) log (e ∷ []) (omega arith) ∙ take_all (length log) log (omega arith)

module _ {B : Type 0} (journal : B → List Entry) (fits : B → B → Type 0) where
  -- the value that was taken out is the one that the turn gave
  pub turned : (k : Known B) (v : B) (one two : Me (Option B) (View B)) → ((x : B) × (one ≡ (pass Holding (having_seen journal fits k (journal x)), (0, Some x) ∷ [])) × IsTaken journal fits k x)
      → one.1 ≡ (0, Some v) ∷ [] → two ≡ (one.0, (0, None) ∷ []) → (two ≡ (pass Holding (having_seen journal fits k (journal v)), (0, None) ∷ [])) × IsTaken journal fits k v
  turned k v one two t value empty =
      let same : t.0 ≡ v = λ i. value_in t.0 ((sym (ap (λ (m : Me (Option B) (View B)). m.1) t.1) ∙ value) i) in
      subst (λ x. (two ≡ (pass Holding (having_seen journal fits k (journal x)), (0, None) ∷ [])) × IsTaken journal fits k x) same
      (empty ∙ ap (λ (m : Me (Option B) (View B)). (m.0, (0, None) ∷ [])) t.1, t.2)

  -- what the caller's seat and the pass say of each other
  pub founded : (k : Known B) (p : Caller B) (id : TableId) (me : Me (Option B) (View B)) (start : B) (callers : ℕ) → me ≡ (pass Idle k, [])
      → record { hall = id; founding = me.0.founding; known = shown journal me.0 } ≡ p → p.founding ≡ Some record { value = start; callers = callers }
      → (k.founding ≡ record { value = start; callers = callers }) × (p.known ≡ known_of journal k)
  founded k p id me start callers e view founding = (
    founding-is k.founding (record { value = start; callers = callers }) (sym (ap (λ (m : Me (Option B) (View B)). m.0.founding) e) ∙ (ap (λ (c : Caller B). c.founding) view ∙ founding)),
    sym (ap (λ (c : Caller B). c.known) view) ∙ ap (λ (m : Me (Option B) (View B)). shown journal m.0) e,
  )

  -- the view of a pass, by what the pass shows
  pub idle-as : (k : Known B) (p : Caller B) (f : Founding B) → k.founding ≡ f → p.known ≡ known_of journal k → ◌≡◌ {A = Me (Option B) (View B)} (pass Idle k, []) (left f Idle (member_in p ∷ []), [])
  idle-as k p f e e' = let back = sym e' in λ i. (left (e i) Idle (member (back i).caller (back i).seen (back i).own ∷ []), [])

  -- a seat that is idle again shows what its caller knows
  pub shows : (k : Known B) (me : Me (Option B) (View B)) → me ≡ (pass Idle k, []) → shown journal me.0 ≡ known_of journal k
  shows k me e = ap (λ (m : Me (Option B) (View B)). shown journal m.0) e

  -- after a call that was served
  module _ (k : Known B) (v w : B) (call : Call) (taken : IsTaken journal fits k v) (grown : journal w ≡ journal v ++ record { caller = k.caller; call = call } ∷ []) where
    abbrev e : Entry
    e = record { caller = k.caller; call = call }

    abbrev pub knows : Known B
    knows = with_calls journal fits (having_seen journal fits k (journal v)) (journal w)

    pub first-is : take (length (journal v)) (journal w) ≡ journal v
    first-is = ap (λ (l : List Entry). take (length (journal v)) l) grown ∙ first-part (journal v) e

    pub steps : (callers : ℕ) → k.founding.callers ≡ callers → StepsTo callers (known_of journal k) call (length (journal v)) (known_of journal knows)
    steps callers same =
        let from = seen-short (journal v) (journal k.founding.value) taken.began in
        let start : ℕ = length (journal k.founding.value) in record {
          caller = refl;
          start = refl;
          before = subst (λ (l : List Entry). BeginsWith l k.seen) (sym first-is) taken.seen;
          last = grown ∙ ap (λ (l : List Entry). l ++ e ∷ []) (sym first-is);
          len = ap length grown ∙ length-append (journal v) (e ∷ []);
          own = ap (λ (l : List Entry). calls_by k.caller start l) grown ∙ (calls-own start (journal v) e from ∙ ap (λ (l : List Entry). l ++ e ∷ []) (sym taken.own));
          mine = refl;
          named = subst (λ (n : ℕ). All (IsByOneOf n) (drop start (journal w))) same (subst (λ (l : List Entry). All (IsByOneOf k.founding.callers) (drop start l)) (sym grown)
              (named-more start (journal v) e from k.founding.callers (taken.first, taken.last) taken.named));
        }

-- what was said of these lists, of those that the passes show
pub placed : (callers : ℕ) (call : Call) (p q k l : Pass) (place n : ℕ) → p ≡ k → q ≡ l → place ≡ n → StepsTo callers k call n l → StepsTo callers p call place q
placed callers call p q k l place n e e' e'' t =
    subst (λ (x : Pass). StepsTo callers x call place q) (sym e) (subst (λ (x : Pass). StepsTo callers k call place x) (sym e') (subst (λ (x : ℕ). StepsTo callers k call x l) (sym e'') t))

pub more-placed : (p q k l : Pass) → p ≡ k → q ≡ l → SeesMore k l → SeesMore p q
more-placed p q k l e e' t = subst (λ (x : Pass). SeesMore x q) (sym e) (subst (λ (x : Pass). SeesMore k x) (sym e') t)

pub of-place : (P : List Entry → Type 0) (q l : Pass) (place n : ℕ) (log : List Entry) → q ≡ l → place ≡ n → take n l.seen ≡ log → P log → P (take place q.seen)
of-place P q l place n log e e' e'' t = subst P (sym (ap (λ (x : Pass). take place x.seen) e ∙ (ap (λ (x : ℕ). take x l.seen) e' ∙ e''))) t

pub of-seen : (P : List Entry → Type 0) (q l : Pass) → q ≡ l → P l.seen → P q.seen
of-seen P q l e t = subst (λ (x : Pass). P x.seen) (sym e) t
