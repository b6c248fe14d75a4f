use Rattle.std.proofs.Common.{ℕ, ◌+◌, ◌≤◌, List, [], ◌∷◌, ◌++◌, length, refl, sym, ap, ◌∙◌, subst, arith, Some, length-append}
use Rattle.lama_model.specs.Pass.{Pass}
use Rattle.lama_model.specs.declared.calls.Entry.{Entry}
use Rattle.lama_lock.specs.declared.view.Founding.{Founding}
use Rattle.lama_lock.specs.Views.{Keeps}
use Rattle.lama_lock.specs.Steps.{having_seen}
use Rattle.lama_lock.specs.Hall.{known_of}
use Rattle.lama_lock.proofs.Entering.{founded, shows, knows, first-is, steps, placed, more-placed, of-place, of-seen}
use Rattle.lama_lock.proofs.hall.Hall.enter.Goals as goal

pub serve-served-requires : goal.serve-served-requires
serve-served-requires g c =
    let k = c.pass.invariant in
    let f = founded g.B.Kept.journal (Keeps g.B.Kept.fits g.B.Kept.room) k.0 c.args.pass.now _ _ c.args.self.now.start c.args.self.now.callers k.2 c.pass.view_is c.requires.ours.founding in
    let t = c.take_value-value.ensures.told k.0 k.2 in
    let may = c.requires.may in (
      may.0,
      t.1.fits.0 may.0 (subst (λ (o : Founding g.row.B.Denot). g.B.Kept.fits may.0 o.value) (sym f.0) may.1),
      subst (λ (j : List Entry). g.B.Kept.may may.0 j c.args.ask) (sym t.1.seen.1)
          (g.met.B.Kept.stays may.0 k.0.seen t.1.seen.0 c.args.ask (subst (λ (p : Pass). g.B.Kept.may may.0 p.seen c.args.ask) f.1 may.2)),
    )

pub mark-place-requires-clause-served : goal.mark-place-requires-clause-served
mark-place-requires-clause-served g c =
    let k = c.pass.invariant in
    let f = founded g.B.Kept.journal (Keeps g.B.Kept.fits g.B.Kept.room) k.0 c.args.pass.now _ _ c.args.self.now.start c.args.self.now.callers k.2 c.pass.view_is c.requires.ours.founding in
    let t = c.take_value-value.ensures.told k.0 k.2 in
    let h = having_seen g.B.Kept.journal (Keeps g.B.Kept.fits g.B.Kept.room) k.0 (g.B.Kept.journal c.take_value-value.result) in
    let seat = c.put_back.ensures.full ∙ ap (λ m. (m.0, (0, Some c.serve-served.new.self) ∷ [])) t.0 in
    let grown = c.in-Ok.ensures.served ∙ ap (λ (n : ℕ). g.B.Kept.journal c.take_value-value.result ++ record { caller = n; call = g.B.Kept.call c.args.ask } ∷ []) (sym k.1) in
    (h, c.serve-served.new.self, g.B.Kept.call c.args.ask, seat, grown, c.in-Ok.ensures.few)

pub overflow_cast-place : goal.overflow_cast-place
overflow_cast-place g c =
    let k = c.pass.invariant in
    let f = founded g.B.Kept.journal (Keeps g.B.Kept.fits g.B.Kept.room) k.0 c.args.pass.now _ _ c.args.self.now.start c.args.self.now.callers k.2 c.pass.view_is c.requires.ours.founding in
    let t = c.take_value-value.ensures.told k.0 k.2 in
    let h = having_seen g.B.Kept.journal (Keeps g.B.Kept.fits g.B.Kept.room) k.0 (g.B.Kept.journal c.take_value-value.result) in
    let seat = c.put_back.ensures.full ∙ ap (λ m. (m.0, (0, Some c.serve-served.new.self) ∷ [])) t.0 in
    let m = c.mark-place.ensures.told h c.serve-served.new.self seat in
    omega (arith, m.0, c.in-Ok.ensures.few, ap length c.in-Ok.ensures.served, length-append (g.B.Kept.journal c.take_value-value.result) (record { caller = c.pass.inside.caller; call = g.B.Kept.call c.args.ask } ∷ []))

pub let_go-requires-clause-marked : goal.let_go-requires-clause-marked
let_go-requires-clause-marked g c =
    let k = c.pass.invariant in
    let f = founded g.B.Kept.journal (Keeps g.B.Kept.fits g.B.Kept.room) k.0 c.args.pass.now _ _ c.args.self.now.start c.args.self.now.callers k.2 c.pass.view_is c.requires.ours.founding in
    let t = c.take_value-value.ensures.told k.0 k.2 in
    let h = having_seen g.B.Kept.journal (Keeps g.B.Kept.fits g.B.Kept.room) k.0 (g.B.Kept.journal c.take_value-value.result) in
    let seat = c.put_back.ensures.full ∙ ap (λ m. (m.0, (0, Some c.serve-served.new.self) ∷ [])) t.0 in
    let grown = c.in-Ok.ensures.served ∙ ap (λ (n : ℕ). g.B.Kept.journal c.take_value-value.result ++ record { caller = n; call = g.B.Kept.call c.args.ask } ∷ []) (sym k.1) in
    let m = c.mark-place.ensures.told h c.serve-served.new.self seat in
    let w = knows g.B.Kept.journal (Keeps g.B.Kept.fits g.B.Kept.room) k.0 c.take_value-value.result c.serve-served.new.self (g.B.Kept.call c.args.ask) t.1 grown in
    (w, c.serve-served.new.self, m.1, refl, ((λ s fit. c.in-Ok.ensures.setting s (t.1.fits.0 s fit)), omega (arith, t.1.fits.1, c.in-Ok.ensures.room)))

pub invariant_of-pass : goal.invariant_of-pass
invariant_of-pass g c =
    let k = c.pass.invariant in
    let f = founded g.B.Kept.journal (Keeps g.B.Kept.fits g.B.Kept.room) k.0 c.args.pass.now _ _ c.args.self.now.start c.args.self.now.callers k.2 c.pass.view_is c.requires.ours.founding in
    let t = c.take_value-value.ensures.told k.0 k.2 in
    let h = having_seen g.B.Kept.journal (Keeps g.B.Kept.fits g.B.Kept.room) k.0 (g.B.Kept.journal c.take_value-value.result) in
    let seat = c.put_back.ensures.full ∙ ap (λ m. (m.0, (0, Some c.serve-served.new.self) ∷ [])) t.0 in
    let grown = c.in-Ok.ensures.served ∙ ap (λ (n : ℕ). g.B.Kept.journal c.take_value-value.result ++ record { caller = n; call = g.B.Kept.call c.args.ask } ∷ []) (sym k.1) in
    let m = c.mark-place.ensures.told h c.serve-served.new.self seat in
    let w = knows g.B.Kept.journal (Keeps g.B.Kept.fits g.B.Kept.room) k.0 c.take_value-value.result c.serve-served.new.self (g.B.Kept.call c.args.ask) t.1 grown in
    let l = c.let_go.ensures.told w c.serve-served.new.self m.1 in
    (w, k.1, l)

pub let_go-requires-in-Err-clause-marked : goal.let_go-requires-in-Err-clause-marked
let_go-requires-in-Err-clause-marked g c =
    let k = c.pass.invariant in
    let f = founded g.B.Kept.journal (Keeps g.B.Kept.fits g.B.Kept.room) k.0 c.args.pass.now _ _ c.args.self.now.start c.args.self.now.callers k.2 c.pass.view_is c.requires.ours.founding in
    let t = c.take_value-value.ensures.told k.0 k.2 in
    let h = having_seen g.B.Kept.journal (Keeps g.B.Kept.fits g.B.Kept.room) k.0 (g.B.Kept.journal c.take_value-value.result) in
    let seat = c.put_back.ensures.full ∙ ap (λ m. (m.0, (0, Some c.serve-served.new.self) ∷ [])) t.0 in
    (h, c.serve-served.new.self, seat, c.in-Err.ensures.unserved, ((λ s fit. c.in-Err.ensures.setting s (t.1.fits.0 s fit)), omega (arith, t.1.fits.1, c.in-Err.ensures.room)))

pub invariant_of-pass-in-Err : goal.invariant_of-pass-in-Err
invariant_of-pass-in-Err g c =
    let k = c.pass.invariant in
    let f = founded g.B.Kept.journal (Keeps g.B.Kept.fits g.B.Kept.room) k.0 c.args.pass.now _ _ c.args.self.now.start c.args.self.now.callers k.2 c.pass.view_is c.requires.ours.founding in
    let t = c.take_value-value.ensures.told k.0 k.2 in
    let h = having_seen g.B.Kept.journal (Keeps g.B.Kept.fits g.B.Kept.room) k.0 (g.B.Kept.journal c.take_value-value.result) in
    let seat = c.put_back.ensures.full ∙ ap (λ m. (m.0, (0, Some c.serve-served.new.self) ∷ [])) t.0 in
    let l = c.let_go-in-Err.ensures.told h c.serve-served.new.self seat in
    (h, k.1, l)

pub returns-in-Ok-clause-ours : goal.returns-in-Ok-clause-ours
returns-in-Ok-clause-ours g c =
    let k = c.pass.invariant in
    let f = founded g.B.Kept.journal (Keeps g.B.Kept.fits g.B.Kept.room) k.0 c.args.pass.now _ _ c.args.self.now.start c.args.self.now.callers k.2 c.pass.view_is c.requires.ours.founding in
    let t = c.take_value-value.ensures.told k.0 k.2 in
    let h = having_seen g.B.Kept.journal (Keeps g.B.Kept.fits g.B.Kept.room) k.0 (g.B.Kept.journal c.take_value-value.result) in
    let seat = c.put_back.ensures.full ∙ ap (λ m. (m.0, (0, Some c.serve-served.new.self) ∷ [])) t.0 in
    let grown = c.in-Ok.ensures.served ∙ ap (λ (n : ℕ). g.B.Kept.journal c.take_value-value.result ++ record { caller = n; call = g.B.Kept.call c.args.ask } ∷ []) (sym k.1) in
    let m = c.mark-place.ensures.told h c.serve-served.new.self seat in
    let w = knows g.B.Kept.journal (Keeps g.B.Kept.fits g.B.Kept.room) k.0 c.take_value-value.result c.serve-served.new.self (g.B.Kept.call c.args.ask) t.1 grown in
    let l = c.let_go.ensures.told w c.serve-served.new.self m.1 in
    record {
      hall = c.let_go.ensures.here ∙ (c.mark-place.ensures.here ∙ (c.put_back.ensures.here ∙ (c.take_value-value.ensures.here ∙ (ap (λ p. p.hall) c.pass.view_is ∙ c.requires.ours.hall))));
      founding = ap (λ n. n.0.founding) l ∙ ap Some f.0;
    }

pub returns-in-Ok-clause-call : goal.returns-in-Ok-clause-call
returns-in-Ok-clause-call g c =
    let k = c.pass.invariant in
    let f = founded g.B.Kept.journal (Keeps g.B.Kept.fits g.B.Kept.room) k.0 c.args.pass.now _ _ c.args.self.now.start c.args.self.now.callers k.2 c.pass.view_is c.requires.ours.founding in
    let t = c.take_value-value.ensures.told k.0 k.2 in
    let h = having_seen g.B.Kept.journal (Keeps g.B.Kept.fits g.B.Kept.room) k.0 (g.B.Kept.journal c.take_value-value.result) in
    let seat = c.put_back.ensures.full ∙ ap (λ m. (m.0, (0, Some c.serve-served.new.self) ∷ [])) t.0 in
    let grown = c.in-Ok.ensures.served ∙ ap (λ (n : ℕ). g.B.Kept.journal c.take_value-value.result ++ record { caller = n; call = g.B.Kept.call c.args.ask } ∷ []) (sym k.1) in
    let m = c.mark-place.ensures.told h c.serve-served.new.self seat in
    let w = knows g.B.Kept.journal (Keeps g.B.Kept.fits g.B.Kept.room) k.0 c.take_value-value.result c.serve-served.new.self (g.B.Kept.call c.args.ask) t.1 grown in
    let l = c.let_go.ensures.told w c.serve-served.new.self m.1 in
    let told = steps g.B.Kept.journal (Keeps g.B.Kept.fits g.B.Kept.room) k.0 c.take_value-value.result c.serve-served.new.self (g.B.Kept.call c.args.ask) t.1 grown c.args.self.now.callers (ap (λ (o : Founding g.row.B.Denot). o.callers) f.0) in
    placed c.args.self.now.callers (g.B.Kept.call c.args.ask) _ _ (known_of g.B.Kept.journal k.0) (known_of g.B.Kept.journal w) _ _ f.1 (shows g.B.Kept.journal (Keeps g.B.Kept.fits g.B.Kept.room) w _ l) m.0 told

pub returns-in-Ok-clause-answer : goal.returns-in-Ok-clause-answer
returns-in-Ok-clause-answer g c = λ s fit.
    let k = c.pass.invariant in
    let f = founded g.B.Kept.journal (Keeps g.B.Kept.fits g.B.Kept.room) k.0 c.args.pass.now _ _ c.args.self.now.start c.args.self.now.callers k.2 c.pass.view_is c.requires.ours.founding in
    let t = c.take_value-value.ensures.told k.0 k.2 in
    let h = having_seen g.B.Kept.journal (Keeps g.B.Kept.fits g.B.Kept.room) k.0 (g.B.Kept.journal c.take_value-value.result) in
    let seat = c.put_back.ensures.full ∙ ap (λ m. (m.0, (0, Some c.serve-served.new.self) ∷ [])) t.0 in
    let grown = c.in-Ok.ensures.served ∙ ap (λ (n : ℕ). g.B.Kept.journal c.take_value-value.result ++ record { caller = n; call = g.B.Kept.call c.args.ask } ∷ []) (sym k.1) in
    let m = c.mark-place.ensures.told h c.serve-served.new.self seat in
    let w = knows g.B.Kept.journal (Keeps g.B.Kept.fits g.B.Kept.room) k.0 c.take_value-value.result c.serve-served.new.self (g.B.Kept.call c.args.ask) t.1 grown in
    let l = c.let_go.ensures.told w c.serve-served.new.self m.1 in
    of-place (λ (j : List Entry). g.B.Kept.gives s j c.args.ask c.in-Ok.answer) _ (known_of g.B.Kept.journal w) _ _ (g.B.Kept.journal c.take_value-value.result) (shows g.B.Kept.journal (Keeps g.B.Kept.fits g.B.Kept.room) w _ l) m.0 (first-is g.B.Kept.journal (Keeps g.B.Kept.fits g.B.Kept.room) k.0 c.take_value-value.result c.serve-served.new.self (g.B.Kept.call c.args.ask) t.1 grown) (c.in-Ok.ensures.answer s (t.1.fits.0 s (subst (λ (o : Founding g.row.B.Denot). g.B.Kept.fits s o.value) (sym f.0) fit)))

pub returns-in-Ok-clause-pages : goal.returns-in-Ok-clause-pages
returns-in-Ok-clause-pages g c = λ s fit.
    let k = c.pass.invariant in
    let f = founded g.B.Kept.journal (Keeps g.B.Kept.fits g.B.Kept.room) k.0 c.args.pass.now _ _ c.args.self.now.start c.args.self.now.callers k.2 c.pass.view_is c.requires.ours.founding in
    let t = c.take_value-value.ensures.told k.0 k.2 in
    let h = having_seen g.B.Kept.journal (Keeps g.B.Kept.fits g.B.Kept.room) k.0 (g.B.Kept.journal c.take_value-value.result) in
    let seat = c.put_back.ensures.full ∙ ap (λ m. (m.0, (0, Some c.serve-served.new.self) ∷ [])) t.0 in
    let grown = c.in-Ok.ensures.served ∙ ap (λ (n : ℕ). g.B.Kept.journal c.take_value-value.result ++ record { caller = n; call = g.B.Kept.call c.args.ask } ∷ []) (sym k.1) in
    let m = c.mark-place.ensures.told h c.serve-served.new.self seat in
    let w = knows g.B.Kept.journal (Keeps g.B.Kept.fits g.B.Kept.room) k.0 c.take_value-value.result c.serve-served.new.self (g.B.Kept.call c.args.ask) t.1 grown in
    let l = c.let_go.ensures.told w c.serve-served.new.self m.1 in
    of-place (λ (j : List Entry). c.serve-served.new.pages ≤ c.args.pages.now + g.B.Kept.bound s j c.args.ask) _ (known_of g.B.Kept.journal w) _ _ (g.B.Kept.journal c.take_value-value.result) (shows g.B.Kept.journal (Keeps g.B.Kept.fits g.B.Kept.room) w _ l) m.0 (first-is g.B.Kept.journal (Keeps g.B.Kept.fits g.B.Kept.room) k.0 c.take_value-value.result c.serve-served.new.self (g.B.Kept.call c.args.ask) t.1 grown) (c.in-Ok.ensures.pages s (t.1.fits.0 s (subst (λ (o : Founding g.row.B.Denot). g.B.Kept.fits s o.value) (sym f.0) fit)))

pub returns-in-Err-clause-ours : goal.returns-in-Err-clause-ours
returns-in-Err-clause-ours g c =
    let k = c.pass.invariant in
    let f = founded g.B.Kept.journal (Keeps g.B.Kept.fits g.B.Kept.room) k.0 c.args.pass.now _ _ c.args.self.now.start c.args.self.now.callers k.2 c.pass.view_is c.requires.ours.founding in
    let t = c.take_value-value.ensures.told k.0 k.2 in
    let h = having_seen g.B.Kept.journal (Keeps g.B.Kept.fits g.B.Kept.room) k.0 (g.B.Kept.journal c.take_value-value.result) in
    let seat = c.put_back.ensures.full ∙ ap (λ m. (m.0, (0, Some c.serve-served.new.self) ∷ [])) t.0 in
    let l = c.let_go-in-Err.ensures.told h c.serve-served.new.self seat in
    record {
      hall = c.let_go-in-Err.ensures.here ∙ (c.put_back.ensures.here ∙ (c.take_value-value.ensures.here ∙ (ap (λ p. p.hall) c.pass.view_is ∙ c.requires.ours.hall)));
      founding = ap (λ n. n.0.founding) l ∙ ap Some f.0;
    }

pub returns-in-Err-clause-unserved : goal.returns-in-Err-clause-unserved
returns-in-Err-clause-unserved g c =
    let k = c.pass.invariant in
    let f = founded g.B.Kept.journal (Keeps g.B.Kept.fits g.B.Kept.room) k.0 c.args.pass.now _ _ c.args.self.now.start c.args.self.now.callers k.2 c.pass.view_is c.requires.ours.founding in
    let t = c.take_value-value.ensures.told k.0 k.2 in
    let h = having_seen g.B.Kept.journal (Keeps g.B.Kept.fits g.B.Kept.room) k.0 (g.B.Kept.journal c.take_value-value.result) in
    let seat = c.put_back.ensures.full ∙ ap (λ m. (m.0, (0, Some c.serve-served.new.self) ∷ [])) t.0 in
    let l = c.let_go-in-Err.ensures.told h c.serve-served.new.self seat in
    more-placed _ _ (known_of g.B.Kept.journal k.0) (known_of g.B.Kept.journal h) f.1 (shows g.B.Kept.journal (Keeps g.B.Kept.fits g.B.Kept.room) h _ l) (record { caller = refl; start = refl; seen = t.1.seen; own = refl })

pub returns-in-Err-clause-fault : goal.returns-in-Err-clause-fault
returns-in-Err-clause-fault g c = λ s fit.
    let k = c.pass.invariant in
    let f = founded g.B.Kept.journal (Keeps g.B.Kept.fits g.B.Kept.room) k.0 c.args.pass.now _ _ c.args.self.now.start c.args.self.now.callers k.2 c.pass.view_is c.requires.ours.founding in
    let t = c.take_value-value.ensures.told k.0 k.2 in
    let h = having_seen g.B.Kept.journal (Keeps g.B.Kept.fits g.B.Kept.room) k.0 (g.B.Kept.journal c.take_value-value.result) in
    let seat = c.put_back.ensures.full ∙ ap (λ m. (m.0, (0, Some c.serve-served.new.self) ∷ [])) t.0 in
    let l = c.let_go-in-Err.ensures.told h c.serve-served.new.self seat in
    of-seen (λ (j : List Entry). g.B.Kept.fails s j (g.B.Kept.room c.args.self.now.start) c.args.ask c.in-Err.fault) _ (known_of g.B.Kept.journal h) (shows g.B.Kept.journal (Keeps g.B.Kept.fits g.B.Kept.room) h _ l)
    (g.met.B.Kept.lowers s (g.B.Kept.journal c.take_value-value.result) (g.B.Kept.room c.take_value-value.result) (g.B.Kept.room c.args.self.now.start) c.args.ask c.in-Err.fault
    (subst (λ (o : Founding g.row.B.Denot). g.B.Kept.room o.value ≤ g.B.Kept.room c.take_value-value.result) f.0 t.1.fits.1) (c.in-Err.ensures.fault s (t.1.fits.0 s (subst (λ (o : Founding g.row.B.Denot). g.B.Kept.fits s o.value) (sym f.0) fit))))

pub returns-in-Err-clause-pages : goal.returns-in-Err-clause-pages
returns-in-Err-clause-pages g c = λ s fit.
    let k = c.pass.invariant in
    let f = founded g.B.Kept.journal (Keeps g.B.Kept.fits g.B.Kept.room) k.0 c.args.pass.now _ _ c.args.self.now.start c.args.self.now.callers k.2 c.pass.view_is c.requires.ours.founding in
    let t = c.take_value-value.ensures.told k.0 k.2 in
    let h = having_seen g.B.Kept.journal (Keeps g.B.Kept.fits g.B.Kept.room) k.0 (g.B.Kept.journal c.take_value-value.result) in
    let seat = c.put_back.ensures.full ∙ ap (λ m. (m.0, (0, Some c.serve-served.new.self) ∷ [])) t.0 in
    let l = c.let_go-in-Err.ensures.told h c.serve-served.new.self seat in
    of-seen (λ (j : List Entry). c.serve-served.new.pages ≤ c.args.pages.now + g.B.Kept.bound s j c.args.ask) _ (known_of g.B.Kept.journal h) (shows g.B.Kept.journal (Keeps g.B.Kept.fits g.B.Kept.room) h _ l) (c.in-Err.ensures.pages s (t.1.fits.0 s (subst (λ (o : Founding g.row.B.Denot). g.B.Kept.fits s o.value) (sym f.0) fit)))
