use Rattle.std.proofs.Common.{◌≡◌, ◌∙◌, ℕ, ◌<◌, [], List, length, get_or, map, ap, sym, subst, arith}
use Rattle.std.specs.Prelude.{All, sum_by}
use Rattle.std.proofs.lemmas.List.Elements.{All-from_recursion, All-weaker}
use Rattle.lama_marks.specs.Places.{AreMarked}
use Rattle.lama_snapshot.specs.Snap.{Snap}
use Rattle.lama_snapshot.specs.Found.{killed_slots, in_table}
use Rattle.lama_snapshot.proofs.Known.{Known, known, IsIn, killed-in, in_table-all, tables-below}
use Rattle.lama_snapshot.proofs.snapshot.Snapshot.hide_killed.Goals as goal

pub by_table-requires : goal.by_table-requires
by_table-requires g c =
    let rows = c.requires.0 in
    let found : c.args.found.now ≡ killed_slots c.args.self.now rows = c.requires.2 in
    let knows : Known c.args.self.now = subst Known c.self.view_is (known c.self.inside c.self.invariant.snap) in
    let columns : c.self.inside.hidden.items ≡ c.args.self.now.columns.marks = ap (λ (s : Snap). s.columns.marks) c.self.view_is in
    let ok = All-from_recursion (λ (p : ℕ × ℕ). p.0 < length c.args.self.now.columns.marks) (killed_slots c.args.self.now rows)
    (tables-below (λ (t : ℕ) (o : ℕ). o < length (get_or c.args.self.now.columns.marks t [])) (length c.args.self.now.columns.marks) (killed_slots c.args.self.now rows) (killed-in c.args.self.now knows rows c.requires.1)) in
    let size : length c.args.self.now.columns.marks ≡ c.len.result = let a = c.len.ensures in let b = ap length columns in omega (arith, a, b) in
    subst (λ m. All (λ (p : ℕ × ℕ). p.0 < m) c.args.found.now) size (subst (All (λ (p : ℕ × ℕ). p.0 < length c.args.self.now.columns.marks)) (sym (found)) ok)

pub hide_all-requires-clause-within : goal.hide_all-requires-clause-within
hide_all-requires-clause-within g c = λ t lt.
    let rows = c.requires.0 in
    let found : c.args.found.now ≡ killed_slots c.args.self.now rows = c.requires.2 in
    let knows : Known c.args.self.now = subst Known c.self.view_is (known c.self.inside c.self.invariant.snap) in
    let columns : c.self.inside.hidden.items ≡ c.args.self.now.columns.marks = ap (λ (s : Snap). s.columns.marks) c.self.view_is in
    let here = in_table-all (λ (t : ℕ) (o : ℕ). IsIn c.args.self.now.columns.marks t o) t (killed_slots c.args.self.now rows) (killed-in c.args.self.now knows rows c.requires.1) in
    let ok : All (λ (o : ℕ). o < length (get_or c.args.self.now.columns.marks t [])) (in_table t (killed_slots c.args.self.now rows)) = All-weaker (λ (o : ℕ). IsIn c.args.self.now.columns.marks t o) (λ (o : ℕ). o < length (get_or c.args.self.now.columns.marks t [])) (λ o h. h.1) (in_table t (killed_slots c.args.self.now rows)) (All-from_recursion (λ (o : ℕ). IsIn c.args.self.now.columns.marks t o) (in_table t (killed_slots c.args.self.now rows)) here) in
    let places : in_table t (killed_slots c.args.self.now rows) ≡ get_or (map (λ w. w.items) c.deref-2.result.now) t [] =
    sym (ap (λ xs. get_or (map (λ w. w.items) xs) t []) c.deref-2.ensures.value ∙ (c.in_ok-places.ensures.each t ∙ ap (in_table t) (found))) in
    let lists : c.args.self.now.columns.marks ≡ c.deref.result.now = sym (c.deref.ensures.value ∙ columns) in
    subst (λ (xs : List (List ℕ)). All (λ (o : ℕ). o < length (get_or xs t [])) (get_or (map (λ w. w.items) c.deref-2.result.now) t [])) lists (subst (All (λ (o : ℕ). o < length (get_or c.args.self.now.columns.marks t []))) places ok)

pub returns-clause-marks : goal.returns-clause-marks
returns-clause-marks g c =
    let rows = c.requires.0 in
    let found : c.args.found.now ≡ killed_slots c.args.self.now rows = c.requires.2 in
    let knows : Known c.args.self.now = subst Known c.self.view_is (known c.self.inside c.self.invariant.snap) in
    let columns : c.self.inside.hidden.items ≡ c.args.self.now.columns.marks = ap (λ (s : Snap). s.columns.marks) c.self.view_is in
    let lists : c.deref.result.now ≡ c.args.self.now.columns.marks = c.deref.ensures.value ∙ columns in
    let new = c.in_ok-hidden.hidden.items in
    record {
      len = c.in_ok-hidden.ensures.len ∙ ap length lists;
      each = λ t lt.
          (let places = ap (λ xs. get_or (map (λ w. w.items) xs) t []) c.deref-2.ensures.value ∙ c.in_ok-places.ensures.each t in
          let n = ap length lists in
          subst (λ xs. AreMarked xs c.args.number (get_or c.args.self.now.columns.marks t []) (get_or new t [])) places
          (subst (λ (ys : List (List ℕ)). AreMarked (get_or (map (λ w. w.items) c.deref-2.result.now) t []) c.args.number (get_or ys t []) (get_or new t [])) lists (c.in_ok-hidden.ensures.each t (omega (arith, n, lt)))));
    }

pub returns-in_err-hidden-clause-made : goal.returns-in_err-hidden-clause-made
returns-in_err-hidden-clause-made g c =
    let made = c.hide_all.ensures.made in
    let total = c.in_ok-places.ensures.total in
    let a = ap (λ xs. sum_by (λ w. length w.items) xs) c.deref-2.ensures.value in
    omega (arith, made, total, a)

pub returns-clause-made : goal.returns-clause-made
returns-clause-made g c =
    let made = c.hide_all.ensures.made in
    let total = c.in_ok-places.ensures.total in
    let a = ap (λ xs. sum_by (λ w. length w.items) xs) c.deref-2.ensures.value in
    omega (arith, made, total, a)
