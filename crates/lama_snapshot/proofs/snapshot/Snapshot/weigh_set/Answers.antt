use Rattle.std.proofs.Common.{◌≡◌, ◌∙◌, ℕ, ◌<◌, [], List, length, get_or, map, ap, sym, subst, arith}
use Rattle.std.specs.Prelude.{All, sum_by}
use Rattle.std.proofs.lemmas.List.Elements.{All-from_recursion, All-weaker}
use Rattle.lama_marks.specs.Places.{AreWritten}
use Rattle.lama_snapshot.specs.Snap.{Snap}
use Rattle.lama_snapshot.specs.Found.{set_slots, in_table}
use Rattle.lama_snapshot.proofs.Known.{Known, known, IsIn, set-in, in_table-all, tables-below}
use Rattle.lama_snapshot.proofs.snapshot.Snapshot.weigh_set.Goals as goal

pub by_table-requires : goal.by_table-requires
by_table-requires g c =
    let rows = c.requires.0 in
    let found : c.args.found.now ≡ set_slots c.args.self.now rows = c.requires.2 in
    let knows : Known c.args.self.now = subst Known c.self.view_is (known c.self.inside c.self.invariant.snap) in
    let columns : c.self.inside.weights.items ≡ c.args.self.now.columns.weights = ap (λ (s : Snap). s.columns.weights) c.self.view_is in
    let ok = All-from_recursion (λ (p : ℕ × (ℕ × ℕ)). p.0 < length c.args.self.now.columns.weights) (set_slots c.args.self.now rows)
    (tables-below (λ (t : ℕ) (p : ℕ × ℕ). p.0 < length (get_or c.args.self.now.columns.weights t [])) (length c.args.self.now.columns.weights) (set_slots c.args.self.now rows) (set-in c.args.self.now knows rows c.requires.1)) in
    let size : length c.args.self.now.columns.weights ≡ c.len.result = let a = c.len.ensures in let b = ap length columns in omega (arith, a, b) in
    subst (λ m. All (λ (p : ℕ × (ℕ × ℕ)). p.0 < m) c.args.found.now) size (subst (All (λ (p : ℕ × (ℕ × ℕ)). p.0 < length c.args.self.now.columns.weights)) (sym (found)) ok)

pub weigh_all-requires-clause-within : goal.weigh_all-requires-clause-within
weigh_all-requires-clause-within g c = λ t lt.
    let rows = c.requires.0 in
    let found : c.args.found.now ≡ set_slots c.args.self.now rows = c.requires.2 in
    let knows : Known c.args.self.now = subst Known c.self.view_is (known c.self.inside c.self.invariant.snap) in
    let columns : c.self.inside.weights.items ≡ c.args.self.now.columns.weights = ap (λ (s : Snap). s.columns.weights) c.self.view_is in
    let here = in_table-all (λ (t : ℕ) (p : ℕ × ℕ). IsIn c.args.self.now.columns.weights t p.0) t (set_slots c.args.self.now rows) (set-in c.args.self.now knows rows c.requires.1) in
    let ok : All (λ (p : ℕ × ℕ). p.0 < length (get_or c.args.self.now.columns.weights t [])) (in_table t (set_slots c.args.self.now rows)) = All-weaker (λ (p : ℕ × ℕ). IsIn c.args.self.now.columns.weights t p.0) (λ (p : ℕ × ℕ). p.0 < length (get_or c.args.self.now.columns.weights t [])) (λ p h. h.1) (in_table t (set_slots c.args.self.now rows)) (All-from_recursion (λ (p : ℕ × ℕ). IsIn c.args.self.now.columns.weights t p.0) (in_table t (set_slots c.args.self.now rows)) here) in
    let places : in_table t (set_slots c.args.self.now rows) ≡ get_or (map (λ w. w.items) c.deref-2.result.now) t [] =
    sym (ap (λ xs. get_or (map (λ w. w.items) xs) t []) c.deref-2.ensures.value ∙ (c.in_ok-places.ensures.each t ∙ ap (in_table t) (found))) in
    let lists : c.args.self.now.columns.weights ≡ c.deref.result.now = sym (c.deref.ensures.value ∙ columns) in
    subst (λ (xs : List (List ℕ)). All (λ (p : ℕ × ℕ). p.0 < length (get_or xs t [])) (get_or (map (λ w. w.items) c.deref-2.result.now) t [])) lists (subst (All (λ (p : ℕ × ℕ). p.0 < length (get_or c.args.self.now.columns.weights t []))) places ok)

pub returns-clause-weights : goal.returns-clause-weights
returns-clause-weights g c =
    let rows = c.requires.0 in
    let found : c.args.found.now ≡ set_slots c.args.self.now rows = c.requires.2 in
    let knows : Known c.args.self.now = subst Known c.self.view_is (known c.self.inside c.self.invariant.snap) in
    let columns : c.self.inside.weights.items ≡ c.args.self.now.columns.weights = ap (λ (s : Snap). s.columns.weights) c.self.view_is in
    let lists : c.deref.result.now ≡ c.args.self.now.columns.weights = c.deref.ensures.value ∙ columns in
    let new = c.in_ok-weights.weights.items in
    record {
      len = c.in_ok-weights.ensures.len ∙ ap length lists;
      each = λ t lt.
          (let places = ap (λ xs. get_or (map (λ w. w.items) xs) t []) c.deref-2.ensures.value ∙ c.in_ok-places.ensures.each t in
          let n = ap length lists in
          subst (λ xs. AreWritten xs (get_or c.args.self.now.columns.weights t []) (get_or new t [])) places
          (subst (λ (ys : List (List ℕ)). AreWritten (get_or (map (λ w. w.items) c.deref-2.result.now) t []) (get_or ys t []) (get_or new t [])) lists (c.in_ok-weights.ensures.each t (omega (arith, n, lt)))));
    }

pub returns-in_err-weights-clause-made : goal.returns-in_err-weights-clause-made
returns-in_err-weights-clause-made g c =
    let made = c.weigh_all.ensures.made in
    let total = c.in_ok-places.ensures.total in
    let a = ap (λ xs. sum_by (λ w. length w.items) xs) c.deref-2.ensures.value in
    omega (arith, made, total, a)

pub returns-clause-made : goal.returns-clause-made
returns-clause-made g c =
    let made = c.weigh_all.ensures.made in
    let total = c.in_ok-places.ensures.total in
    let a = ap (λ xs. sum_by (λ w. length w.items) xs) c.deref-2.ensures.value in
    omega (arith, made, total, a)
