use Rattle.std.proofs.Common.{◌≡◌, ◌∙◌, ℕ, ◌≤◌, List, [], ◌∷◌, length, replicate, map, ap, sym, subst}
use Rattle.std.specs.Arc.{arc_value}
use Rattle.lama_model.specs.Row.{edges_in, AreTargetsBelow}
use Rattle.lama_snapshot.specs.BaseRows.{Numbered, base_records, base_slots, base_weights}
use Rattle.lama_snapshot.specs.Levels.{table_of, change_of}
use Rattle.lama_snapshot.specs.Chains.{Table, rows_from}
use Rattle.lama_model.specs.Change.{Change}
use Rattle.lama_snapshot.specs.History.{IsHistory}
use Rattle.lama_snapshot.proofs.HistoryAfter.{base-history}
use Rattle.lama_snapshot.specs.Snap.{layout_of, IsSnap}
use Rattle.lama_snapshot.proofs.BaseSnap.{base-snap}
use Rattle.lama_snapshot.proofs.snapshot.Snapshot.from_base.Goals as goal

pub invariant_of-result : goal.invariant_of-result
invariant_of-result c =
    let b : Numbered = arc_value c.args.base in
    let e = c.edge_count-edge_count.ensures in
    let floor : c.deref-floor.result.now ≡ b = c.deref-floor.ensures in
    let records : c.in_ok-vertices.vertices ≡ base_records b.number 0 b.rows = c.in_ok-vertices.ensures ∙ (c.vertices.ensures ∙ ap (λ (x : Numbered). base_records x.number 0 x.rows) floor) in
    let h = base-snap b c.in_ok-vertices.vertices records (subst (λ k. k ≤ 33554432) (e.edges ∙ ap (λ (x : Numbered). edges_in x.rows) floor) e.few) (subst (λ (x : Numbered). length x.rows ≤ 4194304) floor e.vertices) (subst (λ (x : Numbered). AreTargetsBelow (length x.rows) x.rows) floor e.targets) (subst (λ k. k ≤ 100000000) (c.number-number.ensures.is ∙ ap (λ (x : Numbered). x.number) floor) c.number-number.ensures.limit) in
    let n : b.number ≡ c.number-number.result = sym (c.number-number.ensures.is ∙ ap (λ (x : Numbered). x.number) floor) in
    let m : edges_in b.rows ≡ c.edge_count-edge_count.result = sym (e.edges ∙ ap (λ (x : Numbered). edges_in x.rows) floor) in
    let none : [] ≡ map table_of (map arc_value c.new.result.items) = sym (ap (λ xs. map table_of (map arc_value xs)) c.new.ensures.items) in
    let marks : replicate (length (base_slots b.rows)) 0 ∷ [] ≡ c.in_ok-hidden.hidden.items = sym (c.in_ok-hidden.ensures.items ∙ ap (λ x. x ∷ []) (c.in_ok-share.ensures ∙ (c.hidden.ensures ∙ ap (λ (x : Numbered). replicate (length (base_slots x.rows)) 0) floor))) in
    let weights : base_weights b.rows ∷ [] ≡ c.in_ok-weights.weights.items = sym (c.in_ok-weights.ensures.items ∙ ap (λ x. x ∷ []) (c.in_ok-share-2.ensures ∙ (c.weights.ensures ∙ ap (λ (x : Numbered). base_weights x.rows) floor))) in
    let P : ℕ × ℕ × List Table × List (List ℕ) × List (List ℕ) → Type 0 = λ p. IsSnap p.0 p.1 c.in_ok-vertices.vertices b p.2 (record { marks = p.3; weights = p.4 }) in
    let no_changes : [] ≡ map change_of (map arc_value c.new.result.items) = sym (ap (λ xs. map change_of (map arc_value xs)) c.new.ensures.items) in
    let Q : List Table × List (List ℕ) × List (List ℕ) × List Change → Type 0 = λ p. IsHistory (layout_of b p.0) (record { marks = p.1; weights = p.2 }) c.in_ok-vertices.vertices p.3 in
    record {
      snap = subst P (λ j. (n j, m j, none j, marks j, weights j)) h.1;
      history = subst Q (λ j. (none j, marks j, weights j, no_changes j)) (base-history b c.in_ok-vertices.vertices (edges_in b.rows) h.1 h.0);
    }

pub returns-clause-rows : goal.returns-clause-rows
returns-clause-rows c =
    let b : Numbered = arc_value c.args.base in
    let e = c.edge_count-edge_count.ensures in
    let floor : c.deref-floor.result.now ≡ b = c.deref-floor.ensures in
    let records : c.in_ok-vertices.vertices ≡ base_records b.number 0 b.rows = c.in_ok-vertices.ensures ∙ (c.vertices.ensures ∙ ap (λ (x : Numbered). base_records x.number 0 x.rows) floor) in
    let h = base-snap b c.in_ok-vertices.vertices records (subst (λ k. k ≤ 33554432) (e.edges ∙ ap (λ (x : Numbered). edges_in x.rows) floor) e.few) (subst (λ (x : Numbered). length x.rows ≤ 4194304) floor e.vertices) (subst (λ (x : Numbered). AreTargetsBelow (length x.rows) x.rows) floor e.targets) (subst (λ k. k ≤ 100000000) (c.number-number.ensures.is ∙ ap (λ (x : Numbered). x.number) floor) c.number-number.ensures.limit) in
    let marks : c.in_ok-hidden.hidden.items ≡ replicate (length (base_slots b.rows)) 0 ∷ [] = c.in_ok-hidden.ensures.items ∙ ap (λ x. x ∷ []) (c.in_ok-share.ensures ∙ (c.hidden.ensures ∙ ap (λ (x : Numbered). replicate (length (base_slots x.rows)) 0) floor)) in
    let weights : c.in_ok-weights.weights.items ≡ base_weights b.rows ∷ [] = c.in_ok-weights.ensures.items ∙ ap (λ x. x ∷ []) (c.in_ok-share-2.ensures ∙ (c.weights.ensures ∙ ap (λ (x : Numbered). base_weights x.rows) floor)) in
    ap (λ xs. rows_from (layout_of b (map table_of (map arc_value xs))) (record { marks = c.in_ok-hidden.hidden.items; weights = c.in_ok-weights.weights.items }) c.in_ok-vertices.vertices) c.new.ensures.items
    ∙ (ap (λ (x : List (List ℕ)). rows_from (layout_of b []) (record { marks = x; weights = c.in_ok-weights.weights.items }) c.in_ok-vertices.vertices) marks
    ∙ (ap (λ (x : List (List ℕ)). rows_from (layout_of b []) (record { marks = replicate (length (base_slots b.rows)) 0 ∷ []; weights = x }) c.in_ok-vertices.vertices) weights ∙ h.0))
