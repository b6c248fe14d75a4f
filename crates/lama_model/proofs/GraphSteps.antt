-- From one number to the next: the change of the later one, done on the rows of the earlier one.
use Rattle.std.proofs.Common.{◌≡◌, ◌∙◌, ℕ, zero, suc, ◌+◌, ◌-◌, ◌<◌, ◌≤◌, List, [], ◌∷◌, ◌++◌, length, get_or, map, reverse, take, Bool, true, false, cond, eqb, leb, refl, sym, ap, subst, arith, inl, inr, ◌⊎◌}
use Rattle.std.specs.Prelude.{filter, All}
use Rattle.std.specs.List.{AllByRecursion, range_with_len}
use Rattle.std.proofs.lemmas.Bool.{cases_lt}
use Rattle.std.proofs.lemmas.Bool.Decides.{nat_tests}
use Rattle.std.proofs.lemmas.List.{take_more, get_or_past, get_or_append_left, get_or_push, length_push}
use Rattle.std.proofs.lemmas.List.Elements.{recursion_from_All, All-weaker, All-push, All-nil, All-get_or}
use Rattle.std.proofs.lemmas.List.FromFn.{length-map-range_with_len, get_or-map-range_with_len}
use Rattle.std.proofs.lemmas.List.Sums.{fold-append}
use Rattle.lama_base.specs.declared.Edge.{Edge}
use Rattle.lama_model.specs.Graph.{Graph, IsGraph, no_graph}
use Rattle.lama_model.specs.Row.{row, row_at, rows_of, AreRowsOf}
use Rattle.lama_model.specs.Change.{RowChange, Change, IsRowChange, IsChange, row_after, row_through, row_done, graph_after, changed, change_between}
use Rattle.lama_model.specs.Opening.{Opening, IsOpening, first_number, last_number, opening_graph, opening_change, no_change, with_changes}
use Rattle.lama_model.specs.Journal.{Standing, newest_of, graph_of, change_of, standing, newest, graph, change, reply_at, is_accepted, done, after}
use Rattle.lama_model.specs.declared.calls.Write.{Write}
use Rattle.lama_model.specs.declared.calls.Call.{Call}
use Rattle.lama_model.specs.declared.calls.Call.TheVariants.{Write as Writes, Checkpoint, Look, LookAt, Install, Retire}
use Rattle.lama_model.specs.declared.calls.Entry.{Entry}
use Rattle.lama_model.proofs.ChangeLaw.{change_law, change_law-past}
use Rattle.lama_model.proofs.RowsOfGraph.{row-of-rows}
use Rattle.lama_model.proofs.StandingLemmas.{IsStanding, standing-keeps, standing-step, is_standing, graph_after-count, graph_of-made, graph_of-new}

filter-none : (n v : ℕ) (es : List Edge) → n ≤ v → All (λ e. e.source < n) es → filter (λ e. eqb e.source v) es ≡ []
filter-none n v es le below = none es (recursion_from_All (λ (e : Edge). e.source < n) es below)
  where
    none : (es : List Edge) → AllByRecursion (λ (e : Edge). e.source < n) es → filter (λ e. eqb e.source v) es ≡ []
    none [] h = refl
    none (e ∷ es) h =
        let lt = h.0 in
        let other : eqb e.source v ≡ false = grind (arith, nat_tests, lt, le) in
        ap (λ b. cond b (e ∷ filter (λ e. eqb e.source v) es) (filter (λ e. eqb e.source v) es)) other ∙ none es h.1

-- a vertex past the count has no edges
pub row-past : (g : Graph) (v : ℕ) → IsGraph g → g.count ≤ v → row g v ≡ []
row-past g v is le = ap (λ (es : List Edge). reverse (map (λ e. (e.target, e.weight)) es)) (filter-none g.count v g.edges le (All-weaker (λ (e : Edge). (e.source < g.count) × (e.target < g.count)) (λ (e : Edge). e.source < g.count) (λ e h. h.0) g.edges is))

-- the rows are those of the graph past their end too
pub row-everywhere : (rows : List (List (ℕ × ℕ))) (g : Graph) (v : ℕ) → AreRowsOf rows g → IsGraph g → row_at rows v ≡ row g v
row-everywhere rows g v of is = by (cases_lt v g.count)
  where
    by : (v < g.count) ⊎ (g.count ≤ v) → row_at rows v ≡ row g v
    by (inl lt) = of.each v lt
    by (inr ge) = (let c = of.count in get_or_past rows v [] (omega (arith, c, ge))) ∙ sym (row-past g v is ge)

-- a change of sources below the count leaves the row of a vertex past it
pub row_after-none : (n v : ℕ) (rows : List RowChange) (r : List (ℕ × ℕ)) → n ≤ v → All (IsRowChange n) rows → row_after rows v r ≡ r
row_after-none n v rows r le valid = none rows (recursion_from_All (IsRowChange n) rows valid)
  where
    none : (rows : List RowChange) → AllByRecursion (IsRowChange n) rows → row_after rows v r ≡ r
    none [] h = refl
    none (c ∷ rows) h =
        let lt = h.0.source in
        let other : eqb c.source v ≡ false = grind (arith, nat_tests, lt, le) in
        ap (λ b. cond b (row_done c r) (row_after rows v r)) other ∙ none rows h.1

-- each graph that was made is the one before it after the writes between them
abbrev AreSteps : Opening → Standing → Type 0
AreSteps o s = (k : ℕ) → last_number o ≤ k → k < newest_of o s → graph_of o s (k + 1) ≡ graph_after (get_or s.written (k - last_number o) []) (graph_of o s k)

-- what a journal leaves, and that its graphs are graphs
pub record IsSound (o : Opening) (s : Standing) : Type 0 where
  pub is : IsStanding o s
  pub made : All IsGraph s.made
  pub steps : AreSteps o s

steps-made : (o : Opening) (s : Standing) → IsSound o s → AreSteps o (done Checkpoint s)
steps-made o s h k low high = let more = length_push s.made s.graph in at (omega (arith, high, more)) (cases_lt k (newest_of o s))
  where
    t : Standing
    t = done Checkpoint s

    at : k ≤ newest_of o s → (k < newest_of o s) ⊎ (newest_of o s ≤ k) → graph_of o t (k + 1) ≡ graph_after (get_or t.written (k - last_number o) []) (graph_of o t k)
    at le (inl lt) =
        let n = h.is.written in
        let ws : get_or t.written (k - last_number o) [] ≡ get_or s.written (k - last_number o) [] = get_or_append_left s.written (s.pending ∷ []) [] (k - last_number o) (omega (arith, low, lt, n)) in
        let same : graph_of o t k ≡ graph_of o s k = graph_of-made o s s.graph k le in
        graph_of-made o s s.graph (k + 1) (omega (arith, lt)) ∙ (h.steps k low lt ∙ sym (λ j. graph_after (ws j) (same j)))
    at le (inr ge) =
        let n = h.is.written in
        let here : k ≡ newest_of o s = omega (arith, le, ge) in
        let ws : get_or t.written (k - last_number o) [] ≡ s.pending = get_or_push s.written s.pending [] (k - last_number o) (omega (arith, here, n)) in
        let same : graph_of o t k ≡ graph_of o s k = graph_of-made o s s.graph k le in
        ap (λ i. graph_of o t (i + 1)) here
        ∙ (graph_of-new o s s.graph ∙ (h.is.stands ∙ (ap (λ i. graph_after s.pending (graph_of o s i)) (sym here) ∙ sym (λ j. graph_after (ws j) (same j)))))

sound-step : (o : Opening) (s : Standing) (call : Call) → IsSound o s → IsSound o (after o s call)
unfolding after
sound-step o s call h = record { is = standing-step o s call h.is; made = made (is_accepted (reply_at o s call)) call; steps = steps (is_accepted (reply_at o s call)) call }
  where
    made : (b : Bool) (call : Call) → All IsGraph (cond b (done call s) s).made
    made false call = h.made
    made true (Writes w) = h.made
    made true Checkpoint = All-push IsGraph s.made s.graph h.made h.is.is_graph
    made true Look = h.made
    made true (LookAt k) = h.made
    made true (Install k) = h.made
    made true (Retire k) = h.made

    steps : (b : Bool) (call : Call) → AreSteps o (cond b (done call s) s)
    steps false call = h.steps
    steps true (Writes w) = h.steps
    steps true Checkpoint = steps-made o s h
    steps true Look = h.steps
    steps true (LookAt k) = h.steps
    steps true (Install k) = h.steps
    steps true (Retire k) = h.steps

pub sound : (o : Opening) → IsOpening o → (journal : List Entry) → IsSound o (standing o journal)
unfolding standing
sound o is journal = standing-keeps o (IsSound o) (record { is = is_standing o is []; made = All-nil IsGraph; steps = λ k low high. absurd (omega (arith, low, high)) }) (sound-step o) journal

pub graph-is : (o : Opening) (s : Standing) (k : ℕ) → IsOpening o → IsSound o s → k ≤ newest_of o s → IsGraph (graph_of o s k)
graph-is o s k is h le = by (leb k (last_number o)) refl
  where
    by : (b : Bool) → leb k (last_number o) ≡ b → IsGraph (cond b (opening_graph o k) (get_or s.made (k - last_number o - 1) no_graph))
    by true t = is.graphs k
    by false t = let above : last_number o < k = grind (arith, nat_tests, t) in All-get_or IsGraph s.made (k - last_number o - 1) no_graph (omega (arith, above, le)) h.made

length-rows_of : (g : Graph) → length (rows_of g) ≡ g.count
unfolding rows_of
length-rows_of g = length-map-range_with_len (row g) 0 g.count

-- a change of an opening, done on the rows of the graph before it
opening-step : (o : Opening) (k v : ℕ) → IsOpening o → first_number o ≤ k → k < last_number o → row_after (opening_change o (k + 1)).rows v (row (opening_graph o k) v) ≡ row (opening_graph o (k + 1)) v
opening-step o k v is low high =
    let c = opening_change o (k + 1) in
    let g = opening_graph o k in
    let place : k + 1 - o.floor - 1 ≡ k - o.floor = omega (arith, low) in
    let front : take (k + 1 - o.floor) o.changes ≡ take (k - o.floor) o.changes ++ c ∷ [] =
    ap (λ n. take n o.changes) (let e : k + 1 - o.floor ≡ k - o.floor + 1 = omega (arith, low) in e)
    ∙ (take_more o.changes (k - o.floor) no_change (omega (arith, low, high)) ∙ ap (λ n. take (k - o.floor) o.changes ++ get_or o.changes n no_change ∷ []) (sym place)) in
    let next : opening_graph o (k + 1) ≡ changed g c = ap (with_changes o.graph) front ∙ fold-append (λ (h : Graph) (c : Change). changed h c) o.graph (take (k - o.floor) o.changes) (c ∷ []) in
    let valid : IsChange c = All-get_or IsChange o.changes (k + 1 - o.floor - 1) no_change (omega (arith, low, high)) is.valid in
    let grows = (is.fits k low high).grows in
    let size = length-rows_of g in
    sym (ap (λ (h : Graph). row h v) next ∙ (row-of-rows (map (λ u. row_after c.rows u (row g u)) (range_with_len 0 c.count)) v ∙ by c g valid (omega (arith, grows, size)) (is.graphs k) (cases_lt v c.count)))
  where
    by : (c : Change) (g : Graph) → IsChange c → g.count ≤ c.count → IsGraph g → (v < c.count) ⊎ (c.count ≤ v) → row_at (map (λ u. row_after c.rows u (row g u)) (range_with_len 0 c.count)) v ≡ row_after c.rows v (row g v)
    by c g valid grows is (inl lt) = get_or-map-range_with_len (λ u. row_after c.rows u (row g u)) 0 c.count v v [] lt (omega arith)
    by c g valid grows is (inr ge) =
        let size = length-map-range_with_len (λ u. row_after c.rows u (row g u)) 0 c.count in
        get_or_past (map (λ u. row_after c.rows u (row g u)) (range_with_len 0 c.count)) v [] (omega (arith, size, ge))
        ∙ sym (row_after-none c.count v c.rows (row g v) ge valid.rows ∙ row-past g v is (omega (arith, grows, ge)))

-- the change of each number above the floor, done on the rows of the graph before it
pub graph-step : (o : Opening) (s : Standing) (k v : ℕ) → IsOpening o → IsSound o s → first_number o ≤ k → k < newest_of o s → row_after (change_of o s (k + 1)).rows v (row (graph_of o s k) v) ≡ row (graph_of o s (k + 1)) v
unfolding change_of
graph-step o s k v is h low high = by (cases_lt k (last_number o))
  where
    made : (g' : Graph) → graph_of o s (k + 1) ≡ g' → (v < g'.count) ⊎ (g'.count ≤ v) → (ws : List Write) → g' ≡ graph_after ws (graph_of o s k) → row_after (change_between (graph_of o s k) ws (k + 1)).rows v (row (graph_of o s k) v) ≡ row g' v
    made g' is' (inl lt) ws step = let n = ap (λ (h : Graph). h.count) step in change_law (graph_of o s k) ws (graph_after ws (graph_of o s k)).count v (omega (arith, lt, n)) ∙ ap (λ (h : Graph). row h v) (sym step)
    made g' is' (inr ge) ws step =
        let n = ap (λ (h : Graph). h.count) step in
        let grows = graph_after-count ws (graph_of o s k) in
        let old : row (graph_of o s k) v ≡ [] = row-past (graph_of o s k) v (graph-is o s k is h (omega (arith, high))) (omega (arith, n, grows, ge)) in
        change_law-past (graph_of o s k) ws (graph_after ws (graph_of o s k)).count v (row (graph_of o s k) v) (omega (arith, n, ge))
        ∙ (old ∙ sym (row-past g' v (subst IsGraph is' (graph-is o s (k + 1) is h (omega (arith, high)))) ge))

    by : (k < last_number o) ⊎ (last_number o ≤ k) → row_after (change_of o s (k + 1)).rows v (row (graph_of o s k) v) ≡ row (graph_of o s (k + 1)) v
    by (inl lt) =
        let now : leb k (last_number o) ≡ true = grind (arith, nat_tests, lt) in
        let next : leb (k + 1) (last_number o) ≡ true = grind (arith, nat_tests, lt) in
        let g : graph_of o s k ≡ opening_graph o k = ap (λ b. cond b (opening_graph o k) (get_or s.made (k - last_number o - 1) no_graph)) now in
        let g' : graph_of o s (k + 1) ≡ opening_graph o (k + 1) = ap (λ b. cond b (opening_graph o (k + 1)) (get_or s.made (k + 1 - last_number o - 1) no_graph)) next in
        let c : change_of o s (k + 1) ≡ opening_change o (k + 1) = ap (λ b. cond b (opening_change o (k + 1)) (change_between (graph_of o s (k + 1 - 1)) (get_or s.written (k + 1 - last_number o - 1) []) (k + 1))) next in
        (λ j. row_after (c j).rows v (row (g j) v)) ∙ (opening-step o k v is low lt ∙ ap (λ (h : Graph). row h v) (sym g'))
    by (inr ge) =
        let next : leb (k + 1) (last_number o) ≡ false = grind (arith, nat_tests, ge) in
        let before : k + 1 - 1 ≡ k = omega arith in
        let place : k + 1 - last_number o - 1 ≡ k - last_number o = omega (arith, ge) in
        let c : change_of o s (k + 1) ≡ change_between (graph_of o s k) (get_or s.written (k - last_number o) []) (k + 1) =
        ap (λ b. cond b (opening_change o (k + 1)) (change_between (graph_of o s (k + 1 - 1)) (get_or s.written (k + 1 - last_number o - 1) []) (k + 1))) next
        ∙ (λ j. change_between (graph_of o s (before j)) (get_or s.written (place j) []) (k + 1)) in
        ap (λ (x : Change). row_after x.rows v (row (graph_of o s k) v)) c
        ∙ made (graph_of o s (k + 1)) refl (cases_lt v (graph_of o s (k + 1)).count) (get_or s.written (k - last_number o) []) (h.steps k ge high)

pub rows-through : (o : Opening) (journal : List Entry) (k n v : ℕ) → IsOpening o → first_number o ≤ k → k + n ≤ newest o journal →
    row_through (map (change o journal) (range_with_len (k + 1) n)) v (row (graph o journal k) v) ≡ row (graph o journal (k + n)) v
rows-through o journal k zero v is low high = ap (λ i. row (graph o journal i) v) (let e : k ≡ k + 0 = omega arith in e)
rows-through o journal k (suc n) v is low high =
    let first = graph-step o (standing o journal) k v is (sound o is journal) low (omega (arith, high)) in
    ap (row_through (map (change o journal) (range_with_len (k + 1 + 1) n)) v) first
    ∙ (rows-through o journal (k + 1) n v is (omega (arith, low)) (omega (arith, high)) ∙ ap (λ i. row (graph o journal i) v) (let e : k + 1 + n ≡ k + suc n = omega arith in e))
