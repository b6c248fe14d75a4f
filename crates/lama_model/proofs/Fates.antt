-- A changed row by what the writes make of each edge.
use Rattle.std.proofs.Common.{◌≡◌, ◌∙◌, ℕ, ◌+◌, ◌-◌, List, [], ◌∷◌, ◌++◌, length, take, reverse, cond, eqb, Bool, true, false, refl, sym, ap, subst, arith, Option, Some}
use Rattle.std.specs.Prelude.{filter, is_none}
use Rattle.std.specs.List.{enumerate_from}
use Rattle.std.proofs.lemmas.List.{length-append, take_at, reverse-append}
use Rattle.lama_base.specs.declared.Edge.{Edge}
use Rattle.lama_model.specs.declared.calls.Write.{Write}
use Rattle.lama_model.specs.Graph.{Graph, no_graph}
use Rattle.lama_model.specs.Row.{row, leaving}
use Rattle.lama_model.specs.Change.{RowChange, weight_of, indexes_gone, indexes_reweighed, with_new_weight, numbered_after, numbered_row, graph_after, row_change}
use Rattle.lama_model.proofs.Thinning.{plain, plain-filter, plain-enumerate, leaves, pairs_of, pairs_of-plain, thin, run_fate, fates_after, thinned, AreFrom-weaker}
use Rattle.lama_model.proofs.ChangeLaw.{Looks, looks, map-reverse, kept, kept-old, gone-kept, row-parts}

-- the indexes, from i on, of the edges that are gone after the writes
abbrev pub gone_edges : ℕ → List Write → List Edge → List ℕ
gone_edges i ws [] = []
gone_edges i ws (e ∷ es) = cond (is_none (run_fate ws e (Some e.weight))) (i ∷ gone_edges (i + 1) ws es) (gone_edges (i + 1) ws es)

-- and those of the edges that have another weight, with it
abbrev pub set_edges : ℕ → List Write → List Edge → List (ℕ × ℕ)
set_edges i ws [] = []
set_edges i ws (e ∷ es) = with_new_weight i e.weight (run_fate ws e (Some e.weight)) (set_edges (i + 1) ws es)

-- the edges of u, newest first
abbrev pub edges_from : ℕ → List Edge → List Edge
edges_from u es = reverse (filter (λ (e : Edge). eqb e.source u) es)

-- each numbered edge has the later weight that the writes make of it
abbrev Agree : List Write → List (ℕ × Edge) → List (ℕ × Edge) → Type 0
Agree ws later [] = Unit {0}
Agree ws later (p ∷ ps) = (weight_of p.0 later ≡ run_fate ws p.1 (Some p.1.weight)) × Agree ws later ps

agree-looks : (ws : List Write) (later : List (ℕ × Edge)) (k : ℕ) (es : List Edge) → Looks later k (fates_after ws es) es → Agree ws later (enumerate_from k es)
agree-looks ws later k [] h = tt
agree-looks ws later k (e ∷ es) h = (h.0, agree-looks ws later (k + 1) es h.1)

agree-append : (ws : List Write) (later ps qs : List (ℕ × Edge)) → Agree ws later ps → Agree ws later qs → Agree ws later (ps ++ qs)
agree-append ws later [] qs h i = i
agree-append ws later (p ∷ ps) qs h i = (h.0, agree-append ws later ps qs h.1 i)

agree-reverse : (ws : List Write) (later ps : List (ℕ × Edge)) → Agree ws later ps → Agree ws later (reverse ps)
agree-reverse ws later [] h = tt
agree-reverse ws later (p ∷ ps) h = subst (Agree ws later) (sym (reverse-append (p ∷ []) ps)) (agree-append ws later (reverse ps) (p ∷ []) (agree-reverse ws later ps h.1) (h.0, tt))

agree-filter : (test : ℕ × Edge → Bool) (ws : List Write) (later ps : List (ℕ × Edge)) → Agree ws later ps → Agree ws later (filter test ps)
agree-filter test ws later [] h = tt
agree-filter test ws later (p ∷ ps) h = by (test p) (agree-filter test ws later ps h.1)
  where
    by : (b : Bool) → Agree ws later (filter test ps) → Agree ws later (cond b (p ∷ filter test ps) (filter test ps))
    by true rest = (h.0, rest)
    by false rest = rest

gone-agree : (i : ℕ) (ws : List Write) (later ps : List (ℕ × Edge)) → Agree ws later ps → indexes_gone i later ps ≡ gone_edges i ws (plain ps)
gone-agree i ws later [] h = refl
gone-agree i ws later (p ∷ ps) h =
    ap (λ (o : Option ℕ). cond (is_none o) (i ∷ indexes_gone (i + 1) later ps) (indexes_gone (i + 1) later ps)) h.0
    ∙ ap (λ xs. cond (is_none (run_fate ws p.1 (Some p.1.weight))) (i ∷ xs) xs) (gone-agree (i + 1) ws later ps h.1)

set-agree : (i : ℕ) (ws : List Write) (later ps : List (ℕ × Edge)) → Agree ws later ps → indexes_reweighed i later ps ≡ set_edges i ws (plain ps)
set-agree i ws later [] h = refl
set-agree i ws later (p ∷ ps) h =
    ap (λ (o : Option ℕ). with_new_weight i p.1.weight o (indexes_reweighed (i + 1) later ps)) h.0
    ∙ ap (with_new_weight i p.1.weight (run_fate ws p.1 (Some p.1.weight))) (set-agree (i + 1) ws later ps h.1)

-- a changed row, edge by edge
pub row_change-fates : (g : Graph) (writes : List Write) (u : ℕ) →
    row_change g writes u ≡ record { source = u; added = row (graph_after writes no_graph) u; killed = gone_edges 0 writes (edges_from u g.edges); set = set_edges 0 writes (edges_from u g.edges) }
unfolding row_change
row_change-fates g writes u =
    let t = thinned g writes in
    let later = (numbered_after writes g).edges in
    let old = numbered_row g u in
    let gone = indexes_gone 0 later old in
    let sees : Looks later 0 t.fates g.edges = subst (λ ps. Looks ps 0 t.fates g.edges) (sym t.edges) (looks 0 t.fates g.edges t.new t.are (AreFrom-weaker (0 + length g.edges) (length g.edges) t.new (omega arith) t.past)) in
    let agrees : Agree writes later old = agree-reverse writes later (filter (leaves u) (enumerate_from 0 g.edges)) (agree-filter (leaves u) writes later (enumerate_from 0 g.edges) (agree-looks writes later 0 g.edges (subst (λ fs. Looks later 0 fs g.edges) t.fates_are sees))) in
    let edges : plain old ≡ edges_from u g.edges =
    map-reverse (λ (p : ℕ × Edge). p.1) (filter (leaves u) (enumerate_from 0 g.edges))
    ∙ ap reverse (plain-filter (λ (e : Edge). eqb e.source u) (enumerate_from 0 g.edges) ∙ ap (filter (λ (e : Edge). eqb e.source u)) (plain-enumerate 0 g.edges)) in
    let killed : gone ≡ gone_edges 0 writes (edges_from u g.edges) = gone-agree 0 writes later old agrees ∙ ap (gone_edges 0 writes) edges in
    let set : indexes_reweighed 0 later old ≡ set_edges 0 writes (edges_from u g.edges) = set-agree 0 writes later old agrees ∙ ap (set_edges 0 writes) edges in
    let new = pairs_of u t.new in
    let left = pairs_of u (thin 0 t.fates g.edges) in
    let parts : row (graph_after writes g) u ≡ new ++ left = row-parts g writes u in
    let stays : kept later old ≡ left = kept-old g writes u in
    let counts = gone-kept 0 later old in
    let same : length (kept later old) ≡ length left = ap length stays in
    let whole : length (row (graph_after writes g) u) ≡ length new + length left = ap length parts ∙ length-append new left in
    let many : length (row (graph_after writes g) u) - (length old - length gone) ≡ length new = omega (arith, counts, same, whole) in
    let added : take (length (row (graph_after writes g) u) - (length old - length gone)) (row (graph_after writes g) u) ≡ row (graph_after writes no_graph) u =
    ap (λ n. take n (row (graph_after writes g) u)) many
    ∙ (ap (take (length new)) parts ∙ (take_at new left (length new) refl ∙ (pairs_of-plain u t.new ∙ ap (λ es. reverse (leaving u es)) t.new_are))) in
    ap (λ (ps : List (ℕ × ℕ)). let c : RowChange = record { source = u; added = ps; killed = gone; set = indexes_reweighed 0 later old } in c) added
    ∙ (ap (λ (ks : List ℕ). let c : RowChange = record { source = u; added = row (graph_after writes no_graph) u; killed = ks; set = indexes_reweighed 0 later old } in c) killed
    ∙ ap (λ (ss : List (ℕ × ℕ)). let c : RowChange = record { source = u; added = row (graph_after writes no_graph) u; killed = gone_edges 0 writes (edges_from u g.edges); set = ss } in c) set)
